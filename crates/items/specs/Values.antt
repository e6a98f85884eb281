-- What the code's answers on values and pairs stand for in the definitions.
-- Assumes nothing.
use Rattle.std.specs.Prelude.{ℕ, ◌+◌, ◌≤◌, ◌<◌, List, Result, Ok, Err}
use Rattle.scope.specs.Iterate.{Next, go, stop}
use Rattle.scope.specs.Item.{Kind, plain, array, other, Value, numbers_at, Pair, Scan}
use Rattle.refusal.specs.Codes.{number_of}
use Rattle.refusal.specs.declared.refusal.Refusal.{Refusal}
use Rattle.items.specs.declared.value.Kind.{Kind as CodeKind}
use Rattle.items.specs.declared.value.Kind.TheVariants.{Plain, Array, Other}
use Rattle.items.specs.declared.value.Value.{Value as CodeValue}

-- the kind that the code found, of a tag whose numbers have w bytes
abbrev pub kind_as : ℕ → CodeKind → Kind
kind_as w (Plain n) = plain n w
kind_as w Array = array w
kind_as w Other = other

-- a kind has at most 4 numbers
abbrev pub KindFits : CodeKind → Type 0
KindFits (Plain n) = n ≤ 4
KindFits Array = Unit {0}
KindFits Other = Unit {0}

-- the value that the code found the start of, at a tag whose numbers have w bytes
abbrev pub starts_as : List ℕ → ℕ → ℕ → Result CodeValue Refusal → Value
starts_as s at w (Ok v) = numbers_at s at v.first v.count w
starts_as s at w (Err r) = Value.no (number_of r.code) r.place

-- a value has at most 1024 numbers, and they start near its tag
abbrev pub Starts : ℕ → Result CodeValue Refusal → Type 0
Starts at (Ok v) = (v.count ≤ 1024) × (v.first ≤ at + 6)
Starts at (Err r) = Unit {0}

-- a value's tag stands within the bytes, and fewer than 16 pairs come before it
abbrev pub Taken : ℕ → ℕ → ℕ → Result CodeValue Refusal → Type 0
Taken len at n (Ok v) = (at < len) × (n < 16)
Taken len at n (Err r) = Unit {0}

-- what the code answers to a pair: the place after it, or the refusal that the scan ends with
abbrev pub pair_as : Result ℕ Refusal → Next ℕ Scan
pair_as (Ok next) = go next
pair_as (Err r) = stop (Scan.no (number_of r.code) r.place)

-- the same of a pair of the definitions, whose attribute is stored; where the bytes end while its value waits, that is 27
abbrev pub told : ℕ → Pair → Next ℕ Scan
told len (Pair.is r next) = go next
told len (Pair.no code place) = stop (Scan.no code place)
told len Pair.waits = stop (Scan.no 27 len)
