-- Names that come one after the other to an empty table, computed: "b", then "a", then "ab". The column has a, ab, b, and each name is found in the row that it came to.
-- Assumes nothing.
use Prim.Native.Nat.{ℕ, ◌+◌, ◌*◌}
use mathlib.Core.Path.{◌≡◌, refl}
use mathlib.Core.Bool.{true, false}
use mathlib.Core.List.{List, [], ◌∷◌}
use lib.ListN.{length, replicate, take, drop, set}
use Rattle.key.specs.Keys.{packed, key_of}
use Rattle.motif.specs.Before.{before}
use Rattle.motif.specs.Sorted.{middle, halve}
use Rattle.motif.specs.Search.{place_of, row_at, find_in, put_in, entered_in}
use Rattle.scope.specs.Choice.{same}
use Rattle.std.specs.Prelude.{Some, None}

-- "ab" before "abc", byte 127 before byte 128, "b" not before "ab", "a" before "a" and a zero byte
ordered : (before (97 ∷ 98 ∷ []) (97 ∷ 98 ∷ 99 ∷ []) ≡ true)
    × ((before (127 ∷ []) (128 ∷ []) ≡ true) × ((before (98 ∷ []) (97 ∷ 98 ∷ []) ≡ false) × (before (97 ∷ []) (97 ∷ 0 ∷ []) ≡ true)))
unfolding before
ordered = (refl, (refl, (refl, refl)))

-- the name of row n stored, and the row entered
came : (t : List ℕ) → (n : ℕ) → (name : List ℕ) → List ℕ
came t n name = entered_in (set (set (set t (n * 10) (packed name 0 8)) (n * 10 + 1) (packed name 8 8)) (n * 10 + 2) (length name)) n (key_of name)

b : List ℕ
b = 98 ∷ []

a : List ℕ
a = 97 ∷ []

ab : List ℕ
ab = 97 ∷ 98 ∷ []

held : List ℕ
held = came (came (came (replicate 704 0) 0 b) 1 a) 2 ab

column : take 3 (drop 640 held) ≡ 1 ∷ 2 ∷ 0 ∷ []
unfolding held came b a ab packed key_of before middle halve place_of put_in entered_in
column = refl

found : (find_in held (key_of b) 3 ≡ Some 0) × ((find_in held (key_of a) 3 ≡ Some 1) × ((find_in held (key_of ab) 3 ≡ Some 2) × (find_in held (key_of (98 ∷ 97 ∷ [])) 3 ≡ None)))
unfolding held came b a ab packed key_of before same middle halve place_of row_at find_in put_in entered_in
found = (refl, (refl, (refl, refl)))
