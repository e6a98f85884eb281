-- What the rounds compute: tables with a mark for each row, the first turn at which a row is marked, and the calls that come to a pattern that is not defined.
-- Assumes nothing.
use Rattle.std.specs.Prelude.{ℕ, zero, suc, ◌+◌, ◌<◌, ◌≡◌, Bool, true, false, not, List, [], eqb, ltb}
use Rattle.std.specs.Int.Bits.{bit_and}
use Rattle.scope.specs.Choice.{pick}
use Rattle.scope.specs.Motif.{Motif, Held, held_as}
use Rattle.scope.specs.Judge.{some_missing}
use Rattle.scope.specs.Reach.{Name, any, steps, called_by}
use Rattle.key.specs.Mark.{mark}
use Rattle.motif.specs.Held.{InRow, calls_in, missing_in}
use Rattle.pattern_rows.specs.Numbers.{OfPage, OfSession, numbers_in}
use Rattle.patterns.specs.Selects.{selects_in}

-- r has the marks of own, and of those of the first n rows of which f is true
pub record Adds (own : ℕ) (f : ℕ → Bool) (n r : ℕ) : Type 0 where
  pub at : (k : ℕ) → mark r k ≡ pick (mark own k) true (pick (ltb k n) (f k) false)

-- row i names a motif that is not held
abbrev pub lacks : (t : List ℕ) → (i : ℕ) → Bool
lacks t i = not (eqb (missing_in t i) 0)

-- row i calls one that the table marks
abbrev pub reaches : (t : List ℕ) → (table i : ℕ) → Bool
reaches t table i = not (eqb (bit_and (calls_in t i) table) 0)

-- the table marks, of the first n rows, those of the motifs of whose names f is true
pub record Shows (ms : List Motif) (n : ℕ) (f : Name → Bool) (table : ℕ) : Type 0 where
  pub at : (i : ℕ) (m : Motif) → InRow ms i m → mark table i ≡ f m.name
  pub below : (k : ℕ) → mark table k ≡ true → k < n

-- the first of 0 to d - 1 at which f is true; d for none
unfoldable pub least : (ℕ → Bool) → ℕ → ℕ
least f zero = 0
least f (suc d) = pick (ltb (least f d) d) (least f d) (pick (f d) d (suc d))

-- from x to v and from v round to v, by 32 calls or fewer in all
unfoldable pub closes : List Motif → (v x : Name) → Bool
closes ms v x = ltb (least (λ t. steps (called_by ms) t v x) 32 + least (λ t. steps (called_by ms) (suc t) v v) 32) 32

-- the numbers of row i are not all defined
abbrev pub wants_more : (p : List ℕ) → (i : ℕ) → Bool
wants_more p i = some_missing (numbers_in p OfPage) (numbers_in p OfSession) (numbers_in p i)

-- the patterns that the motif of a name selects itself; none where the name is not held
abbrev pub selects_of : Held → List ℕ
selects_of (Held.is m) = selects_in m.ops
selects_of Held.none = []

-- a pattern that the motif of a name selects itself is not defined
abbrev pub bad : (of_page of_session : List ℕ) → List Motif → Name → Bool
bad of_page of_session ms n = some_missing of_page of_session (selects_of (held_as n ms))

-- a call of n comes to a name of which wrong is true, n itself or one that it calls, within d levels
unfoldable pub unmet : (wrong : Name → Bool) → (called_by : Name → List Name) → (d : ℕ) → Name → Bool
unmet wrong called_by zero n = false
unmet wrong called_by (suc d) n = pick (wrong n) true (any (unmet wrong called_by d) (called_by n))
