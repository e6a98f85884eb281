-- A row of the table as it is written, and a row that the next one leaves as it is.
-- Assumes nothing.
use Rattle.std.specs.Prelude.{ℕ, suc, ◌+◌, ◌≡◌, false, List, [], ◌∷◌, ◌++◌, set}
use Rattle.summary.specs.Sums.{bit_of}
use Rattle.key.specs.Mark.{mark}
use Rattle.motif.specs.Held.{level_in, calls_in}
use Rattle.within.specs.declared.inside.Made.{Made}

-- numbers stored one behind the other, the first at place at + k
unfoldable pub written : (t : List ℕ) → (at k : ℕ) → (vs : List ℕ) → List ℕ
written t at k [] = t
written t at k (v ∷ vs) = written (set t (at + k) v) at (suc k) vs

-- the row of a motif that has no level yet: its key, the place of its bytes, no level and the summary of no operator, whom it calls, whether it names one that is
-- not held
unfoldable pub new_row : (key : List ℕ) → (start long : ℕ) → Made → List ℕ
new_row key start long made = key ++ (start ∷ long ∷ 0 ∷ 48 ∷ made.calls ∷ bit_of made.missing ∷ [])

-- row j has a level, and no mark for the row that comes next
pub record Done (t : List ℕ) (next j : ℕ) : Type 0 where
  pub level : level_in t j ≡ 0 → ⊥
  pub unmarked : mark (calls_in t j) next ≡ false
