-- Rows that have names, and a column of row numbers in the order of those names: `names i` is the name of row i, `column k` the row at place k. And the search
-- through such a column by halving.
-- Assumes nothing.
use Rattle.std.specs.Prelude.{ℕ, zero, suc, ◌+◌, ◌-◌, ◌/◌, ◌<◌, ◌≡◌, true, List, ltb}
use Rattle.scope.specs.Choice.{pick}
use Rattle.motif.specs.Before.{before}

-- along the first n places the names rise, and the rows there are those below n, each at its place
pub record Sorted (names : ℕ → List ℕ) (column : ℕ → ℕ) (n : ℕ) : Type 0 where
  pub rising : (j k : ℕ) → j < k → k < n → before (names (column j)) (names (column k)) ≡ true
  pub below : (k : ℕ) → k < n → column k < n
  pub each : (i : ℕ) → i < n → (k : ℕ) × ((k < n) × (column k ≡ i))

-- 64 places are halved at most seven times
abbrev pub rounds : ℕ
rounds = 7

unfoldable pub middle : (lo hi : ℕ) → ℕ
middle lo hi = lo + (hi - lo) / 2

-- between places lo and hi the first whose name is not before the asked one, in at most so many rounds
unfoldable pub halve : (names : ℕ → List ℕ) → (column : ℕ → ℕ) → (name : List ℕ) → (f lo hi : ℕ) → ℕ
halve names column name zero lo hi = lo
halve names column name (suc f) lo hi =
    pick (ltb lo hi) (pick (before (names (column (middle lo hi))) name) (halve names column name f (middle lo hi + 1) hi) (halve names column name f lo (middle lo hi))) lo
