-- What the table says of calls: whom each motif calls, how deep it nests, what it comes to. It is made at EndStream, and a call is judged from it alone.
-- Assumes nothing.
use Rattle.std.specs.Prelude.{ℕ, zero, suc, ◌-◌, ◌<◌, ◌≡◌, Bool, not, List, [], eqb}
use Rattle.scope.specs.Choice.{pick}
use Rattle.scope.specs.Arm.{Stroke}
use Rattle.scope.specs.Motif.{Own, Motif, Held, held_as}
use Rattle.scope.specs.Calls.{unfolded}
use Rattle.scope.specs.Reach.{Name, any, fits, names_in, holds, called_by}
use Rattle.summary.specs.Sums.{SumsAs}
use Rattle.key.specs.Mark.{mark}
use Rattle.motif.specs.Held.{Keeps, InRow, level_in, sum_in, calls_in, missing_in}

-- the row of a name; 64, which is no row, where it is not held
abbrev pub row_by : Held → ℕ
row_by (Held.is m) = m.number - 1
row_by Held.none = 64

unfoldable pub row_of : List Motif → Name → ℕ
row_of ms name = row_by (held_as name ms)

-- these operators call the motif of row j
unfoldable pub calls_row : List Motif → List Own → (j : ℕ) → Bool
calls_row ms ops j = any (λ x. eqb (row_of ms x) j) (names_in ops)

-- these operators name a motif that is not held
unfoldable pub lacks_one : List Motif → List Own → Bool
lacks_one ms ops = any (λ x. not (holds ms x)) (names_in ops)

-- whom each motif calls, and whether it names one that is not held
pub record Noted (t : List ℕ) (n : ℕ) (ms : List Motif) : Type 0 where
  pub whom : (i j : ℕ) (m : Motif) → InRow ms i m → j < n → mark (calls_in t i) j ≡ calls_row ms m.ops j
  pub lacks : (i : ℕ) (m : Motif) → InRow ms i m → not (eqb (missing_in t i) 0) ≡ lacks_one ms m.ops

-- the first of the levels 1 to d within which a motif nests, all names held; 0 for none
unfoldable pub level_of : List Motif → (d : ℕ) → Name → ℕ
level_of ms zero x = 0
level_of ms (suc d) x = pick (eqb (level_of ms d x) 0) (pick (fits (holds ms) (called_by ms) (suc d) x) (suc d) 0) (level_of ms d x)

-- what a motif unfolds to, where it has a level; nothing where it has none
unfoldable pub settled_row : List Motif → (level : ℕ) → Name → List Stroke
settled_row ms level x = pick (eqb level 0) [] (unfolded ms 32 [] x)

-- the levels up to d, and of each motif that has one its summary
pub record Settled (t : List ℕ) (ms : List Motif) (d : ℕ) : Type 0 where
  pub level : (i : ℕ) (m : Motif) → InRow ms i m → level_in t i ≡ level_of ms d m.name
  pub summed : (i : ℕ) (m : Motif) → InRow ms i m → SumsAs (sum_in t i) (settled_row ms (level_in t i) m.name)

-- the table is that of these motifs
pub record Tables (t : List ℕ) (n : ℕ) (ms : List Motif) : Type 0 where
  pub keeps : Keeps t n ms
  pub noted : Noted t n ms
  pub settled : Settled t ms 32

-- the table's summaries are those of the rows that f gives each name; a name that is not held has none
abbrev pub SumFor : List ℕ → Held → List Stroke → Type 0
SumFor t (Held.is m) row = SumsAs (sum_in t (m.number - 1)) row
SumFor t Held.none row = row ≡ []

unfoldable pub SumsUp : List ℕ → List Motif → (Name → List Stroke) → Type 0
SumsUp t ms f = (name : Name) → SumFor t (held_as name ms) (f name)
