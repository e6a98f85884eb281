-- How the code keeps the held motifs: a table of 64 rows of ten numbers, row 0 for the first motif of the session, and behind the rows a column of 64 row numbers
-- in the order of names. A row has the motif's name as three numbers (Keys), where its bytes begin in the store and how many they are, its level, its summary, whom
-- it calls, and whether it names one that is not held (Tables); one number is spare.
-- Assumes nothing.
use Rattle.std.specs.Prelude.{ℕ, suc, ◌+◌, ◌*◌, ◌%◌, ◌≤◌, ◌≡◌, Option, Some, None, List, [], ◌∷◌, ◌++◌, length, get_or}
use Rattle.scope.specs.Motif.{Motif, Held, held_as, bytes_held}
use Rattle.key.specs.Keys.{key_of, IsName}
use Rattle.motif.specs.Sorted.{Sorted}

-- a number of a row
abbrev pub cell : (t : List ℕ) → (row column : ℕ) → ℕ
cell t i k = get_or t (i * 10 + k) 0

-- the columns, in their order
abbrev pub key_in : List ℕ → ℕ → List ℕ
key_in t i = cell t i 0 ∷ cell t i 1 ∷ cell t i 2 ∷ []

abbrev pub start_in : List ℕ → ℕ → ℕ
start_in t i = cell t i 3

abbrev pub long_in : List ℕ → ℕ → ℕ
long_in t i = cell t i 4

abbrev pub level_in : List ℕ → ℕ → ℕ
level_in t i = cell t i 5

abbrev pub sum_in : List ℕ → ℕ → ℕ
sum_in t i = cell t i 6

abbrev pub calls_in : List ℕ → ℕ → ℕ
calls_in t i = cell t i 7

abbrev pub missing_in : List ℕ → ℕ → ℕ
missing_in t i = cell t i 8

-- the row at place k of the column
abbrev pub order_in : List ℕ → ℕ → ℕ
order_in t k = get_or t (640 + k) 0 % 64

-- the first n rows keep n motifs, which stand last one first: of each its name, which no other has, and the place of its bytes in the store, behind those of the
-- motifs before it
pub data Rows (t : List ℕ) : ℕ → List Motif → Type 0 where
  rows_none : Rows t 0 []
  rows_more : {n : ℕ} {m : Motif} {ms : List Motif} → key_in t n ≡ key_of m.name → IsName m.name → start_in t n ≡ bytes_held ms → long_in t n ≡ length m.bytes
      → m.number ≡ suc n → held_as m.name ms ≡ Held.none → Rows t n ms → Rows t (suc n) (m ∷ ms)

-- the table keeps n motifs, and the column has them in the order of their names
pub record Keeps (t : List ℕ) (n : ℕ) (ms : List Motif) : Type 0 where
  pub sized : length t ≡ 704
  pub most : n ≤ 64
  pub rows : Rows t n ms
  pub sorted : Sorted (key_in t) (order_in t) n

-- m is the motif of row i
pub record InRow (ms : List Motif) (i : ℕ) (m : Motif) : Type 0 where
  pub held : held_as m.name ms ≡ Held.is m
  pub row : m.number ≡ suc i

-- what a search by name finds: the row of the motif held under it, or that none is
pub data Finds (ms : List Motif) (name : List ℕ) : Option ℕ → Type 0 where
  finds_at : {i : ℕ} {m : Motif} → held_as name ms ≡ Held.is m → InRow ms i m → Finds ms name (Some i)
  finds_none : held_as name ms ≡ Held.none → Finds ms name None

-- the bytes of the held motifs, in the order of their numbers
unfoldable pub store_of : List Motif → List ℕ
store_of [] = []
store_of (m ∷ ms) = store_of ms ++ m.bytes
