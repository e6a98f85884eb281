-- The search of a name through the column of the held motifs, which are there in the order of names; and how a new one comes into the column.
-- Assumes nothing.
use Rattle.std.specs.Prelude.{ℕ, suc, ◌+◌, ◌-◌, ◌<◌, Option, Some, None, List, ◌∷◌, ◌++◌, take, drop, ltb}
use Rattle.scope.specs.Choice.{pick, same}
use Rattle.motif.specs.Sorted.{rounds, halve}
use Rattle.motif.specs.Held.{key_in, order_in}

-- how many rows are in use; 64 at most
unfoldable pub few : ℕ → ℕ
few n = pick (ltb n 64) n 64

-- the first of n places whose name is not before the asked one
unfoldable pub place_of : (t key : List ℕ) → ℕ → ℕ
place_of t key n = halve (key_in t) (order_in t) key rounds 0 n

-- the row at a place, if it is one of n and its name is the asked one
unfoldable pub row_at : (t key : List ℕ) → (n place : ℕ) → Option ℕ
row_at t key n p = pick (ltb p n) (pick (same (key_in t (order_in t p)) key) (Some (order_in t p)) None) None

-- the search through n places
unfoldable pub find_in : (t key : List ℕ) → ℕ → Option ℕ
find_in t key n = row_at t key n (place_of t key n)

-- a row that is found is one of 64
abbrev pub Row : Option ℕ → Type 0
Row (Some i) = i < 64
Row None = Unit {0}

-- a number put in at a place; so many from there on move up by one
unfoldable pub put_in : (s : List ℕ) → (at count v : ℕ) → List ℕ
put_in s at count v = take at s ++ (v ∷ take count (drop at s)) ++ drop (at + suc count) s

-- row n, whose name has this key, in the column of the n rows before it; none if there is no such row
unfoldable pub entered_in : (t : List ℕ) → (n : ℕ) → (key : List ℕ) → List ℕ
entered_in t n key = pick (ltb n 64) (put_in t (640 + place_of t key n) (n - place_of t key n) n) t
