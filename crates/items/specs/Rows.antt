-- How the code keeps an operator's attributes: a lent array of 80 numbers, five to an attribute, in the order number, tag, at, count, first.
-- Assumes nothing.
use Rattle.std.specs.Prelude.{ℕ, zero, suc, ◌+◌, ◌*◌, ◌≤◌, ◌≡◌, List, [], ◌∷◌, length, get_or, set}
use Rattle.scope.specs.Item.{Attribute, Pair}

-- attribute i
unfoldable pub row_at : List ℕ → ℕ → Attribute
row_at a i =
    record {
      number = get_or a (i * 5) 0;
      tag = get_or a (i * 5 + 1) 0;
      at = get_or a (i * 5 + 2) 0;
      count = get_or a (i * 5 + 3) 0;
      first = get_or a (i * 5 + 4) 0;
    }

-- k attributes from i on
unfoldable pub rows_from : List ℕ → ℕ → ℕ → List Attribute
rows_from a i zero = []
rows_from a i (suc k) = row_at a i ∷ rows_from a (suc i) k

-- the first n attributes
unfoldable pub rows_of : List ℕ → ℕ → List Attribute
rows_of a n = rows_from a 0 n

-- the array has its length, and n attributes at most are in it
pub record Sized (a : List ℕ) (n : ℕ) : Type 0 where
  pub long : length a ≡ 80
  pub few : n ≤ 16

-- the array with an attribute stored as attribute n
unfoldable pub with_row : List ℕ → ℕ → ℕ → ℕ → ℕ → ℕ → ℕ → List ℕ
with_row a n number tag at count first =
    set (set (set (set (set a (n * 5) number) (n * 5 + 1) tag) (n * 5 + 2) at) (n * 5 + 3) count) (n * 5 + 4) first

-- the array with a pair that was read stored as attribute n; as it was, where none was read
abbrev pub with_pair : List ℕ → ℕ → Pair → List ℕ
with_pair a n (Pair.is r next) = with_row a n r.number r.tag r.at r.count r.first
with_pair a n (Pair.no code place) = a
with_pair a n Pair.waits = a
