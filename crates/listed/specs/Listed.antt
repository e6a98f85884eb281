-- The records of an operator and its attributes, from the numbers that the code has.
-- Assumes nothing.
use Rattle.std.specs.Prelude.{ℕ, suc, ◌+◌, ◌*◌, ◌/◌, ◌%◌, ◌<◌, Bool, false, List, [], ◌∷◌, ◌++◌, length, ltb, leb}
use Rattle.scope.specs.Choice.{pick}
use Rattle.scope.specs.Item.{Attribute}
use Rattle.scope.specs.Verdict.{four, attribute_records}

-- every attribute's number and tag is a byte
pub data BytesIn : List Attribute → Type 0 where
  bytes_none : BytesIn []
  bytes_more : {a : Attribute} {l : List Attribute} → a.number < 256 → a.tag < 256 → BytesIn l → BytesIn (a ∷ l)

-- an attribute with the low byte of its number and of its tag, which are all of them where they are bytes
unfoldable pub low_of : Attribute → Attribute
low_of a =
    record {
      number = a.number % 256;
      tag = a.tag % 256;
      at = a.at;
      count = a.count;
      first = a.first;
    }

unfoldable pub lows : List Attribute → List Attribute
lows [] = []
lows (a ∷ l) = low_of a ∷ lows l

-- n attributes, 16 at most, and their operator have room after so many records in a list of so many bytes
unfoldable pub room_for : (records n bytes : ℕ) → Bool
room_for records n bytes = pick (ltb 16 n) false (leb ((records + suc n) * 16) bytes)

-- four bytes, then three numbers in four bytes each
unfoldable pub sixteen : (a b c d : ℕ) → (x y z : ℕ) → List ℕ
sixteen a b c d x y z = a ∷ b ∷ c ∷ d ∷ (four x ++ (four y ++ four z))

-- the records of the attributes l, then that of their operator: its tag, the tag's place, length and place of its data
unfoldable pub records_for : (tag at size first : ℕ) → List Attribute → List ℕ
records_for tag at size first l =
    attribute_records l ++ sixteen 2 tag (length l % 256) (length l / 256) at size first
