-- What a list of records of sixteen bytes says, by its bytes alone.
-- Assumes nothing.
use Rattle.std.specs.Prelude.{ℕ, ◌+◌, ◌*◌, List, [], ◌∷◌, length, slice_index, slice_range, eqb, leb, Option, Some, None}
use Rattle.std.specs.Int.{w32, from_le_bytes}
use Rattle.scope.specs.Choice.{pick}
use Rattle.listing.specs.declared.records.Record.{Record}
use Rattle.listing.specs.declared.records.Record.TheVariants as record_is
use Rattle.listing.specs.declared.records.Attribute.{Attribute}
use Rattle.listing.specs.declared.records.Operator.{Operator}

-- the number of the four bytes from byte k on, low byte first
abbrev pub four_from : List ℕ → ℕ → ℕ
four_from b k =
    from_le_bytes w32 (slice_index b k ∷ slice_index b (k + 1) ∷ slice_index b (k + 2) ∷ slice_index b (k + 3) ∷ [])

-- the attribute of a record whose first byte is 1: its number, its value's tag, and three numbers
unfoldable pub attribute_of : List ℕ → Attribute
attribute_of b =
    record {
      number = slice_index b 1;
      tag = slice_index b 2;
      at = four_from b 4;
      count = four_from b 8;
      first = four_from b 12;
    }

-- the operator of a record whose first byte is 2: its tag, how many attributes it has, and three numbers
unfoldable pub operator_of : List ℕ → Operator
operator_of b =
    record {
      tag = slice_index b 1;
      attributes = slice_index b 2;
      at = four_from b 4;
      length = four_from b 8;
      first = four_from b 12;
    }

-- what the sixteen bytes of a record say
unfoldable pub record_of : List ℕ → Option Record
record_of b =
    pick (eqb (slice_index b 0) 1)
    (Some (record_is.Attribute (attribute_of b)))
    (pick (eqb (slice_index b 0) 2) (Some (record_is.Operator (operator_of b))) None)

-- record i of a list; none where it has fewer bytes
unfoldable pub record_in : List ℕ → ℕ → Option Record
record_in l i = pick (leb (i * 16 + 16) (length l)) (record_of (slice_range l (i * 16) (i * 16 + 16))) None

-- what a record says, if it is an operator's
abbrev pub as_operator : Option Record → Option Operator
as_operator None = None
as_operator (Some (record_is.Attribute a)) = None
as_operator (Some (record_is.Operator o)) = Some o

-- what a record says, if it is an attribute's
abbrev pub as_attribute : Option Record → Option Attribute
as_attribute None = None
as_attribute (Some (record_is.Attribute a)) = Some a
as_attribute (Some (record_is.Operator o)) = None
