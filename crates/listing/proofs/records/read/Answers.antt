-- `read`: each kind of record by its first byte, its numbers by their bytes.
-- Assumes nothing.
use Rattle.std.specs.Prelude.{refl}
use Rattle.std.proofs.Common.{arith}
use Rattle.listing.specs.Records.{record_of, attribute_of, operator_of}
use Rattle.listing.proofs.records.read.Goals as goal

pub returns-in-1 : goal.returns-in-1
unfolding record_of attribute_of
returns-in-1 c =
    rw (c.in-1.is, c.from_le_bytes-at.ensures, c.from_le_bytes-count.ensures, c.from_le_bytes-first.ensures) refl

pub returns-in-2 : goal.returns-in-2
unfolding record_of operator_of
returns-in-2 c =
    rw (c.in-2.is, c.from_le_bytes-at.ensures, c.from_le_bytes-count.ensures, c.from_le_bytes-first.ensures) refl

pub returns-in_default : goal.returns-in_default
unfolding record_of
returns-in_default c = grind arith
