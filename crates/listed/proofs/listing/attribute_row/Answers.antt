-- `attribute_row`: the five numbers of row i.
-- Assumes nothing.
use Rattle.listed.proofs.Listed.{attribute-sixteen}
use Rattle.listed.proofs.listing.attribute_row.Goals as goal

pub returns : goal.returns
returns c = let a = c.args in
    attribute-sixteen a.attrs.now c.row.result a.i c.row.ensures
