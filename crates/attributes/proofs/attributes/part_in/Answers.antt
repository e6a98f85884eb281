-- `part_in`: by the place of the first.
-- Assumes nothing.
use Rattle.std.proofs.Common.{Some, None}
use Rattle.items.specs.Rows.{row_at}
use Rattle.attributes.proofs.Rowed.{bytes-at}
use Rattle.attributes.proofs.attributes.part_in.Goals as goal

pub returns-in-Some : goal.returns-in-Some
unfolding row_at
returns-in-Some c = let a = c.args in λ z s. bytes-at a.number a.attrs.now a.n (Some c.in-Some.i) (c.in-Some.ensures.value z) s

pub returns-in-None : goal.returns-in-None
returns-in-None c = let a = c.args in λ z s. bytes-at a.number a.attrs.now a.n None (c.in-None.ensures.value z) s
