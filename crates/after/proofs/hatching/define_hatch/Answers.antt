-- `hatching::define_hatch` meets its contract: the number comes into the row of its persistence, and no other row changes.
-- Assumes nothing.
use Rattle.order.specs.Pictures.{hatch_as}
use Rattle.after.proofs.Defining.{define_session, define_page}
use Rattle.after.proofs.hatching.define_hatch.Goals as goal

pub returns-then-hatch : goal.returns-then-hatch
returns-then-hatch c = let h = c.args.hatch in
    λ i. define_session (hatch_as h) i c.define.ensures.patterns_unchanged c.if-hatch.true c.define.ensures.row_after c.define.ensures.others

pub returns-else-hatch : goal.returns-else-hatch
returns-else-hatch c = let h = c.args.hatch in let d = c.define-else-hatch.ensures in
    λ i. define_page (hatch_as h) i d.patterns_unchanged c.if-hatch.false d.row_after d.others
