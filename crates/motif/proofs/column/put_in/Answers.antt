-- `put_in` meets its contract: what stands from the place on moves up by one, and the number is written at the place.
-- Assumes nothing.
use Rattle.std.proofs.Common.{◌≡◌, ◌+◌, ◌-◌, ◌∙◌, set, ap, arith}
use Rattle.motif.proofs.Entered.{put_over}
use Rattle.motif.proofs.column.put_in.Goals as goal

pub returns : goal.returns
returns c =
    let a = c.args in
    let e : a.at + a.count - a.at ≡ a.count = omega arith in
    ap (λ s. set s a.at a.v) (rw e at c.copy_within.ensures.after) ∙ put_over a.s.now a.at a.count a.v (omega arith)
