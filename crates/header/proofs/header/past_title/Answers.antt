-- `past_title`: no header ends before place 15.
-- Assumes nothing.
use Rattle.std.proofs.Common.{arith, inr}
use Rattle.header.proofs.Forms.{form-next}
use Rattle.header.proofs.header.past_title.Goals as goal

pub loop-i-preserved : goal.loop-i-preserved
loop-i-preserved c = cc (form-next c.args.s.now c.loop-i.i (omega arith) (cc) (inr (omega arith)))
