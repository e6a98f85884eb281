-- `join`: the part was left with the block at its front.
-- Assumes nothing.
use native.Mathlib.Omega.{arith}
use Rattle.buffer.proofs.Parts.{part-back}
use Rattle.buffer.proofs.joining.join.Goals as goal

pub returns-clause-work_after : goal.returns-clause-work_after
returns-clause-work_after c = let a = c.args in part-back a.work.now c.front.new.dst a.held a.block.now (omega arith) c.front.ensures
