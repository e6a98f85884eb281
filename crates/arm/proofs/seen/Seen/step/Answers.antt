-- `Seen::step` meets its contract.
-- Assumes nothing.
use Rattle.arm.proofs.Keeping.{step-holds}
use native.Mathlib.Omega.{arith}
use Rattle.arm.proofs.seen.Seen.step.Goals as goal

pub returns : goal.returns
returns c w h = let s = c.args.self in
    step-holds s _ c.args.act w h
    (c.add.ensures w.count 1 h.count (omega arith))
    (c.risen.ensures w.most h.most)
    (grind arith)
    (grind arith)
    (grind arith)
    c.done.ensures
