-- `act::act::brush_space` meets its contract: one test after the other.
-- Assumes nothing.
use native.Mathlib.Omega.{arith}
use Rattle.act.specs.Acts.{brush_space}
use Rattle.act.proofs.act.brush_space.Goals as goal

pub returns-then-has : goal.returns-then-has
unfolding brush_space
returns-then-has c z = grind (arith, c.if-has.ensures z)

pub returns-then-has-2 : goal.returns-then-has-2
unfolding brush_space
returns-then-has-2 c z = grind arith

pub returns-else-has-2 : goal.returns-else-has-2
unfolding brush_space
returns-else-has-2 c z = grind arith
