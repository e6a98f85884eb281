-- `needs_space` meets its contract: by the tag.
-- Assumes nothing.
use native.Mathlib.Omega.{arith}
use Rattle.scope.specs.Arm.{needs_space}
use Rattle.act.specs.Acts.{brush_space}
use Rattle.act.proofs.act.needs_space.Goals as goal

pub returns-in-176 : goal.returns-in-176
unfolding needs_space
returns-in-176 c z = grind arith

pub returns-in-99 : goal.returns-in-99
unfolding needs_space brush_space
returns-in-99 c z = let e = c.brush_space.ensures z in grind (arith, e)

pub returns-in_default : goal.returns-in_default
unfolding needs_space
returns-in_default c z = grind arith
