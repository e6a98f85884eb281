-- `select_of` meets its contract: one test after the other.
-- Assumes nothing.
use native.Mathlib.Omega.{arith}
use Rattle.scope.specs.Arm.{select_of}
use Rattle.act.proofs.act.select_of.Goals as goal

pub returns-then-has : goal.returns-then-has
unfolding select_of
returns-then-has c z = grind arith

pub returns-else-tag-eq-SET_BRUSH_SOURCE : goal.returns-else-tag-eq-SET_BRUSH_SOURCE
unfolding select_of
returns-else-tag-eq-SET_BRUSH_SOURCE c z = grind arith
