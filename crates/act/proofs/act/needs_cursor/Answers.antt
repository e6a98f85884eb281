-- `needs_cursor` meets its contract: the operators that need it, and the others.
-- Assumes nothing.
use native.Mathlib.Omega.{arith}
use Rattle.scope.specs.Choice.{among}
use Rattle.scope.specs.Arm.{needs_cursor}
use Rattle.act.proofs.act.needs_cursor.Goals as goal

pub returns-in-108 : goal.returns-in-108
unfolding needs_cursor among
returns-in-108 c = grind arith

pub returns-in_default : goal.returns-in_default
unfolding needs_cursor among
returns-in_default c = grind arith
