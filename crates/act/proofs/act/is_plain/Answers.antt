-- `is_plain` meets its contract: an arm for each operator that is not plain, and the others.
-- Assumes nothing.
use native.Mathlib.Omega.{arith}
use Rattle.scope.specs.Choice.{among}
use Rattle.act.specs.Acts.{plain}
use Rattle.act.proofs.act.is_plain.Goals.{in_default, in_default-2, in_default-3, in-87, in-87-2, in-87-3}
use Rattle.act.proofs.act.is_plain.Goals as goal

pub returns : goal.returns
unfolding plain among
returns c = elim c.match-matches.branch [
  | in_default w ↦ grind arith
  | in_default-2 w ↦ grind arith
  | in_default-3 w ↦ grind arith
  | in-87 w ↦ grind arith
  | in-87-2 w ↦ grind arith
  | in-87-3 w ↦ grind arith
]
