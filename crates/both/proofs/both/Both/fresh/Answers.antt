-- `Both::fresh` meets its contract.
-- Assumes nothing.
use Rattle.scope.specs.Arm.{walk}
use Rattle.both.proofs.both.Both.fresh.Goals as goal

pub returns : goal.returns
unfolding walk
returns c = record { a = c.at_start.ensures; b = c.at_start-2.ensures }
