-- `at_start` meets its contract.
-- Assumes nothing.
use Rattle.page.specs.Views.{stack}
use Rattle.summary.specs.Sums.{fresh}
use Rattle.scope.specs.Arm.{from}
use Rattle.both.proofs.both.at_start.Goals as goal

pub returns : goal.returns
unfolding fresh stack
returns c = c.from.ensures
