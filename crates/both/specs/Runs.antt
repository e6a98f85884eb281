-- The two runs of a row that is being read.
-- Assumes nothing.
use Rattle.std.specs.Prelude.{true, false, List}
use Rattle.scope.specs.Arm as scope
use Rattle.summary.specs.Sums.{fresh}
use Rattle.arm.specs.Holds.{Holds}
use Rattle.both.specs.declared.both.Both.{Both}

-- the two runs of a row that is being read
pub record Runs (x : Both) (row : List scope.Stroke) : Type 0 where
  pub a : Holds x.a (scope.walk row (fresh true))
  pub b : Holds x.b (scope.walk row (fresh false))
