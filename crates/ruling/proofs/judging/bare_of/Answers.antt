-- `judging::bare_of` meets its contract: one number is missing if it is in neither row.
-- Assumes nothing.
use Rattle.scope.specs.Judge.{some_missing}
use Rattle.ruling.proofs.Selecting.{one-missing}
use Rattle.ruling.proofs.judging.bare_of.Goals as goal

pub returns-in-None : goal.returns-in-None
unfolding some_missing
returns-in-None c = rw c.in-None.is

pub returns-in-Some : goal.returns-in-Some
returns-in-Some c = rw c.in-Some.is (one-missing _ _ _ _ c.is_defined.ensures)
