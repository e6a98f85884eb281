-- `adding::adding::settle_last` meets its contract: the level is what those of its callees make it, and its summary stands beside it.
-- Assumes nothing.
use Rattle.adding.proofs.NewName.{settles}
use Rattle.adding.proofs.adding.settle_last.Goals as goal

pub returns-clause-tables : goal.returns-clause-tables
returns-clause-tables c = λ m ms f e d. settles f e d c.level_of-level.result c.sum_for.result c.level_of-level.ensures c.sum_for.ensures
