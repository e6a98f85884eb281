-- `learn`: a cell behind the mark is no cell of a row.
-- Assumes nothing.
use Rattle.patterns.proofs.Forgets.{known_same}
use Rattle.patterns.proofs.known.learn.Goals as goal

pub returns-clause-same_rows : goal.returns-clause-same_rows
returns-clause-same_rows c = known_same c.args.patterns.now c.args.i 1
