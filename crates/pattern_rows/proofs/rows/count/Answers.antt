-- `count`: the first cell of the row says it.
-- Assumes nothing.
use Rattle.std.proofs.Common.{rules}
use Rattle.pattern_rows.proofs.Cells.{in_length}
use Rattle.pattern_rows.proofs.rows.count.Goals as goal

pub returns-clause-value : goal.returns-clause-value
returns-clause-value c = search (rules, in_length)
