-- `empty`: a row whose first cell is 0 has no numbers.
-- Assumes nothing.
use Rattle.std.proofs.Common.{rules}
use Rattle.patterns.proofs.Cells.{cleared, first-others}
use Rattle.patterns.proofs.lists.empty.Goals as goal

pub returns-clause-row_after : goal.returns-clause-row_after
returns-clause-row_after c = cleared c.args.patterns.now c.args.row (search rules)

pub returns-clause-others : goal.returns-clause-others
returns-clause-others c = first-others c.args.patterns.now c.args.row 0 c.requires
