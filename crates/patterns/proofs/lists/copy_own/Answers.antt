-- `copy_own`: a row without numbers, or 66 cells are copied; the mark is no cell of a row.
-- Assumes nothing.
use Rattle.std.proofs.Common.{◌*◌, sym, ◌∙◌}
use Rattle.pattern_rows.specs.Numbers.{OfMotif}
use Rattle.patterns.proofs.Cells.{in_none}
use Rattle.patterns.proofs.Copies.{copied_within, row-marked, others-marked}
use Rattle.patterns.proofs.lists.copy_own.Goals as goal

pub returns-then-patterns-eq0-clause-row_after : goal.returns-then-patterns-eq0-clause-row_after
returns-then-patterns-eq0-clause-row_after c = c.empty.ensures.row_after ∙ sym (in_none c.args.patterns.now OfMotif c.if-patterns-eq0.true)

pub returns-clause-row_after : goal.returns-clause-row_after
returns-clause-row_after c =
    let y = c.copy_within.ensures in
    row-marked c.args.row c.requires (copied_within c.args.patterns.now _ 4356 (c.args.row * 66) y.len y.by_index.0 y.by_index.1 y.by_index.2) 1

pub returns-clause-other_rows : goal.returns-clause-other_rows
returns-clause-other_rows c =
    let y = c.copy_within.ensures in
    others-marked c.args.row c.requires (copied_within c.args.patterns.now _ 4356 (c.args.row * 66) y.len y.by_index.0 y.by_index.1 y.by_index.2) 1
