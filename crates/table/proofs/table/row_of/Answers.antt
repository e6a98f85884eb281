-- `row_of`: a line of its own, or that of 1;1.
-- Assumes nothing.
use mathlib.Core.Path.{sym, ◌∙◌}
use Rattle.setting.specs.Views.{class_as}
use Rattle.table.proofs.Classes.{line-shared, line-own}
use Rattle.table.proofs.table.row_of.Goals as goal

pub returns-then-is_own_line : goal.returns-then-is_own_line
returns-then-is_own_line c = let a = c.args in
    let k = line-own (class_as a.class) a.tag (sym c.is_own_line.ensures ∙ c.if-is_own_line.true) in
    rw k.1 (c.own_row.ensures k.0)

pub returns : goal.returns
returns c = let a = c.args in rw (line-shared (class_as a.class) a.tag (sym c.is_own_line.ensures ∙ c.if-is_own_line.false)) c.row_of_one.ensures
