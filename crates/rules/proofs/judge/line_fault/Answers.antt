-- `line_fault`: attribute by attribute, then as a whole, by the numbers of a line that the table has.
-- Assumes nothing.
use mathlib.Core.Path.{◌∙◌}
use Rattle.std.proofs.lemmas.Result.{err_from_is_err_and}
use Rattle.scope.specs.Table.{table, line_in}
use Rattle.items.specs.Rows.{rows_of}
use Rattle.setting.specs.Views.{class_as}
use Rattle.rules.proofs.Briefs.{stood}
use Rattle.rules.proofs.Faults.{fault_one, fault_whole, placed}
use borrow.Author.Rules.{rules}
use Rattle.rules.proofs.judge.line_fault.Goals as goal

pub returns-in_err-one_by_one : goal.returns-in_err-one_by_one
returns-in_err-one_by_one c = let a = c.args in
    let q = err_from_is_err_and c.from_residual.result c.from_residual.ensures.1 in
    λ tag e k z. rw (q.1, q.2) (fault_one a.set.high a.s.now a.at (rows_of a.attrs.now a.n) (class_as a.set.class) a.row (line_in (table (class_as a.set.class)) tag) (stood (class_as a.set.class) a.row tag e) k
    _ _ (λ rules st. c.in_err-one_by_one.ensures rules st z))

pub returns : goal.returns
returns c = let a = c.args in
    let p = placed a.at c.form_code.result c.map_err.result (search rules) in
    λ tag e k z. p ∙ fault_whole a.set.high a.s.now a.at (rows_of a.attrs.now a.n) (class_as a.set.class) a.row (line_in (table (class_as a.set.class)) tag) (stood (class_as a.set.class) a.row tag e) k
    _ (λ rules st. c.in_ok-one_by_one.ensures rules st z)
    (λ rules st led. c.form_code.ensures k (class_as a.set.class) rules st led z)
