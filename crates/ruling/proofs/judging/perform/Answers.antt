-- `judging::perform` meets its contract: the arm's own answer, of a plain operator by the shorter way.
-- Assumes nothing.
use mathlib.Core.Path.{sym, ap, ◌∙◌}
use Rattle.setting.specs.Views.{setting_as}
use Rattle.page.specs.Views.{keeping}
use Rattle.reader.specs.Reads.{operator_as}
use mathlib.Core.Bool.{false}
use Rattle.scope.specs.Arm.{Act}
use Rattle.scope.specs.Session.{session_of}
use Rattle.act.proofs.Operators.{act-is, plain-keeps}
use Rattle.ruling.proofs.Ruling.{plain-judged}
use Rattle.ruling.proofs.Selecting.{selects-none, bare-is}
use Rattle.ruling.proofs.judging.perform.Goals as goal

pub returns-then-is_plain : goal.returns-then-is_plain
returns-then-is_plain c = let a = c.args in
    λ q st work t h z e m y u.
    let o = operator_as a.o a.attrs.now in
    let set = setting_as a.set in
    let k = plain-keeps set a.job.now o (sym c.is_plain.ensures ∙ c.if-is_plain.true) in
    plain-judged set a.job.now st (session_of q) o c.opened_in-opened.result a.performed c.keep.result (c.opened_in-opened.ensures q set a.job.now work t _ h) e u y
    false (selects-none set a.job.now st (session_of q) o y (ap (λ (x : Act). x.select) k))
    (c.keep.ensures _ _ (c.page_in-page.ensures q set a.job.now work t _ h) (k ∙ ap (keeping a.o.reads) (sym c.needs_cursor.ensures)))

pub returns : goal.returns
returns c = let a = c.args in
    λ q st work t h z e m y u.
    let o = operator_as a.o a.attrs.now in
    let set = setting_as a.set in
    let k = c.act_of-act.ensures z ∙ act-is set a.job.now o in
    plain-judged set a.job.now st (session_of q) o c.opened_in-opened.result a.performed c.perform.result (c.opened_in-opened.ensures q set a.job.now work t _ h) e u y
    c.bare_of.result (bare-is set a.job.now o a.patterns.now st c.bare_of.result _ h m y k c.bare_of.ensures)
    (c.perform.ensures _ _ (c.page_in-page.ensures q set a.job.now work t _ h) (sym k))
