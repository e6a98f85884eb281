-- `balanced` meets its contract.
-- Assumes nothing.
use mathlib.Core.Path.{◌≡◌, sym, ◌∙◌}
use borrow.Author.Tests.{eq-eqb, ne_eqb}
use Rattle.within.proofs.Turning.{ended-even}
use Rattle.within.specs.Judging.{judges_faulty}
use Rattle.within.proofs.inside.balanced.Goals as goal

pub returns-then-inside-ne0 : goal.returns-then-inside-ne0
returns-then-inside-ne0 c = λ t ms w f. rw (ne_eqb w.saved 0 (λ e. c.if-inside-ne0.true (f.saved ∙ e))) judges_faulty

pub returns : goal.returns
returns c = let a = c.args in
    λ t ms w f.
    let z : w.saved ≡ 0 = sym f.saved ∙ c.if-inside-ne0.false in
    rw (eq-eqb w.saved 0 z)
    (ended-even t ms a.inside w _ f z (λ row r b. c.packed.ensures row (c.summary.ensures row r b)))
