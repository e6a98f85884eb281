-- `points_due` meets its contract.
-- Assumes nothing.
use mathlib.Core.Path.{sym, ◌∙◌}
use Rattle.due.specs.Views.{points_due}
use Rattle.due.proofs.due.points_due.Goals as goal

pub returns-then-not-has : goal.returns-then-not-has
unfolding points_due
returns-then-not-has c = λ z. rw (sym (c.has.ensures z) ∙ c.if-not-has.true)

pub returns : goal.returns
unfolding points_due
returns c = λ z. rw (sym (c.has.ensures z) ∙ c.if-not-has.false, ← c.value_in-kind.ensures.value z, ← c.value_in-many.ensures.value z, ← c.point_bytes.ensures)
