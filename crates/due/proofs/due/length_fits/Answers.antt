-- `length_fits`: nothing told, or the length due.
-- Assumes nothing.
use mathlib.Core.Path.{sym, ◌∙◌}
use Rattle.scope.specs.Order.{length_fits}
use Rattle.due.proofs.due.length_fits.Goals as goal

pub returns-then-not-has : goal.returns-then-not-has
unfolding length_fits
returns-then-not-has c = λ z. rw (sym (c.has.ensures z) ∙ c.if-not-has.true, c.if-not-has.true)

pub returns-else-not-has : goal.returns-else-not-has
unfolding length_fits
returns-else-not-has c = λ z. rw (sym (c.has.ensures z) ∙ c.if-not-has.false, ← c.long_in.ensures z, ← c.block_due.ensures z)
