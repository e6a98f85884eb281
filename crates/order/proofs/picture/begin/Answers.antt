-- `begin` meets its contract: field by field.
-- Assumes nothing.
use Rattle.scope.specs.Motif.{begun}
use Rattle.order.proofs.picture.begin.Goals as goal

pub returns : goal.returns
unfolding begun
returns c = λ z. rw (← c.value_in-width.ensures.value z, ← c.value_in-depth.ensures.value z, ← c.value_in-height.ensures.value z)
