-- `hatch_of` meets its contract: field by field.
-- Assumes nothing.
use Rattle.scope.specs.Motif.{hatch_of}
use Rattle.order.proofs.picture.hatch_of.Goals as goal

pub returns : goal.returns
unfolding hatch_of
returns c = λ z. rw (← c.value_in-persistence.ensures.value z, ← c.value_in-number.ensures.value z)
