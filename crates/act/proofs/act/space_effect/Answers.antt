-- `act::act::space_effect` meets its contract: the value is that of the attribute.
-- Assumes nothing.
use Rattle.act.specs.Acts.{space_effect}
use Rattle.act.proofs.act.space_effect.Goals as goal

pub returns : goal.returns
unfolding space_effect
returns c = λ z. rw (← c.value_in-space.ensures.value z)
