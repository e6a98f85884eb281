-- `act_of` meets its contract: field by field.
-- Assumes nothing.
use Rattle.act.specs.Acts.{act_for}
use Rattle.act.proofs.act.act_of.Goals as goal

pub returns : goal.returns
unfolding act_for
returns c = λ z. rw (← c.needs_cursor.ensures, ← c.needs_space.ensures z, ← c.select_of.ensures z, ← c.effect_of.ensures z)
