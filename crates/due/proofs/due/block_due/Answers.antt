-- `block_due`: rows times the bytes of a row.
-- Assumes nothing.
use Rattle.scope.specs.Data.{block_due}
use Rattle.due.proofs.due.block_due.Goals as goal

pub returns : goal.returns
unfolding block_due
returns c = λ z. rw (← c.value_in-rows.ensures.value z, ← c.pad_of-pad.ensures z, ← c.row_of.ensures.value)
