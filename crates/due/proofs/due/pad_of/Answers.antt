-- `pad_of`: 4 in place of 0.
-- Assumes nothing.
use borrow.Author.Tests.{eq-eqb, ne_eqb}
use Rattle.scope.specs.Data.{pad_of}
use Rattle.due.proofs.due.pad_of.Goals as goal

pub returns-then-pad-eq0 : goal.returns-then-pad-eq0
unfolding pad_of
returns-then-pad-eq0 c = λ z. rw (← c.value_in-pad.ensures.value z, eq-eqb _ _ c.if-pad-eq0.true)

pub returns-else-pad-eq0 : goal.returns-else-pad-eq0
unfolding pad_of
returns-else-pad-eq0 c = λ z. rw (← c.value_in-pad.ensures.value z, ne_eqb _ _ c.if-pad-eq0.false)
