-- `is_drawn` meets its contract.
-- Assumes nothing.
use borrow.Author.Tests.{le-leb, lt-leb, eq-eqb, ne_eqb}
use Rattle.scope.specs.Choice.{among}
use Rattle.scope.specs.Order.{drawn}
use Rattle.order.proofs.order.is_drawn.Goals as goal

pub returns-then-tag-eq-POP_GS : goal.returns-then-tag-eq-POP_GS
unfolding drawn among
returns-then-tag-eq-POP_GS c = rw (eq-eqb _ _ c.if-tag-eq-POP_GS.true)

pub returns-then-tag-eq-COMMENT : goal.returns-then-tag-eq-COMMENT
unfolding drawn among
returns-then-tag-eq-COMMENT c = rw (ne_eqb _ _ c.if-tag-eq-POP_GS.false, eq-eqb _ _ c.if-tag-eq-COMMENT.true)

pub returns-then-tag-eq-SET_DEFAULT_GS : goal.returns-then-tag-eq-SET_DEFAULT_GS
unfolding drawn among
returns-then-tag-eq-SET_DEFAULT_GS c = rw (ne_eqb _ _ c.if-tag-eq-POP_GS.false, ne_eqb _ _ c.if-tag-eq-COMMENT.false, eq-eqb _ _ c.if-tag-eq-SET_DEFAULT_GS.true)

pub returns-then-tag-eq-EXEC_STREAM : goal.returns-then-tag-eq-EXEC_STREAM
unfolding drawn among
returns-then-tag-eq-EXEC_STREAM c = rw (ne_eqb _ _ c.if-tag-eq-POP_GS.false, ne_eqb _ _ c.if-tag-eq-COMMENT.false, ne_eqb _ _ c.if-tag-eq-SET_DEFAULT_GS.false, eq-eqb _ _ c.if-tag-eq-EXEC_STREAM.true)

pub returns-then-tag-eq-PUSH_GS : goal.returns-then-tag-eq-PUSH_GS
unfolding drawn among
returns-then-tag-eq-PUSH_GS c = rw (ne_eqb _ _ c.if-tag-eq-POP_GS.false, ne_eqb _ _ c.if-tag-eq-COMMENT.false, ne_eqb _ _ c.if-tag-eq-SET_DEFAULT_GS.false, ne_eqb _ _ c.if-tag-eq-EXEC_STREAM.false, eq-eqb _ _ c.if-tag-eq-PUSH_GS.true)

pub returns-then-tag-lt-SET_BRUSH_SOURCE : goal.returns-then-tag-lt-SET_BRUSH_SOURCE
unfolding drawn among
returns-then-tag-lt-SET_BRUSH_SOURCE c = rw (ne_eqb _ _ c.if-tag-eq-POP_GS.false, ne_eqb _ _ c.if-tag-eq-COMMENT.false, ne_eqb _ _ c.if-tag-eq-SET_DEFAULT_GS.false, ne_eqb _ _ c.if-tag-eq-EXEC_STREAM.false, ne_eqb _ _ c.if-tag-eq-PUSH_GS.false, lt-leb _ _ c.if-tag-lt-SET_BRUSH_SOURCE.true)

pub returns : goal.returns
unfolding drawn among
returns c = rw (ne_eqb _ _ c.if-tag-eq-POP_GS.false, ne_eqb _ _ c.if-tag-eq-COMMENT.false, ne_eqb _ _ c.if-tag-eq-SET_DEFAULT_GS.false, ne_eqb _ _ c.if-tag-eq-EXEC_STREAM.false, ne_eqb _ _ c.if-tag-eq-PUSH_GS.false, le-leb _ _ c.if-tag-lt-SET_BRUSH_SOURCE.false)
