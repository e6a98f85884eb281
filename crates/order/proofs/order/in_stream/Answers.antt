-- `in_stream` meets its contract.
-- Assumes nothing.
use borrow.Author.Tests.{eq-eqb, ne_eqb}
use Rattle.scope.specs.Order.{may_come}
use Rattle.order.proofs.order.in_stream.Goals as goal

pub returns-then-tag-eq-READ_STREAM : goal.returns-then-tag-eq-READ_STREAM
unfolding may_come
returns-then-tag-eq-READ_STREAM c = simp (eq-eqb _ _ c.if-tag-eq-READ_STREAM.true)

pub returns : goal.returns
unfolding may_come
returns c = simp (ne_eqb _ _ c.if-tag-eq-READ_STREAM.false)
