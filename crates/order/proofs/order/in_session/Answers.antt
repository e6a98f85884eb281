-- `in_session` meets its contract.
-- Assumes nothing.
use borrow.Author.Tests.{eq-eqb, ne_eqb}
use Rattle.scope.specs.Choice.{among}
use Rattle.scope.specs.Order.{may_come}
use Rattle.order.proofs.order.in_session.Goals as goal

pub returns-then-tag-eq-COMMENT : goal.returns-then-tag-eq-COMMENT
unfolding may_come among
returns-then-tag-eq-COMMENT c = simp (eq-eqb _ _ c.if-tag-eq-COMMENT.true)

pub returns-then-tag-eq-BEGIN_STREAM : goal.returns-then-tag-eq-BEGIN_STREAM
unfolding may_come among
returns-then-tag-eq-BEGIN_STREAM c = simp (ne_eqb _ _ c.if-tag-eq-COMMENT.false, eq-eqb _ _ c.if-tag-eq-BEGIN_STREAM.true)

pub returns-then-tag-eq-BEGIN_PAGE : goal.returns-then-tag-eq-BEGIN_PAGE
unfolding may_come among
returns-then-tag-eq-BEGIN_PAGE c = simp (ne_eqb _ _ c.if-tag-eq-COMMENT.false, ne_eqb _ _ c.if-tag-eq-BEGIN_STREAM.false, eq-eqb _ _ c.if-tag-eq-BEGIN_PAGE.true)

pub returns-then-opened : goal.returns-then-opened
unfolding may_come among
returns-then-opened c = rw (ne_eqb _ _ c.if-tag-eq-COMMENT.false, ne_eqb _ _ c.if-tag-eq-BEGIN_STREAM.false, ne_eqb _ _ c.if-tag-eq-BEGIN_PAGE.false, c.if-opened.true)

pub returns-then-tag-eq-OPEN_DATA_SOURCE : goal.returns-then-tag-eq-OPEN_DATA_SOURCE
unfolding may_come among
returns-then-tag-eq-OPEN_DATA_SOURCE c = rw (ne_eqb _ _ c.if-tag-eq-COMMENT.false, ne_eqb _ _ c.if-tag-eq-BEGIN_STREAM.false, ne_eqb _ _ c.if-tag-eq-BEGIN_PAGE.false, c.if-opened.false, eq-eqb _ _ c.if-tag-eq-OPEN_DATA_SOURCE.true)

pub returns : goal.returns
unfolding may_come among
returns c = rw (ne_eqb _ _ c.if-tag-eq-COMMENT.false, ne_eqb _ _ c.if-tag-eq-BEGIN_STREAM.false, ne_eqb _ _ c.if-tag-eq-BEGIN_PAGE.false, c.if-opened.false, ne_eqb _ _ c.if-tag-eq-OPEN_DATA_SOURCE.false)
