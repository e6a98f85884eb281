-- `in_page` meets its contract.
-- Assumes nothing.
use borrow.Author.Tests.{eq-eqb, ne_eqb}
use Rattle.scope.specs.Order.{may_come}
use Rattle.order.proofs.order.in_page.Goals as goal

pub returns-then-tag-eq-END_PAGE : goal.returns-then-tag-eq-END_PAGE
unfolding may_come
returns-then-tag-eq-END_PAGE c = simp (eq-eqb _ _ c.if-tag-eq-END_PAGE.true)

pub returns-then-tag-eq-BEGIN_RAST_PATTERN : goal.returns-then-tag-eq-BEGIN_RAST_PATTERN
unfolding may_come
returns-then-tag-eq-BEGIN_RAST_PATTERN c = simp (ne_eqb _ _ c.if-tag-eq-END_PAGE.false, eq-eqb _ _ c.if-tag-eq-BEGIN_RAST_PATTERN.true)

pub returns : goal.returns
unfolding may_come
returns c = simp (ne_eqb _ _ c.if-tag-eq-END_PAGE.false, ne_eqb _ _ c.if-tag-eq-BEGIN_RAST_PATTERN.false) c.is_drawn.ensures
