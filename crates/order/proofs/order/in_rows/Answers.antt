-- `in_rows` meets its contract.
-- Assumes nothing.
use borrow.Author.Tests.{eq-eqb, ne_eqb}
use Rattle.order.proofs.order.in_rows.Goals as goal

pub returns-then-tag-end : goal.returns-then-tag-end
returns-then-tag-end c = simp (eq-eqb _ _ c.if-tag-end.true)

pub returns : goal.returns
returns c = simp (ne_eqb _ _ c.if-tag-end.false)
