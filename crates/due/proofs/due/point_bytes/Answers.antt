-- `point_bytes` meets its contract.
-- Assumes nothing.
use borrow.Author.Tests.{le-leb, lt-leb}
use Rattle.scope.specs.Data.{point_bytes}
use Rattle.due.proofs.due.point_bytes.Goals as goal

pub returns-then-kind-le1 : goal.returns-then-kind-le1
unfolding point_bytes
returns-then-kind-le1 c = simp (le-leb _ _ c.if-kind-le1.true)

pub returns-else-kind-le1 : goal.returns-else-kind-le1
unfolding point_bytes
returns-else-kind-le1 c = simp (lt-leb _ _ c.if-kind-le1.false)
