-- `with_rows` meets its contract.
-- Assumes nothing.
use Rattle.order.proofs.picture.with_rows.Goals as goal

pub returns : goal.returns
returns c = λ h. rw (c.rows_after.ensures h)
