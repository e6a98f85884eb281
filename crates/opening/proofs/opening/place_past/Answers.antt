-- `place_past`: a session begins, or one that rests goes on or ends.
-- Assumes nothing.
use Rattle.opening.proofs.Edges.{begun, past-rests}
use Rattle.opening.proofs.opening.place_past.Goals as goal

pub returns-in-Outside : goal.returns-in-Outside
returns-in-Outside c = λ a r. rw c.in-Outside.is begun

pub returns-in-Inside : goal.returns-in-Inside
returns-in-Inside c = λ a r. rw c.in-Inside.is (past-rests (rw c.in-Inside.is at r) (c.past_in.ensures a))
