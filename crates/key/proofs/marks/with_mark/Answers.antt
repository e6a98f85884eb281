-- `with_mark`: 1 << j is the power of two, and it is laid over the marks.
-- Assumes nothing.
use Rattle.key.proofs.Marked.{mark_set, one_at}
use Rattle.key.proofs.marks.with_mark.Goals as goal

pub returns-then-j-lt-MOTIFS_MOST : goal.returns-then-j-lt-MOTIFS_MOST
returns-then-j-lt-MOTIFS_MOST c = let a = c.args in λ h k. rw (one_at a.j h) (mark_set a.marks a.j k)
