-- The list's length by the law of a repeated element, which does not count it out.
-- Assumes nothing.
use Prim.Native.Nat.{ℕ}
use mathlib.Core.Path.{sym}
use lib.ListN.{length-replicate}
use Rattle.rooms.proofs.job.Goals as goal

pub returns : goal.returns
returns c = sym (length-replicate {0} {A = ℕ} 61441 0)
