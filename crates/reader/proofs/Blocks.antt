-- Embedded data begins past what stands before it.
-- Assumes nothing.
use Rattle.std.proofs.Common.{ℕ, ◌≤◌, Result, Ok, Err, arith}
use Rattle.refusal.specs.declared.refusal.Refusal.{Refusal}
use Rattle.scope.proofs.Ends.{after-le}
use Rattle.reader.specs.Reads.{Placed}

-- data that begins past p begins past what stands before p
pub placed_from : (len a p due : ℕ) (f : Result ℕ Refusal) → Placed len p due f → a ≤ p → Placed len a due f
placed_from len a p due (Ok first) k h = (omega arith, k.1)
placed_from len a p due (Err r) k h = tt

-- the data after white space begins past the tag
pub ruleset placed = (placed_from, after-le)
