-- `row_of`: a multiple of `pad` bytes, and none of 0.
-- Assumes nothing.
use native.Mathlib.Nat.{mul-zero}
use Rattle.scope.specs.Data.{row_of}
use Rattle.due.proofs.due.row_of.Goals as goal

pub returns-then-by-eq0-clause-value : goal.returns-then-by-eq0-clause-value
unfolding row_of
returns-then-by-eq0-clause-value c = rw (c.if-by-eq0.true, mul-zero)

pub returns-clause-value : goal.returns-clause-value
unfolding row_of
returns-clause-value c = rw (← c.row_bits.ensures.value)
