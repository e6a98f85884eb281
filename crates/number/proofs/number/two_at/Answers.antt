-- `two_at`: two bytes, each with its weight.
-- Assumes nothing.
use Rattle.number.proofs.Digits.{two-high, two-low}
use Rattle.number.proofs.number.two_at.Goals as goal

pub returns-then-high : goal.returns-then-high
returns-then-high c = let a = c.args in rw (c.if-high.true, two-high a.s.now a.at, ← c.byte_at.ensures, ← c.byte_at-2.ensures) c.from_be_bytes.ensures

pub returns-else-high : goal.returns-else-high
returns-else-high c = let a = c.args in rw (c.if-high.false, two-low a.s.now a.at, ← c.byte_at.ensures, ← c.byte_at-2.ensures) c.from_le_bytes.ensures
