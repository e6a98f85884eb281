-- `four_at`: four bytes, each with its weight.
-- Assumes nothing.
use Rattle.number.proofs.Digits.{four-high, four-low}
use Rattle.number.proofs.number.four_at.Goals as goal

pub returns-then-high : goal.returns-then-high
returns-then-high c = let a = c.args in
    rw (c.if-high.true, four-high a.s.now a.at, ← c.byte_at.ensures, ← c.byte_at-2.ensures, ← c.byte_at-3.ensures, ← c.byte_at-4.ensures) c.from_be_bytes.ensures

pub returns-else-high : goal.returns-else-high
returns-else-high c = let a = c.args in
    rw (c.if-high.false, four-low a.s.now a.at, ← c.byte_at.ensures, ← c.byte_at-2.ensures, ← c.byte_at-3.ensures, ← c.byte_at-4.ensures) c.from_le_bytes.ensures
