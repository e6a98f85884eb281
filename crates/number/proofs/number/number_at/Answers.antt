-- `number_at`: past the end every number is 0, and that of one byte is the byte.
-- Assumes nothing.
use Rattle.std.proofs.Common.{sym, ◌∙◌}
use Rattle.number.specs.Widths.{bytes_of}
use Rattle.number.proofs.Digits.{past, one-digit}
use Rattle.number.proofs.number.number_at.Goals as goal

pub returns-then-s-at-clause-value : goal.returns-then-s-at-clause-value
returns-then-s-at-clause-value c = let a = c.args in sym (past a.high (bytes_of a.width) a.s.now a.at c.if-s-at.true)

pub returns-in-One-clause-value : goal.returns-in-One-clause-value
returns-in-One-clause-value c = let a = c.args in rw c.in-One.is (c.from.ensures ∙ c.byte_at.ensures ∙ sym (one-digit a.high a.s.now a.at))
