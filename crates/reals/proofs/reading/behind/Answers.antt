-- `behind`: past the end there are zeros.
-- Assumes nothing.
use Rattle.std.proofs.Common.{◌+◌, ◌≤◌, length, sym, arith}
use Rattle.number.specs.Widths.{bytes_of}
use Rattle.number.proofs.Digits.{past}
use Rattle.reals.proofs.reading.behind.Goals as goal

pub returns-else-first-s : goal.returns-else-first-s
returns-else-first-s c = let a = c.args in
    let h : length a.s.now ≤ a.first + a.by = omega arith in
    sym (past a.high (bytes_of a.width) a.s.now (a.first + a.by) h)
