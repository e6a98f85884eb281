-- The invariant: whether all are there, the numbers from here on say.
use Rattle.std.proofs.Common.{◌≡◌, take, drop}
use Rattle.items.specs.Rows.{rows_of, Sized}
use Rattle.rules.specs.Judging.{all_in}
use Rattle.rules.proofs.line.all_there.Given as goal

abbrev pub invariant-loop-i : goal.invariant-loop-i
invariant-loop-i l = Sized l.attrs l.n → all_in (rows_of l.attrs l.n) (drop l.i (take l.must l.numbers)) ≡ all_in (rows_of l.attrs l.n) (take l.must l.numbers)
