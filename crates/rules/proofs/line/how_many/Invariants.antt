-- The invariant: those counted, and those of the numbers from here on, are all.
use Rattle.std.proofs.Common.{◌≡◌, ◌+◌, ◌≤◌, drop}
use Rattle.items.specs.Rows.{rows_of, Sized}
use Rattle.table.specs.Lines.{up_to_no}
use Rattle.rules.specs.Judging.{many_in}
use Rattle.rules.proofs.line.how_many.Given as goal

abbrev pub invariant-loop-k : goal.invariant-loop-k
invariant-loop-k l =
    record {
      few : l.many ≤ l.k-index;
      all : Sized l.attrs l.n → l.many + many_in (rows_of l.attrs l.n) (up_to_no (drop l.k-index l.fn.numbers)) ≡ many_in (rows_of l.attrs l.n) (up_to_no l.fn.numbers);
    }
