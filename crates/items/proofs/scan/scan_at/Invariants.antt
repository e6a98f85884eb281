-- The invariant says that the scan from here on, with the attributes stored so far, is the scan from the start; the white space passed does not matter.
use Rattle.std.proofs.Common.{◌≡◌, ◌-◌, ◌≤◌, length}
use Rattle.scope.specs.Item.{scan_from, scan_at}
use Rattle.items.specs.Rows.{rows_of}
use Rattle.items.proofs.scan.scan_at.Given as goal

abbrev pub invariant-pairs : goal.invariant-pairs
invariant-pairs l =
    record {
      few : l.n ≤ 16;
      long : length l.attrs ≡ length l.initial.attrs;
      onward : l.start ≤ l.at;
      same : length l.initial.attrs ≡ 80 → scan_from l.high l.s (record { at = l.at; attrs = rows_of l.attrs l.n }) ≡ scan_at l.high l.s l.start;
    }

abbrev pub decreases-pairs : goal.decreases-pairs
decreases-pairs l = length l.s - l.at
