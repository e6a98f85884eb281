-- After i turns the list has the records of i attributes.
use Rattle.std.proofs.Common.{◌≡◌, ◌*◌, length}
use Rattle.scope.specs.Verdict.{attribute_records}
use Rattle.items.specs.Rows.{rows_of}
use Rattle.buffer.specs.Over.{over}
use Rattle.listed.specs.Listed.{lows}
use Rattle.listed.proofs.listing.list_attributes.Given as goal

abbrev pub invariant-loop-i : goal.invariant-loop-i
invariant-loop-i l = record {
  same_length : length l.list ≡ length l.initial.list;
  listed : l.list ≡ over l.initial.list (l.records * 16) (attribute_records (lows (rows_of l.attrs l.i)));
}
