-- The first of a number is the same from i on as from the start.
use Rattle.std.proofs.Common.{◌≡◌, ◌-◌}
use Rattle.items.specs.Rows.{rows_from, rows_of}
use Rattle.attributes.specs.Places.{place_from, place_of}
use Rattle.attributes.proofs.attributes.place_of.Given as goal

abbrev pub invariant-loop-i : goal.invariant-loop-i
invariant-loop-i l = place_from l.i l.number (rows_from l.attrs l.i (l.end - l.i)) ≡ place_of l.number (rows_of l.attrs l.end)
