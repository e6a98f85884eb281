-- The invariant: a run from the start leads to where the loop stands.
use Prim.Native.Nat.{◌-◌, ◌≤◌}
use lib.ListN.{length}
use Rattle.stream.specs.Lines.{Strip}
use Rattle.stream.proofs.lines.run_from.Given as goal

abbrev pub invariant-loop-on : goal.invariant-loop-on
invariant-loop-on l = (l.at ≤ l.run.at) × (l.run.at ≤ length l.s) × (l.run.count ≤ l.run.at) × Strip l.high l.s l.at l.run

abbrev pub decreases-loop-on : goal.decreases-loop-on
decreases-loop-on l = length l.s - l.run.at
