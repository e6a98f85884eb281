-- The invariant: it is a run from where it began.
use Prim.Native.Nat.{◌-◌}
use mathlib.Core.Bool.{Bool}
use lib.ListN.{length}
use Rattle.motif.specs.declared.kept.Kept.{Kept}
use Rattle.running.specs.Running.{Runs, in_session}
use Rattle.running.proofs.running.run_from.Given as goal

abbrev pub invariant-loop-on : goal.invariant-loop-on
invariant-loop-on l = (opened : Bool) (kept : Kept) → Runs l.job l.high l.initial.list l.list (in_session opened kept l.initial.run) (in_session opened kept l.run)

abbrev pub decreases-loop-on : goal.decreases-loop-on
decreases-loop-on l = length l.job - l.run.at
