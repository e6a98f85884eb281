-- `adding::adding::all_done` meets its contract: the motifs passed are done.
use Prim.Native.Nat.{ℕ, ◌<◌}
use Rattle.adding.specs.Rowing.{Done}
use Rattle.adding.proofs.adding.all_done.Given as goal

abbrev pub invariant-loop-j : goal.invariant-loop-j
invariant-loop-j l = (i : ℕ) → i < l.j → Done l.motifs l.held i
