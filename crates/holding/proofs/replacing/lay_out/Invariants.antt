-- `holding::replacing::lay_out` meets its contract: after i turns the first i rows are right, and the next bytes begin behind theirs.
use Prim.Native.Nat.{◌*◌, ◌≤◌}
use Rattle.holding.specs.Laid.{Laid}
use Rattle.holding.proofs.replacing.lay_out.Given as goal

abbrev pub invariant-loop-i : goal.invariant-loop-i
invariant-loop-i l = (l.start ≤ l.i * 16384) × Laid l.initial.motifs l.motifs l.i l.start
