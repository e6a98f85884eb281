-- `ready`: down the rows; what is left to test decides.
use Rattle.std.proofs.Common.{◌≡◌}
use Rattle.rounds.specs.Rounds.{ready_of}
use Rattle.rounds.proofs.rounds.ready.Given as goal

abbrev pub invariant-loop-j : goal.invariant-loop-j
invariant-loop-j l = ready_of l.motifs l.n l.i l.t ≡ ready_of l.motifs l.j l.i l.t
