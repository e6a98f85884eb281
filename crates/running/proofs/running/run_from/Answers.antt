-- The invariant: it is a run from where it began.
-- Assumes nothing.
use Rattle.running.proofs.Runs.{runs_then}
use Rattle.running.proofs.running.run_from.Goals as goal

pub loop-on-preserved : goal.loop-on-preserved
loop-on-preserved c opened kept = runs_then (c.loop-on.invariant opened kept) (c.in-Some.ensures.runs opened kept)

pub returns : goal.returns
returns c opened kept = runs_then (c.loop-on.invariant opened kept) (c.in_default.ensures.runs opened kept)
