-- `pass_one`: an operator that is its tag alone is the same in either byte order.
-- Assumes nothing.
use Rattle.running.proofs.running.pass_one.Goals as goal

pub returns-then-job-at-lt208-clause-runs : goal.returns-then-job-at-lt208-clause-runs
returns-then-job-at-lt208-clause-runs c = c.pass_alone.ensures.runs c.args.high
