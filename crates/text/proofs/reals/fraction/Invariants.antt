-- What is left of a part of 1 stays a part of 1.
-- Assumes nothing.
use Rattle.std.proofs.Common.{◌<◌}
use Rattle.text.proofs.reals.fraction.Given as goal

abbrev pub invariant-loop : goal.invariant-loop
invariant-loop g l = l.rest < 8_589_934_592
