-- `nearest`: what is found lies among the rows in use.
-- Assumes nothing.
use Rattle.std.specs.Prelude.{◌<◌, IfSome}
use Rattle.rings.proofs.near.nearest.Given as goal

abbrev pub invariant-loop-row : goal.invariant-loop-row
invariant-loop-row l = IfSome l.found (λ row. (row < 64) × (row < l.fn.held))
