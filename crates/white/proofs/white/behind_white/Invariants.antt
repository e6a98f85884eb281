-- The first place that is not white is the same from p on as from the start.
use Rattle.std.proofs.Common.{◌≡◌, ◌-◌, length}
use Rattle.scope.specs.Item.{after}
use Rattle.white.proofs.white.behind_white.Given as goal

abbrev pub invariant-loop-p : goal.invariant-loop-p
invariant-loop-p l = after l.s l.p ≡ after l.s l.at

abbrev pub decreases-loop-p : goal.decreases-loop-p
decreases-loop-p l = length l.s - l.p
