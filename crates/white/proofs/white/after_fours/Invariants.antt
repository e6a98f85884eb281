-- The first place that is not white is the same from next on as from the start.
use Rattle.std.proofs.Common.{◌≡◌, ◌-◌, length}
use Rattle.scope.specs.Item.{after}
use Rattle.white.proofs.white.after_fours.Given as goal

abbrev pub invariant-loop-next : goal.invariant-loop-next
invariant-loop-next l = after l.s l.next ≡ after l.s l.at

abbrev pub decreases-loop-next : goal.decreases-loop-next
decreases-loop-next l = length l.s - l.next
