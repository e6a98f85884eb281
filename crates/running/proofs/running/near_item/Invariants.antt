-- The invariant: the first place that is not white is the same from p on as from the start.
use mathlib.Core.Path.{◌≡◌}
use Rattle.scope.specs.Item.{after}
use Rattle.running.proofs.running.near_item.Given as goal

abbrev pub invariant-loop-p : goal.invariant-loop-p
invariant-loop-p l = after l.job l.p ≡ after l.job l.at
