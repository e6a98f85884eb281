-- `Both::step` meets its contract.
-- Assumes nothing.
use Rattle.arm.proofs.Rows.{walk-append}
use mathlib.Core.Bool.{true, false}
use mathlib.Core.List.{[], ◌∷◌}
use Rattle.summary.specs.Sums.{fresh}
use Rattle.scope.specs.Arm.{walk}
use Rattle.both.proofs.both.Both.step.Goals as goal

pub returns : goal.returns
unfolding walk
returns c row x h e = record {
  a = rw (walk-append row (x ∷ []) (fresh true), e) (c.step.ensures (walk row (fresh true)) h.a);
  b = rw (walk-append row (x ∷ []) (fresh false), e) (c.step-2.ensures (walk row (fresh false)) h.b);
}
