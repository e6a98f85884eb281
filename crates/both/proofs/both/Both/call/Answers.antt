-- `Both::call` meets its contract.
-- Assumes nothing.
use Rattle.arm.proofs.Rows.{walk-append}
use mathlib.Core.Bool.{true, false}
use mathlib.Core.List.{◌∷◌}
use Rattle.summary.specs.Sums.{fresh}
use Rattle.scope.specs.Arm.{walk}
use Rattle.both.proofs.both.Both.call.Goals as goal

pub returns : goal.returns
returns c row called x h e k = record {
  a = rw (walk-append row (x ∷ called) (fresh true)) (c.call.ensures (walk row (fresh true)) x called h.a e k);
  b = rw (walk-append row (x ∷ called) (fresh false)) (c.call-2.ensures (walk row (fresh false)) x called h.b e k);
}
