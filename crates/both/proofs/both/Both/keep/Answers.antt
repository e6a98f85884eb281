-- `Both::keep` meets its contract.
-- Assumes nothing.
use Prim.Native.Nat.{min}
use mathlib.Core.Path.{ap, ◌∙◌}
use mathlib.Core.Bool.{true, false}
use Rattle.summary.specs.Sums.{fresh}
use Rattle.scope.specs.Arm.{walk}
use Rattle.arm.proofs.Rows.{walk-append}
use Rattle.both.proofs.both.Both.keep.Goals as goal

pub returns : goal.returns
returns c row more h k n = let e = c.capped-few.ensures ∙ ap (λ m. min m 1_000_001) n in
    record {
      a = rw (walk-append row more (fresh true)) (c.keep.ensures (walk row (fresh true)) more h.a k e);
      b = rw (walk-append row more (fresh false)) (c.keep-2.ensures (walk row (fresh false)) more h.b k e);
    }
