-- `is_finite`: the exponent of the higher half is that of the real.
-- Assumes nothing.
use Prim.Native.Nat.{ℕ, ◌+◌, ◌*◌}
use mathlib.Core.Path.{sym, ap}
use mathlib.Core.Bool.{not}
use lib.Dec.{eqb}
use Rattle.scope.specs.Attributes.{finite}
use Rattle.end_point.proofs.Finite.{exponent}
use Rattle.end_point.proofs.end_point.is_finite.Goals as goal

pub returns : goal.returns
unfolding finite
returns c low h = ap (λ (e : ℕ). not (eqb e 255)) (sym (exponent (c.args.top * 256 + c.args.next) low h))
