-- `pop`: the lowest two bits are the last state saved; with none it is refused.
-- Assumes nothing.
use Prim.Native.Nat.{suc, ◌-◌}
use Rattle.page.specs.Views.{stack}
use Rattle.scope.specs.Arm.{done}
use native.Mathlib.Omega.{arith}
use mathlib.Core.Path.{◌≡◌, refl}
use Rattle.page.proofs.page.Page.pop.Goals as goal

pub returns : goal.returns
unfolding done stack
returns c = let p = c.args.self in
    let e : p.depth ≡ suc (p.depth - 1) = omega (arith, c.if-self-eq0.false) in
    let f : suc (p.depth - 1) - 1 ≡ p.depth - 1 = omega arith in
    (omega (arith, c.if-self-eq0.false), rw (e, f) refl)
