-- `push`: below 24 the new state is the lowest two bits of the number; with 24 there is no room for them.
-- Assumes nothing.
use Prim.Native.Nat.{◌<◌}
use Rattle.page.proofs.Pages.{page-eq}
use Rattle.page.proofs.Stacks.{stack_push}
use Rattle.scope.specs.Arm.{done}
use native.Mathlib.Omega.{arith}
use mathlib.Core.Path.{refl}
use Rattle.page.proofs.page.Page.push.Goals as goal

pub returns : goal.returns
unfolding done
returns c = let p = c.args.self in
    let h : p.depth < 24 = omega (arith, c.if-self-ge-SAVED_MOST.false) in
    (h, page-eq refl refl (rw c.bits.ensures (stack_push p.depth p.saved p.cursor p.gray h)))
