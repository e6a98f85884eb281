-- `packed`: a number of two bytes is below 65,536, so that what is more tells a session's.
-- Assumes nothing.
use Prim.Native.Nat.{◌+◌, ◌%◌, ◌≤◌, ◌<◌}
use mathlib.Core.Path.{◌≡◌}
use native.Mathlib.Omega.{arith}
use borrow.Author.Tests.{le-leb, lt-leb}
use borrow.Author.Rules.{rules}
use Rattle.order.specs.Pictures.{hatch_in}
use Rattle.order.proofs.picture.packed.Goals as goal

pub returns-then-hatch : goal.returns-then-hatch
unfolding hatch_in
returns-then-hatch c = let h = c.args.hatch in
    let l : h.number < 65536 = search rules in
    let p : 65536 ≤ h.number + 65536 = omega arith in
    let q : (h.number + 65536) % 65536 ≡ h.number = omega (arith, l) in
    rw (le-leb 65536 (h.number + 65536) p, q, c.if-hatch.true)

pub returns : goal.returns
unfolding hatch_in
returns c = let h = c.args.hatch in
    let l : h.number < 65536 = search rules in
    let q : h.number % 65536 ≡ h.number = omega (arith, l) in
    rw (lt-leb 65536 h.number l, q, c.if-hatch.false)
