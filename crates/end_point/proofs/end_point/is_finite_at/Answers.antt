-- `is_finite_at`: the two highest bytes stand first, or last.
-- Assumes nothing.
use Prim.Native.Nat.{◌+◌, ◌*◌, ◌<◌}
use native.Mathlib.Omega.{arith}
use lib.ListN.{get_or}
use Rattle.end_point.proofs.Finite.{four_bytes}
use Rattle.end_point.proofs.end_point.is_finite_at.Goals as goal

pub returns-then-high : goal.returns-then-high
returns-then-high c = let a = c.args in
    let s = a.s.now in
    let low : get_or s (a.p + 2) 0 * 256 + get_or s (a.p + 3) 0 < 65536 = omega (arith, c.type_inv.s (a.p + 2), c.type_inv.s (a.p + 3)) in
    rw (four_bytes a.high s a.p, c.if-high.true) (c.is_finite.ensures (get_or s (a.p + 2) 0 * 256 + get_or s (a.p + 3) 0) low)

pub returns-else-high : goal.returns-else-high
returns-else-high c = let a = c.args in
    let s = a.s.now in
    let low : get_or s (a.p + 1) 0 * 256 + get_or s a.p 0 < 65536 = omega (arith, c.type_inv.s (a.p + 1), c.type_inv.s a.p) in
    rw (four_bytes a.high s a.p, c.if-high.false) (c.is_finite-else-high.ensures (get_or s (a.p + 1) 0 * 256 + get_or s a.p 0) low)
