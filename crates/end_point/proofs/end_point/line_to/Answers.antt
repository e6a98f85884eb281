-- `line_to`: past the end no line is found; one by whole numbers has numbers that are taken.
-- Assumes nothing.
use Prim.Native.Nat.{◌+◌, ◌≤◌}
use mathlib.Core.Path.{refl}
use native.Mathlib.Omega.{arith}
use borrow.Author.Tests.{le-ltb}
use lib.ListN.{length, get_or-eq_default}
use Rattle.end_point.specs.EndPoint.{point_length, real_line_to, line_to}
use Rattle.end_point.proofs.EndPoint.{whole-taken}
use Rattle.end_point.proofs.end_point.line_to.Goals as goal

pub returns-then-s-at-clause-value : goal.returns-then-s-at-clause-value
unfolding line_to real_line_to point_length
returns-then-s-at-clause-value c = let a = c.args in
    let out : length a.s.now ≤ a.at + 11 = omega arith in
    rw (get_or-eq_default a.s.now 0 c.if-s-at.true, le-ltb _ _ out) refl

pub returns-clause-lined : goal.returns-clause-lined
returns-clause-lined c = let a = c.args in
    let w = c.in-Some.ensures.point in
    record { bytes = c.in-Some.bytes; point = w.0; numbers = whole-taken a.high a.s.now (a.at + 1) w.1 w.0; ends = c.ends_at.ensures.ends c.if-not-ends_at.false; is = refl }
