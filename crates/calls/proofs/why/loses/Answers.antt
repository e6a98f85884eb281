-- `loses`: after t rounds the table shows who loses a name within t calls.
-- Assumes nothing.
use Prim.Native.Nat.{◌<◌}
use mathlib.Core.Path.{◌≡◌, ◌∙◌}
use native.Mathlib.Omega.{arith}
use native.Mathlib.Numerals.{add-one}
use Rattle.motif.proofs.Rowed.{in_below}
use Rattle.calls.proofs.Rounding.{lost-none, lost-round}
use Rattle.calls.proofs.Refusing.{lost-is}
use Rattle.calls.proofs.why.loses.Goals as goal

pub loop-t-init : goal.loop-t-init
loop-t-init c = λ ms h. lost-none h.keeps

pub loop-t-preserved : goal.loop-t-preserved
loop-t-preserved c = let l = c.loop-t in
    let own = c.lacking-own in
    λ ms h. rw add-one (lost-round h.keeps h.noted l._t own.result l.table c.spread-table.result own.ensures (l.invariant ms h) c.spread-table.ensures)

pub returns : goal.returns
returns c = let l = c.loop-t in
    let a = c.args in
    let e : l._t ≡ 32 = omega arith in
    let q = rw e at l.invariant in
    λ ms m h r.
    let b : a.i < 64 = omega (arith, in_below h.keeps.rows r, h.keeps.most) in
    c.has_mark.ensures b ∙ (q ms h).at a.i m r ∙ lost-is ms m.name
