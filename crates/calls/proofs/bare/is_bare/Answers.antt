-- `is_bare`: after t rounds the table shows whose call comes to a pattern that is not defined within t levels.
-- Assumes nothing.
use Prim.Native.Nat.{◌<◌}
use mathlib.Core.Path.{◌≡◌, sym, ap, ◌∙◌}
use native.Mathlib.Omega.{arith}
use native.Mathlib.Numerals.{add-one}
use Rattle.scope.specs.Reach.{called_by}
use Rattle.motif.specs.Held.{level_in}
use Rattle.motif.proofs.Rowed.{in_below}
use Rattle.pattern_rows.specs.Numbers.{OfPage, OfSession, numbers_in}
use Rattle.calls.specs.Marks.{unmet}
use Rattle.calls.proofs.Refusing.{used}
use Rattle.calls.proofs.Baring.{bad_in, level-most, unmet-is, bad-shows, none-bad, unmet-none, unmet-round}
use Rattle.calls.proofs.bare.is_bare.Goals as goal

pub returns-then-not-selecting : goal.returns-then-not-selecting
returns-then-not-selecting c = let a = c.args in
    let p = a.patterns.now in
    let z = c.selecting.ensures c.if-not-selecting.true in
    λ ms m h s w r e. sym (none-bad s w h.keeps z _ m.name) ∙ unmet-is h.settled r e (numbers_in p OfPage) (numbers_in p OfSession)

pub loop-t-init : goal.loop-t-init
loop-t-init c = λ ms h s w. unmet-none h.keeps _ _

pub loop-t-preserved : goal.loop-t-preserved
loop-t-preserved c = let l = c.loop-t in
    let own = c.lacking-own in
    let g = c.spread-table in
    λ ms h s w.
    let b = bad-shows s w h.keeps own.ensures in
    rw add-one (unmet-round h.keeps _ _ h.noted l._t own.result l.table g.result b (l.invariant ms h s w) g.ensures)

pub returns : goal.returns
returns c = let l = c.loop-t in
    let a = c.args in
    λ ms m h s w r k.
    let b : a.i < 64 = omega (arith, in_below h.keeps.rows r, h.keeps.most) in
    let n = level-most h.settled r k in
    let d : l._t ≡ level_in a.motifs.now a.i = omega (arith, n, c.min-t-end.ensures) in
    c.has_mark.ensures b
    ∙ (l.invariant ms (used c.in_use-n.ensures.value_2 h) s w).at a.i m r
    ∙ ap (λ y. unmet (bad_in a.patterns.now ms) (called_by ms) y m.name) d
    ∙ unmet-is h.settled r k (numbers_in a.patterns.now OfPage) (numbers_in a.patterns.now OfSession)
