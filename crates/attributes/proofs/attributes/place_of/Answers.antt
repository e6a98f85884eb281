-- `place_of`: the first of a number is the same from i on as from the start.
-- Assumes nothing.
use Rattle.std.proofs.Common.{◌≡◌, ◌-◌, sym, ◌∙◌, arith}
use borrow.Author.Tests.{eq-eqb, ne_eqb}
use Rattle.items.specs.Rows.{row_at, rows_of}
use Rattle.attributes.specs.Places.{place_of}
use Rattle.attributes.proofs.Rowed.{place-more, place_end}
use Rattle.attributes.proofs.attributes.place_of.Goals as goal

pub loop-i-init : goal.loop-i-init
unfolding place_of rows_of
loop-i-init c = let e : c.at_most-end.result - 0 ≡ c.at_most-end.result = omega arith in rw e

pub returns-then-attrs-i-clause-value : goal.returns-then-attrs-i-clause-value
unfolding row_at
returns-then-attrs-i-clause-value c = let a = c.args in
    let k = place-more a.attrs.now a.number c.loop-i.i c.at_most-end.result c.loop-i-test.true in
    λ z. rw (← c.at_most-end.ensures.value z.few) (sym (sym c.loop-i.invariant ∙ k ∙ rw (eq-eqb _ _ c.if-attrs-i.true)))

pub loop-i-preserved : goal.loop-i-preserved
unfolding row_at
loop-i-preserved c = let a = c.args in
    let k = place-more a.attrs.now a.number c.loop-i.i c.at_most-end.result c.loop-i-test.true in
    sym (k ∙ rw (ne_eqb _ _ c.if-attrs-i.false)) ∙ c.loop-i.invariant

pub returns-clause-value : goal.returns-clause-value
returns-clause-value c = let a = c.args in
    let k = place_end a.attrs.now a.number c.loop-i.i c.at_most-end.result c.loop-i-test.false in
    λ z. rw (← c.at_most-end.ensures.value z.few) (sym (sym c.loop-i.invariant ∙ k))
