-- `picture_after` meets its contract: one test after the other.
-- Assumes nothing.
use mathlib.Core.Path.{sym, ◌∙◌}
use borrow.Author.Tests.{eq-eqb, ne_eqb}
use Rattle.order.specs.Pictures.{picture_for}
use Rattle.order.proofs.Pictures.{rows_in}
use Rattle.order.proofs.picture.picture_after.Goals as goal

pub returns-then-tag-eq-BEGIN_IMAGE : goal.returns-then-tag-eq-BEGIN_IMAGE
unfolding picture_for
returns-then-tag-eq-BEGIN_IMAGE c = λ z y. rw (eq-eqb _ _ c.if-tag-eq-BEGIN_IMAGE.true, ← c.begin.ensures z)

pub returns-then-tag-eq-BEGIN_RAST_PATTERN : goal.returns-then-tag-eq-BEGIN_RAST_PATTERN
unfolding picture_for
returns-then-tag-eq-BEGIN_RAST_PATTERN c = λ z y.
    rw (ne_eqb _ _ c.if-tag-eq-BEGIN_IMAGE.false, eq-eqb _ _ c.if-tag-eq-BEGIN_RAST_PATTERN.true, ← c.hatch_of.ensures z, ← c.begin-then-tag-eq-BEGIN_RAST_PATTERN.ensures z, c.packed-hatch.ensures)

pub returns-then-reads_rows : goal.returns-then-reads_rows
unfolding picture_for
returns-then-reads_rows c = let t = sym c.reads_rows.ensures ∙ c.if-reads_rows.true in
    λ z y. rw (ne_eqb _ _ c.if-tag-eq-BEGIN_IMAGE.false, ne_eqb _ _ c.if-tag-eq-BEGIN_RAST_PATTERN.false, t, ← c.value_in-more.ensures.value z) (c.read_on.ensures (rw (← c.value_in-more.ensures.value z) at (rows_in _ _ _ _ _ t y)))

pub returns-then-tag-eq-END_IMAGE : goal.returns-then-tag-eq-END_IMAGE
unfolding picture_for
returns-then-tag-eq-END_IMAGE c = λ z y. rw (ne_eqb _ _ c.if-tag-eq-BEGIN_IMAGE.false, ne_eqb _ _ c.if-tag-eq-BEGIN_RAST_PATTERN.false, sym c.reads_rows.ensures ∙ c.if-reads_rows.false, eq-eqb _ _ c.if-tag-eq-END_IMAGE.true)

pub returns-then-tag-eq-END_RAST_PATTERN : goal.returns-then-tag-eq-END_RAST_PATTERN
unfolding picture_for
returns-then-tag-eq-END_RAST_PATTERN c = λ z y. rw (ne_eqb _ _ c.if-tag-eq-BEGIN_IMAGE.false, ne_eqb _ _ c.if-tag-eq-BEGIN_RAST_PATTERN.false, sym c.reads_rows.ensures ∙ c.if-reads_rows.false, ne_eqb _ _ c.if-tag-eq-END_IMAGE.false, eq-eqb _ _ c.if-tag-eq-END_RAST_PATTERN.true)

pub returns : goal.returns
unfolding picture_for
returns c = λ z y. rw (ne_eqb _ _ c.if-tag-eq-BEGIN_IMAGE.false, ne_eqb _ _ c.if-tag-eq-BEGIN_RAST_PATTERN.false, sym c.reads_rows.ensures ∙ c.if-reads_rows.false, ne_eqb _ _ c.if-tag-eq-END_IMAGE.false, ne_eqb _ _ c.if-tag-eq-END_RAST_PATTERN.false)
