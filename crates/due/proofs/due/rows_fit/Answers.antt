-- `rows_fit`: StartLine, then the rows, then BlockByteLength.
-- Assumes nothing.
use mathlib.Core.Path.{sym, ◌∙◌}
use native.Mathlib.Omega.{arith}
use Rattle.std.proofs.lemmas.Bool.Decides.{nat_tests}
use Rattle.scope.specs.Order.{rows_fit}
use Rattle.due.proofs.due.rows_fit.Goals.{then-start-image, else-start-image}
use Rattle.due.proofs.due.rows_fit.Goals as goal

pub returns-then-not-reads_rows : goal.returns-then-not-reads_rows
unfolding rows_fit
returns-then-not-reads_rows c = λ z. rw (sym c.reads_rows.ensures ∙ c.if-not-reads_rows.true)

pub returns-then-image-block : goal.returns-then-image-block
unfolding rows_fit
returns-then-image-block c = λ z. rw (sym c.reads_rows.ensures ∙ c.if-not-reads_rows.false, ← c.value_in-start.ensures.value z, ← c.value_in-block.ensures.value z, ← c.length_fits.ensures z)
    (elim c.if-start-image.branch [ then-start-image w ↦ grind (arith, nat_tests) | else-start-image w ↦ grind (arith, nat_tests) ])

pub returns-else-image-block : goal.returns-else-image-block
unfolding rows_fit
returns-else-image-block c = λ z. rw (sym c.reads_rows.ensures ∙ c.if-not-reads_rows.false, ← c.value_in-start.ensures.value z, ← c.value_in-block.ensures.value z)
    (elim c.if-start-image.branch [ then-start-image w ↦ grind (arith, nat_tests) | else-start-image w ↦ grind (arith, nat_tests) ])
