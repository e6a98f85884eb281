-- `define`: nothing of a number that is there, or behind 65 of them; else it stands behind the last one.
-- Assumes nothing.
use Rattle.std.proofs.Common.{◌≡◌, false, refl, sym, ◌∙◌, arith}
use Rattle.scope.specs.Choice.{among}
use Rattle.pattern_rows.specs.Numbers.{numbers_in}
use Rattle.patterns.proofs.Cells.{noted-there, noted-full, more-noted, more-others}
use Rattle.patterns.proofs.lists.define.Goals as goal
use Rattle.patterns.proofs.lists.define.Goals.{then-has-via-then-has, then-has-via-else-has+then-count-ge-NUMBERS_MOST}

pub returns-then-has-clause-row_after : goal.returns-then-has-clause-row_after
returns-then-has-clause-row_after c =
    let a = c.args in
    let ns = numbers_in a.patterns.now a.row in
    elim c.then-has.branch [
      | then-has-via-then-has w ↦ sym (noted-there a.n ns (sym c.has.ensures ∙ w.if-has.true))
      | then-has-via-else-has+then-count-ge-NUMBERS_MOST w ↦
          sym (noted-full a.n ns (omega (arith, c.count-count.ensures.value, w.if-count-ge-NUMBERS_MOST.true)))
    ]

pub returns-clause-row_after : goal.returns-clause-row_after
returns-clause-row_after c =
    let a = c.args in
    let t = a.patterns.now in
    let e : among (numbers_in t a.row) a.n ≡ false = sym c.has.ensures ∙ c.if-has.false in
    more-noted t a.row c.count-count.result a.n _ _ refl refl (omega arith) c.requires.1 c.count-count.ensures.value e

pub returns-clause-others : goal.returns-clause-others
returns-clause-others c = let a = c.args in
    more-others a.patterns.now a.row c.count-count.result a.n _ _ refl refl (omega arith) c.requires.0
