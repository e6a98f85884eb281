-- `value_in`: by the place of the first.
-- Assumes nothing.
use Rattle.std.proofs.Common.{Some, None, sym, ◌∙◌}
use Rattle.scope.specs.Attributes.{first_of, two_of}
use Rattle.items.specs.Rows.{row_at}
use Rattle.attributes.proofs.Rowed.{value-at}
use Rattle.attributes.proofs.attributes.value_in.Goals as goal

pub returns-in-Some-clause-value : goal.returns-in-Some-clause-value
unfolding first_of row_at
returns-in-Some-clause-value c = let a = c.args in
    λ z. c.whole.ensures.value (two_of a.high a.s.now (row_at a.attrs.now c.in-Some.i)) c.numbers_at.ensures.reads
    ∙ sym (value-at a.number a.attrs.now a.n (Some c.in-Some.i) (c.in-Some.ensures.value z) a.high a.s.now)

pub returns-in-None-clause-value : goal.returns-in-None-clause-value
returns-in-None-clause-value c = let a = c.args in λ z. sym (value-at a.number a.attrs.now a.n None (c.in-None.ensures.value z) a.high a.s.now)
