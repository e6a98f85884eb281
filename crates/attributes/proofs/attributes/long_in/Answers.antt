-- `long_in`: by the place of the first.
-- Assumes nothing.
use Rattle.std.proofs.Common.{Some, None, sym, ◌∙◌}
use Rattle.items.specs.Rows.{row_at}
use Rattle.attributes.proofs.Rowed.{long-at}
use Rattle.attributes.proofs.attributes.long_in.Goals as goal

pub returns-in-Some : goal.returns-in-Some
unfolding row_at
returns-in-Some c = let a = c.args in
    λ z. c.long_at.ensures ∙ sym (long-at a.number a.attrs.now a.n (Some c.in-Some.i) (c.in-Some.ensures.value z) a.high a.s.now)

pub returns-in-None : goal.returns-in-None
returns-in-None c = let a = c.args in λ z. sym (long-at a.number a.attrs.now a.n None (c.in-None.ensures.value z) a.high a.s.now)
