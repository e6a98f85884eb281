-- `is_given`: by the place of the first.
-- Assumes nothing.
use Rattle.std.proofs.Common.{sym, ◌∙◌}
use Rattle.attributes.proofs.Rowed.{has-at}
use Rattle.attributes.proofs.attributes.is_given.Goals as goal

pub returns : goal.returns
returns c = let a = c.args in
    λ z. c.is_some.ensures ∙ sym (has-at a.number a.attrs.now a.n c.place_of.result (c.place_of.ensures.value z))
