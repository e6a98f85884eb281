-- `lacks_any`: what is known is so; else what is found, which becomes known.
-- Assumes nothing.
use mathlib.Core.Path.{sym, ◌∙◌}
use Rattle.calls.proofs.Knowing.{learned}
use Rattle.calls.proofs.bare.lacks_any.Goals as goal

pub returns-clause-selects : goal.returns-clause-selects
returns-clause-selects c = λ ms h s w k.
    let l = c.learn.ensures in
    learned l.same_rows c.args.i h.keeps l.by_index (λ m r. sym (c.is_bare.ensures ms m h s w r k) ∙ c.if-is_bare.false) s
