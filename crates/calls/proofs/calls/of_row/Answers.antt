-- `of_row`: by whether it has a level.
-- Assumes nothing.
use mathlib.Core.Path.{refl}
use Rattle.calls.proofs.Refusing.{calls-level}
use Rattle.calls.proofs.calls.of_row.Goals as goal

pub returns-clause-calls : goal.returns-clause-calls
returns-clause-calls c = λ ms m h s w r.
    let t = c.if-motifs-i-eq0.false in
    calls-level h.settled r t refl (c.lacks_any.ensures.value ms m h s w r t)
