-- `call_of`: by what the search finds.
-- Assumes nothing.
use Rattle.calls.proofs.Refusing.{calls-nowhere, calls_at}
use Rattle.calls.proofs.calls.call_of.Goals as goal

pub returns-in_default-clause-calls : goal.returns-in_default-clause-calls
returns-in_default-clause-calls c = λ ms h s w. calls-nowhere c.args.name.now (rw c.in_default.is at (c.find.ensures.finds ms h.keeps))

pub returns-clause-calls : goal.returns-clause-calls
returns-clause-calls c = λ ms h s w.
    calls_at c.args.name.now h.keeps (c.in-Some.ensures.finds ms h.keeps) (λ m r. c.of_row.ensures.calls ms m h s w r)
