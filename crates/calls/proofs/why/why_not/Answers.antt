-- `why_not`: by the tests; what is left is a call below 32.
-- Assumes nothing.
use mathlib.Core.Path.{sym, ◌∙◌}
use Rattle.calls.specs.Judged.{calls_missing, calls_again}
use Rattle.calls.proofs.Refusing.{used, calls-left}
use Rattle.calls.proofs.why.why_not.Goals as goal

pub returns-then-loses : goal.returns-then-loses
returns-then-loses c = λ of_page of_session ms m h r e. calls_missing (sym (c.loses.ensures ms m (used c.in_use-n.ensures.value_2 h) r) ∙ c.if-loses.true)

pub returns-then-turns : goal.returns-then-turns
returns-then-turns c = λ of_page of_session ms m h r e.
    calls_again (sym (c.loses.ensures ms m (used c.in_use-n.ensures.value_2 h) r) ∙ c.if-loses.false)
    (sym (c.turns.ensures ms m (used c.in_use-n.ensures.value_2 h) r) ∙ c.if-turns.true)

pub returns-else-turns : goal.returns-else-turns
returns-else-turns c = λ of_page of_session ms m h r e.
    calls-left h.settled r e (sym (c.loses.ensures ms m (used c.in_use-n.ensures.value_2 h) r) ∙ c.if-loses.false)
    (sym (c.turns.ensures ms m (used c.in_use-n.ensures.value_2 h) r) ∙ c.if-turns.false)
