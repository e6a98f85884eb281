-- `value_at`: past the end no value's tag stands.
-- Assumes nothing.
use lib.ListN.{get_or-eq_default}
use Rattle.scope.specs.Item.{kind_of, value_of}
use Rattle.items.proofs.value.value_at.Goals as goal

pub returns-then-s-at-clause-result_value : goal.returns-then-s-at-clause-result_value
unfolding value_of kind_of
returns-then-s-at-clause-result_value c = rw (get_or-eq_default c.args.s.now 0 c.if-s-at.true)
