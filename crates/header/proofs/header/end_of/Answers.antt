-- `end_of` meets its contract.
-- Assumes nothing.
use Rattle.std.proofs.Common.{arith}
use Rattle.header.proofs.Forms.{form-breaks, form-ends, form-next, form-out}
use Rattle.header.proofs.header.end_of.Goals as goal

pub returns-then-not-may_stand-clause-result_value : goal.returns-then-not-may_stand-clause-result_value
returns-then-not-may_stand-clause-result_value c = cc (form-breaks c.args.s.now c.loop-i.i c.loop-i-test.true (cc))

pub returns-then-b-eq10-clause-result_value : goal.returns-then-b-eq10-clause-result_value
returns-then-b-eq10-clause-result_value c = cc (form-ends c.args.s.now c.loop-i.i c.loop-i-test.true (cc) c.if-i-ge15.true c.if-b-eq10.true)

pub loop-i-preserved : goal.loop-i-preserved
loop-i-preserved c = cc (form-next c.args.s.now c.loop-i.i c.loop-i-test.true (cc) c.else-i-ge15.either)

pub returns-clause-result_value : goal.returns-clause-result_value
returns-clause-result_value c = cc (form-out c.args.s.now c.loop-i.i c.loop-i-test.false (omega arith))
