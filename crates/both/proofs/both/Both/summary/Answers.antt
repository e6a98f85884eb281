-- `Both::summary` meets its contract.
-- Assumes nothing.
use Rattle.arm.proofs.Rows.{fresh-count}
use Rattle.arm.proofs.Ways.{fresh-most}
use mathlib.Core.Bool.{true, false}
use Rattle.summary.specs.Sums.{fresh}
use Rattle.scope.specs.Arm.{walk}
use Rattle.both.proofs.both.Both.summary.Goals as goal

pub returns : goal.returns
returns c row h k = record {
  balanced = k;
  count = rw (← fresh-count row true) h.a.count;
  most = h.a.most;
  source = h.a.source;
  a = λ m. c.ended.ensures (walk row (fresh true)) h.a m;
  b = λ m. c.ended-2.ensures (walk row (fresh false)) h.b (rw (fresh-most row) m);
}
