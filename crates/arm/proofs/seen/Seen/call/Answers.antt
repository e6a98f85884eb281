-- `Seen::call` meets its contract.
-- Assumes nothing.
use Rattle.arm.proofs.Keeping.{call-holds}
use Rattle.summary.specs.Sums.{fresh}
use Rattle.scope.specs.Arm.{walk}
use native.Mathlib.Omega.{arith}
use lib.ListN.{length}
use Prim.Native.Nat.{◌+◌}
use mathlib.Core.Bool.{true}
use Rattle.arm.proofs.seen.Seen.call.Goals as goal

pub returns : goal.returns
returns c w x row h i k = let args = c.args in
    call-holds args.self _ args.summary w x row h i k
    (c.add-2.ensures (w.count + 1) (length row) (c.add.ensures w.count 1 h.count (omega arith)) k.count)
    (c.higher.ensures w.most (walk row (fresh true)).most h.most k.most)
    (record {
      page = c.ends_at.ensures;
      source = grind arith;
      lost = grind arith;
      wrong = grind arith;
    })
