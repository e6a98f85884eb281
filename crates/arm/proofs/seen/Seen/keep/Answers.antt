-- `Seen::keep` meets its contract.
-- Assumes nothing.
use mathlib.Core.Path.{refl}
use native.Mathlib.Omega.{arith}
use lib.ListN.{length}
use Rattle.arm.proofs.Kept.{keep_holds}
use Rattle.arm.proofs.seen.Seen.keep.Goals as goal

pub returns : goal.returns
returns c w row h k n = let a = c.args in
    keep_holds a.self _ a.cursor row w h k refl (c.add.ensures w.count (length row) h.count n) refl refl (grind arith) refl
