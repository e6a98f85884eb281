-- `zero`: a front that is filled is so many zeros.
-- Assumes nothing.
use Rattle.std.proofs.Common.{◌≡◌, length, take, length-take-le, lt-ltb, le-ltb}
use Rattle.scope.specs.Verdict.{zeros}
use Rattle.buffer.specs.Over.{cleared}
use Rattle.buffer.proofs.zeroing.zero.Goals as goal

pub returns-then-work-ge-WORK_LEAST : goal.returns-then-work-ge-WORK_LEAST
unfolding cleared zeros
returns-then-work-ge-WORK_LEAST c = let w = c.args.work.now in
    let n : length (take 16384 w) ≡ 16384 = length-take-le 16384 w c.if-work-ge-WORK_LEAST.true in
    rw (le-ltb _ _ c.if-work-ge-WORK_LEAST.true, c.fill.ensures.after (λ y e. e), n)

pub returns-else-work-ge-WORK_LEAST : goal.returns-else-work-ge-WORK_LEAST
unfolding cleared
returns-else-work-ge-WORK_LEAST c = rw (lt-ltb _ _ c.if-work-ge-WORK_LEAST.false)
