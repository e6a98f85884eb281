-- `holding::replacing::lay_out` meets its contract: after i turns the first i rows are right, and the next bytes begin behind theirs.
-- Assumes nothing.
use Rattle.std.proofs.Common.{◌<◌, arith}
use Rattle.holding.proofs.Laying.{laid_none, laid_more, laid-sorted}
use Rattle.holding.proofs.replacing.lay_out.Goals as goal

pub loop-i-init : goal.loop-i-init
loop-i-init c = (omega arith, laid_none c.args.motifs.now)

pub loop-i-preserved : goal.loop-i-preserved
loop-i-preserved c = let l = c.loop-i in
    let h : l.i < 64 = omega (arith, c.in_use-n.ensures.upper_bound) in
    let m = c.min-long in (
      omega (arith, m.ensures),
      laid_more c.args.motifs.now l.motifs l.i l.start m.result h l.invariant.1 (λ b. omega (arith, m.ensures, b)),
    )

pub returns-clause-by_index : goal.returns-clause-by_index
returns-clause-by_index c = λ n. laid-sorted c.args.motifs.now c.loop-i.motifs c.loop-i.i c.loop-i.start (omega (arith, c.in_use-n.ensures.upper_bound)) c.loop-i.invariant.1
