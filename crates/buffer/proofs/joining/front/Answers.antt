-- `front`: after i turns dst is the first i bytes of the block and the rest.
-- Assumes nothing.
use Rattle.std.proofs.Common.{◌<◌, ◌≡◌, length, refl, arith}
use lib.ListN.{length-set}
use lib.Seq.{take-length}
use Rattle.buffer.proofs.Parts.{copy_more}
use Rattle.buffer.proofs.joining.front.Goals as goal

pub loop-i-init : goal.loop-i-init
loop-i-init c = (refl, refl)

pub loop-i-preserved : goal.loop-i-preserved
loop-i-preserved c = let l = c.loop-i in
    let s = c.args.block.now in
    let d = c.args.dst.now in
    let hs : l.i < length s = omega arith in
    let hd : l.i < length d = omega arith in
    (simp length-set (omega arith), rw l.invariant.1 (copy_more s d l.i hs hd))

pub returns : goal.returns
returns c = let l = c.loop-i in
    let e : l.i ≡ length c.args.block.now = omega arith in
    rw (e, take-length) at l.invariant.1
