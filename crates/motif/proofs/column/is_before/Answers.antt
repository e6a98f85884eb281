-- `is_before` meets its contract: std orders three numbers as the order of names does.
-- Assumes nothing.
use Rattle.std.proofs.Common.{◌+◌, ◌*◌, ◌≡◌, ◌∙◌, slice_index, arith}
use Rattle.motif.proofs.Ordered.{before-three}
use Rattle.motif.proofs.column.is_before.Goals as goal

pub returns : goal.returns
returns c =
    let t = c.args.motifs.now in
    let i = c.args.i in
    let k = c.args.key in
    let e : i * 10 + 0 ≡ i * 10 = omega arith in
    rw e (c.lt.ensures ∙ before-three (slice_index t (i * 10)) (slice_index t (i * 10 + 1)) (slice_index t (i * 10 + 2)) k.first k.next k.long)
