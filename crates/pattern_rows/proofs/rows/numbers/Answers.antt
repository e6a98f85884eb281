-- `numbers`: the cells behind the first one.
-- Assumes nothing.
use Rattle.std.proofs.Common.{◌+◌, ◌-◌, ◌*◌, ◌≡◌, arith}
use Rattle.pattern_rows.proofs.Cells.{in_cells}
use Rattle.pattern_rows.proofs.rows.numbers.Goals as goal

pub returns : goal.returns
returns c = let f = c.args.row * 66 + 1 in
    let e : f + c.count.result - f ≡ c.count.result = omega arith in
    rw (e, c.count.ensures.value) (in_cells c.args.patterns.now c.args.row c.requires.1)
