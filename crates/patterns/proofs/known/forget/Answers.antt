-- `forget`: the cells behind the mark are written over.
-- Assumes nothing.
use Rattle.std.proofs.Common.{◌+◌, ◌-◌, ◌≤◌, ◌≡◌, length, replicate, arith, rules}
use Rattle.patterns.proofs.Forgets.{forgotten_rows, forgotten-cells}
use Rattle.patterns.proofs.known.forget.Goals as goal

pub returns : goal.returns
returns c =
    let t = c.args.patterns.now in
    let zs = c.fill.new.self in
    let n = 4423 + c.args.n - 4423 in
    let l : 4423 + n ≤ length t = search rules in
    let k : length zs ≡ n = search rules in
    let z : zs ≡ replicate (length zs) 0 = rw c.fill.ensures.len (c.fill.ensures.after (search rules)) in
    record { same_rows = forgotten_rows t zs n k l; by_index = λ i h. forgotten-cells t zs n k l z i (omega arith) }
