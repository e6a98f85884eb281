-- `adding::adding::write_row` meets its contract: nine stores, one behind the other.
-- Assumes nothing.
use Rattle.std.proofs.Common.{◌≡◌, rules}
use Rattle.summary.specs.Sums.{bit_of}
use Rattle.adding.proofs.NewName.{row_written}
use Rattle.adding.proofs.adding.write_row.Goals as goal

pub returns : goal.returns
returns c = let a = c.args in
    let q = c.key_of-key.result in
    let e : c.from.result ≡ bit_of a.made.missing = search rules in
    rw (← c.key_of-key.ensures) (row_written a.motifs.now a.i q.first q.next q.long a.start a.long c.from.result a.made e)
