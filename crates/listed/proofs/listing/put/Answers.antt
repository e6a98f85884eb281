-- `put`: the part was left with the record at its front.
-- Assumes nothing.
use Rattle.std.proofs.Common.{arith}
use Rattle.buffer.proofs.Parts.{part-back}
use Rattle.listed.proofs.listing.put.Goals as goal

pub returns : goal.returns
returns c = let a = c.args in part-back a.list.now c.copy.new.dst a.place a.bytes (omega arith) c.copy.ensures
