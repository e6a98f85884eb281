-- `early::read_stream` meets its contract: what is left of 16,384 bytes is enough or not.
-- Assumes nothing.
use Rattle.std.proofs.Common.{◌+◌, ◌≤◌, ◌<◌, length, arith}
use Rattle.scope.specs.Motif.{bytes_held}
use Rattle.scope.specs.Session.{joined_of}
use Rattle.early.proofs.Breaking.{read_past, read-room}
use Rattle.early.proofs.early.read_stream.Goals as goal

pub returns-then-saturating_sub-o : goal.returns-then-saturating_sub-o
returns-then-saturating_sub-o c = let a = c.args in
    λ set motifs p job attrs x u j h t. let k : 16384 < bytes_held x.held + (length (joined_of x.busy) + a.o.length) = omega arith in
    read_past set motifs p job attrs x a.o t k

pub returns : goal.returns
returns c = let a = c.args in
    λ set motifs p job attrs x u j h t. let k : bytes_held x.held + (length (joined_of x.busy) + a.o.length) ≤ 16384 = omega arith in
    read-room set motifs p job attrs x a.o t k
