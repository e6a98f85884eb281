-- `early::reading_early` meets its contract: it is EndStream that is not ReadStream.
-- Assumes nothing.
use Rattle.early.proofs.Tags.{stream_ends}
use Rattle.place.proofs.Standing.{stream_phase, read-bytes, read-within}
use Rattle.early.proofs.early.reading_early.Goals as goal

pub returns-clause-by_index : goal.returns-clause-by_index
returns-clause-by_index c = let a = c.args in
    λ job attrs x first count k y w m. c.end_stream.ensures.by_index job attrs x a.o k.tables.keeps w
    (read-within y) (read-bytes y) (stream_ends x.opened a.o.tag (rw (← stream_phase y) at m) c.if-o-eq-READ_STREAM.false)
