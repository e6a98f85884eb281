-- `record_at`: the chunk of sixteen bytes at i, if there is one.
-- Assumes nothing.
use Rattle.std.specs.Prelude.{◌+◌, ◌*◌, ◌/◌, ◌<◌, ◌≤◌, [], length, slice_index_or}
use Rattle.std.proofs.Common.{◌∙◌, ap, arith}
use Rattle.std.proofs.lemmas.Bool.{le-leb, lt-leb}
use Rattle.listing.specs.Records.{record_in}
use Rattle.listing.proofs.Chunks.{chunk_in}
use Rattle.listing.proofs.records.record_at.Goals as goal

pub returns-in_err-get : goal.returns-in_err-get
unfolding record_in
returns-in_err-get c =
    let l = c.args.list.now in
    let i = c.args.i in
    let past : length l < i * 16 + 16 = omega (arith, c.as_chunks.ensures.front_len, c.in_err-get.ensures.lookup.3) in
    rw (lt-leb (i * 16 + 16) (length l) past) c.from_residual.ensures

pub returns : goal.returns
unfolding record_in
returns c =
    let l = c.args.list.now in
    let i = c.args.i in
    let n = length l / 16 in
    let found = c.in_ok-get.ensures.lookup.3 in
    let here : i < n = omega (arith, c.as_chunks.ensures.front_len, found.0) in
    let within : i * 16 + 16 ≤ length l = omega (arith, here) in
    let part = found.1 [] ∙ ap (λ cs. slice_index_or cs i []) c.as_chunks.ensures.front ∙ chunk_in n i l here in
    rw (le-leb (i * 16 + 16) (length l) within, ← part) c.read.ensures
