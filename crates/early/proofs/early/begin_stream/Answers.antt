-- `early::begin_stream` meets its contract: a row is left, or what the search for the name finds.
-- Assumes nothing.
use Prim.Native.Nat.{◌+◌, ◌-◌}
use mathlib.Core.Path.{◌≡◌, ◌∙◌}
use native.Mathlib.Omega.{arith}
use Rattle.motif.proofs.Rowed.{rows-length}
use Rattle.early.proofs.Parts.{part_same}
use Rattle.early.proofs.Breaking.{begin-few, begin-at, begin-nowhere}
use Rattle.early.proofs.early.begin_stream.Goals as goal

pub returns-then-held-lt-MOTIFS_MOST : goal.returns-then-held-lt-MOTIFS_MOST
returns-then-held-lt-MOTIFS_MOST c = let a = c.args in
    λ set p x k z t. begin-few set a.motifs.now p a.job.now a.attrs.now x a.o t (rows-length k.rows) c.if-held-lt-MOTIFS_MOST.true

pub returns-in-Some : goal.returns-in-Some
returns-in-Some c = let a = c.args in
    let r = c.name_in-name.result in
    let l : r.first + r.count - r.first ≡ r.count = omega arith in
    λ set p x k z t. begin-at set a.motifs.now p a.job.now a.attrs.now x a.o t (part_same a.job.now r.first l ∙ c.name_in-name.ensures.s_value z)
    (c.in-Some.ensures.finds x.held k)

pub returns-in-None : goal.returns-in-None
returns-in-None c = let a = c.args in
    let r = c.name_in-name.result in
    let l : r.first + r.count - r.first ≡ r.count = omega arith in
    λ set p x k z t. begin-nowhere set a.motifs.now p a.job.now a.attrs.now x a.o t (rows-length k.rows) c.if-held-lt-MOTIFS_MOST.false
    (part_same a.job.now r.first l ∙ c.name_in-name.ensures.s_value z) (c.in-None.ensures.finds x.held k)
