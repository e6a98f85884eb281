-- `read`: a motif that is held lies in the store, and its bytes are valid.
-- Assumes nothing.
use Rattle.std.proofs.Common.{◌+◌, ◌-◌, ◌≡◌, arith}
use Rattle.motif.specs.Held.{start_in, long_in}
use Rattle.settling.proofs.Reading.{lies_within, reads-valid, valid-makes}
use Rattle.settling.proofs.settling.read.Goals as goal
use Rattle.settling.proofs.settling.read.Goals.{then-work-start-via-then-work-start, then-work-start-via-else-work-start+then-work-start-2}

pub returns-then-work-start : goal.returns-then-work-start
returns-then-work-start c = λ ms m k l r.
    let z = lies_within k l r in
    elim c.then-work-start.branch [
      | then-work-start-via-then-work-start w ↦ absurd (omega arith)
      | then-work-start-via-else-work-start+then-work-start-2 w ↦ absurd (omega arith)
    ]

pub returns : goal.returns
returns c = λ ms m k l r.
    let a = c.args in
    let e : start_in a.motifs.now a.i + long_in a.motifs.now a.i - start_in a.motifs.now a.i ≡ long_in a.motifs.now a.i = omega arith in
    rw c.unwrap_or.ensures (valid-makes c.judge_motif.result _ (rw (e, reads-valid k l r) at (c.judge_motif.ensures ms k)))
