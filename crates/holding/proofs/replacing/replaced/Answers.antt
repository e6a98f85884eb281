-- `holding::replacing::replaced` meets its contract: the bytes are exchanged, one length changes, each START is made anew, and then the table.
-- Assumes nothing.
use Rattle.std.proofs.Common.{arith}
use Rattle.motif.specs.Held.{start_in, long_in}
use Rattle.holding.proofs.Exchanged.{old-within, replaced-stored, work-beside}
use Rattle.holding.proofs.replacing.replaced.Goals as goal

pub returns-then-used-joined-clause-work_unchanged : goal.returns-then-used-joined-clause-work_unchanged
returns-then-used-joined-clause-work_unchanged c = let a = c.args in
    (work-beside a.work.now (start_in a.motifs.now a.i) (long_in a.motifs.now a.i) a.kept.used a.joined c.replace.new.work c.replace.ensures c.requires.joined_bound).1

pub returns-then-used-joined-clause-by_index : goal.returns-then-used-joined-clause-by_index
returns-then-used-joined-clause-by_index c = λ name ms bytes ops m k h r. absurd (omega (arith, old-within k h r))

pub returns-clause-work_unchanged : goal.returns-clause-work_unchanged
returns-clause-work_unchanged c = let a = c.args in
    (work-beside a.work.now (start_in a.motifs.now a.i) (long_in a.motifs.now a.i) a.kept.used a.joined c.replace.new.work c.replace.ensures c.requires.joined_bound).1

pub returns-clause-by_index : goal.returns-clause-by_index
returns-clause-by_index c = λ name ms bytes ops m k h r.
    let q = c.requires in
    let y = c.lay_out.ensures in
    replaced-stored k h r q.i_bound q.joined_bound q.joined_in_bounds _ y.motifs_len_unchanged y.rows y.by_index _ c.replace.ensures _ c.remake.ensures.tables
