-- `adding::adding::added` meets its contract: the row is written, comes into the column, and the table is settled, unless all rows are in use.
-- Assumes nothing.
use Rattle.std.proofs.Common.{◌+◌, ◌≤◌, length, ap, ◌∙◌, arith}
use Rattle.key.specs.Keys.{key_of}
use Rattle.motif.specs.Search.{entered_in}
use Rattle.adding.proofs.NewName.{held-length, added_stored}
use Rattle.adding.proofs.adding.added.Goals as goal

pub returns-then-held-ge-MOTIFS_MOST-clause-stored : goal.returns-then-held-ge-MOTIFS_MOST-clause-stored
returns-then-held-ge-MOTIFS_MOST-clause-stored c = λ ms bytes ops k n l q. absurd (omega (arith, held-length k n))

pub returns-clause-stored : goal.returns-clause-stored
returns-clause-stored c = λ ms bytes ops k n l q.
    let a = c.args in
    let room : a.kept.used + a.joined ≤ length a.work.now = omega (arith, c.requires) in
    added_stored k n a.made l q room _ (c.enter.ensures.motifs_after ∙ ap (λ t. entered_in t a.kept.held (key_of a.name.now)) c.write_row.ensures) _ c.settle.ensures.tables
