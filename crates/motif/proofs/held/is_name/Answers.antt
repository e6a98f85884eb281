-- `is_name` meets its contract: one number after the other.
-- Assumes nothing.
use mathlib.Core.Path.{sym, ◌∙◌}
use native.Mathlib.Omega.{arith}
use Rattle.std.proofs.lemmas.Bool.Decides.{nat_tests}
use Rattle.motif.proofs.Finding.{same_row}
use Rattle.motif.proofs.held.is_name.Goals.{then-motifs-i, else-motifs-i}
use Rattle.motif.proofs.held.is_name.Goals as goal

pub returns-then-motifs-i-2 : goal.returns-then-motifs-i-2
returns-then-motifs-i-2 c =
    let a = c.args in
    sym (same_row a.motifs.now a.i a.key.first a.key.next a.key.long
    ∙ (elim c.if-motifs-i.branch [ then-motifs-i w ↦ grind (arith, nat_tests) | else-motifs-i w ↦ grind (arith, nat_tests) ]))

pub returns-else-motifs-i-2 : goal.returns-else-motifs-i-2
returns-else-motifs-i-2 c =
    let a = c.args in
    sym (same_row a.motifs.now a.i a.key.first a.key.next a.key.long
    ∙ (elim c.if-motifs-i.branch [ then-motifs-i w ↦ grind (arith, nat_tests) | else-motifs-i w ↦ grind (arith, nat_tests) ]))
