-- `note`: what is read of the motif is what its row is to say.
-- Assumes nothing.
use Rattle.std.proofs.Common.{◌≡◌, not, eqb, ◌∙◌, rules}
use Rattle.settling.proofs.Noting.{noted_more}
use Rattle.settling.proofs.settling.note.Goals as goal

pub returns-clause-noted_to : goal.returns-clause-noted_to
returns-clause-noted_to c = λ ms l w.
    let a = c.args in
    let p = c.read-made in
    let e : not (eqb c.from.result 0) ≡ p.result.missing = search rules in
    noted_more a.motifs.now a.held ms a.i p.result.calls c.from.result c.requires w
    (λ m r. (p.ensures ms m w.keeps l r).whom) (λ m r. e ∙ (p.ensures ms m w.keeps l r).lacks)
