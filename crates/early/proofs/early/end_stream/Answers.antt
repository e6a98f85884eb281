-- `early::end_stream` meets its contract: what the motif is judged to, and what was noted meanwhile.
-- Assumes nothing.
use Rattle.std.proofs.Common.{◌≡◌, refl, ◌∙◌, ◌+◌, ◌-◌, arith}
use Rattle.std.proofs.lemmas.Result.{err_from_is_err_and}
use Rattle.setting.specs.Views.{setting_as}
use Rattle.pattern_rows.specs.Numbers.{numbers_in, numbers_to}
use Rattle.early.proofs.Parts.{part_same, part-short}
use Rattle.early.proofs.Breaking.{end-valid, end-faulty}
use Rattle.early.proofs.early.end_stream.Goals as goal

pub returns-clause-by_index : goal.returns-clause-by_index
unfolding numbers_in numbers_to
returns-clause-by_index c = let a = c.args in
    let n : a.kept.used + a.joined - a.kept.used ≡ a.joined = omega arith in
    λ job attrs x o k w l e t. end-valid (setting_as a.set) a.motifs.now _ job attrs x o t
    (part_same a.work.now a.kept.used n ∙ e) (c.in_ok-made.ensures.judges x.held k)
    (λ ops m. c.take_own.ensures.patterns_after ∙ c.in_ok-made.ensures.own_after x.held ops k refl m)

pub returns-in_err-made-clause-by_index : goal.returns-in_err-made-clause-by_index
returns-in_err-made-clause-by_index c = let a = c.args in
    let n : a.kept.used + a.joined - a.kept.used ≡ a.joined = omega arith in
    let q = err_from_is_err_and c.from_residual.result c.from_residual.ensures.1 in
    λ job attrs x o k w l e t. rw (q.1, q.2) (end-faulty (setting_as a.set) a.motifs.now a.patterns.now job attrs x o t
    (part_same a.work.now a.kept.used n ∙ e) (part-short a.work.now a.kept.used n (omega arith))
    (c.in_err-made.ensures.judges x.held k))
