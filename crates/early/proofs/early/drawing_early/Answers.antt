-- `early::drawing_early` meets its contract: BeginRastPattern, ExecStream, else nothing to judge.
-- Assumes nothing.
use Rattle.std.proofs.Common.{◌≡◌, ◌∙◌, ◌+◌, ◌-◌, arith}
use Rattle.setting.specs.Views.{setting_as}
use Rattle.early.proofs.Parts.{part_same}
use Rattle.early.proofs.Tags.{page-not, page-not_begin, page-not_read, page-not_end, image-not_begin, image-not_read, image-not_end, pattern-not_begin, pattern-not_read, pattern-not_end}
use Rattle.early.proofs.Breaking.{fine-in}
use Rattle.early.proofs.early.drawing_early.Goals as goal

pub returns-then-o-ne-EXEC_STREAM-clause-by_index : goal.returns-then-o-ne-EXEC_STREAM-clause-by_index
returns-then-o-ne-EXEC_STREAM-clause-by_index c = let a = c.args in
    λ p x k s h z d m.
    let b = x.opened in
    let n = page-not b x.busy d a.o.tag in
    fine-in (setting_as a.set) a.motifs.now p a.job.now a.attrs.now x a.o
    (n 0x5b (page-not_begin b) (image-not_begin b) (pattern-not_begin b) m) (n 0x5c (page-not_read b) (image-not_read b) (pattern-not_read b) m)
    (n 0x5d (page-not_end b) (image-not_end b) (pattern-not_end b) m) c.if-o-ne-EXEC_STREAM.true c.if-o-eq-BEGIN_RAST_PATTERN.false

pub returns-clause-by_index : goal.returns-clause-by_index
returns-clause-by_index c = let a = c.args in
    let r = c.name_in-name.result in
    let l : r.first + r.count - r.first ≡ r.count = omega arith in
    λ p x k s h z d m. c.exec_stream.ensures.earlies_in (setting_as a.set) p a.job.now a.attrs.now x a.o k s h
    (part_same a.job.now r.first l ∙ c.name_in-name.ensures.s_value z) c.if-o-ne-EXEC_STREAM.false
