-- `hatching::begin_pattern` meets its contract: by how many are defined at its persistence, and whether it is one of them.
-- Assumes nothing.
use Rattle.std.proofs.Common.{sym, ◌∙◌, ◌≤◌, ◌<◌, length}
use Rattle.setting.specs.Views.{setting_as}
use Rattle.pattern_rows.specs.Numbers.{numbers_in}
use Rattle.early.proofs.Places.{row-numbers}
use Rattle.early.proofs.Breaking.{pattern-few, pattern-again, pattern-new}
use Rattle.early.proofs.hatching.begin_pattern.Goals.{then-count-lt-PATTERNS_MOST-via-then-count-lt-PATTERNS_MOST, then-count-lt-PATTERNS_MOST-via-else-count-lt-PATTERNS_MOST+then-has}
use Rattle.early.proofs.hatching.begin_pattern.Goals as goal

pub returns-then-count-lt-PATTERNS_MOST : goal.returns-then-count-lt-PATTERNS_MOST
returns-then-count-lt-PATTERNS_MOST c = let a = c.args in
    λ t p x d z e. elim c.then-count-lt-PATTERNS_MOST.branch [
      | then-count-lt-PATTERNS_MOST-via-then-count-lt-PATTERNS_MOST w ↦
          (let l : length (numbers_in a.patterns.now c.row_of-row.result) < 32 = rw (← c.count.ensures.value) w.if-count-lt-PATTERNS_MOST.true in
          pattern-few (setting_as a.set) t p a.job.now a.attrs.now x a.o e (c.hatch_of-hatch.ensures z)
          (row-numbers c.hatch_of-hatch.result.session c.row_of-row.ensures.value d) l)
      | then-count-lt-PATTERNS_MOST-via-else-count-lt-PATTERNS_MOST+then-has w ↦
          pattern-again (setting_as a.set) t p a.job.now a.attrs.now x a.o e (c.hatch_of-hatch.ensures z)
          (row-numbers c.hatch_of-hatch.result.session c.row_of-row.ensures.value d) (sym w.has.ensures ∙ w.if-has.true)
    ]

pub returns : goal.returns
returns c = let a = c.args in
    λ t p x d z e. let l : 32 ≤ length (numbers_in a.patterns.now c.row_of-row.result) = rw (← c.count.ensures.value) c.if-count-lt-PATTERNS_MOST.false in
    pattern-new (setting_as a.set) t p a.job.now a.attrs.now x a.o e (c.hatch_of-hatch.ensures z)
    (row-numbers c.hatch_of-hatch.result.session c.row_of-row.ensures.value d) l (sym c.has.ensures ∙ c.if-has.false)
