-- `after::resting_after` meets its contract: EndSession, else a session goes on.
-- Assumes nothing.
use mathlib.Core.Path.{refl}
use Rattle.setting.specs.Views.{setting_as}
use Rattle.after.proofs.Going.{over-after, rest_after}
use Rattle.after.proofs.after.resting_after.Goals as goal

pub returns-then-tag-eq-END_SESSION : goal.returns-then-tag-eq-END_SESSION
returns-then-tag-eq-END_SESSION c = let a = c.args in
    record { patterns_len_unchanged = refl; after = λ early page work t. over-after a.job.now a.attrs.now (setting_as a.set) a.o work t a.patterns.now c.if-tag-eq-END_SESSION.true }

pub returns : goal.returns
returns c = let a = c.args in
    let b = c.begun in record {
      patterns_len_unchanged = b.ensures.beside.long;
      after = λ early page work t. rest_after a.job.now a.attrs.now (setting_as a.set) a.o work t a.patterns.now
          c.opened_after.result b.result b.new.patterns
          c.if-tag-eq-END_SESSION.false b.ensures.beside b.ensures.patterns_unchanged c.opened_after.ensures b.ensures.begins;
    }
