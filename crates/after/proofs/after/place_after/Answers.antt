-- `after::place_after_lem` meets its contract: BeginSession, else a session goes on, case by case of what it is at.
-- Assumes nothing.
use mathlib.Core.Path.{refl}
use native.Mathlib.Omega.{arith}
use Rattle.setting.specs.Views.{setting_as}
use Rattle.place.proofs.Hatched.{beside-unknown}
use Rattle.after.proofs.Going.{outside-after, draw_after}
use Rattle.after.proofs.after.place_after.Goals as goal

pub returns-in-Outside : goal.returns-in-Outside
returns-in-Outside c = let a = c.args in
    rw c.in-Outside.is record {
      work_len_unchanged = refl;
      motifs_len_unchanged = refl;
      patterns_len_unchanged = c.clear.ensures.other_rows.long;
      work_unchanged = refl;
      after = outside-after a.job.now a.attrs.now (setting_as a.set) a.o a.work.now a.motifs.now a.patterns.now
          c.clear.new.patterns c.clear.ensures.row_after
          (beside-unknown c.clear.ensures.other_rows (omega arith) c.clear.ensures.patterns_unchanged c.clear.ensures.unknown);
    }

pub returns-in-Resting : goal.returns-in-Resting
returns-in-Resting c = let a = c.args in
    rw (c.in-Inside.is, c.in-Resting.is)
    record { work_len_unchanged = refl; motifs_len_unchanged = refl; patterns_len_unchanged = c.resting_after.ensures.patterns_len_unchanged; work_unchanged = refl; after = c.resting_after.ensures.after a.passed.early a.passed.page a.work.now a.motifs.now }

pub returns-in-Reading : goal.returns-in-Reading
returns-in-Reading c = let r = c.reading_after in
    let a = c.args in
    rw (c.in-Inside.is, c.in-Reading.is)
    record { work_len_unchanged = r.ensures.stays.work_long; motifs_len_unchanged = r.ensures.stays.table_long; patterns_len_unchanged = r.ensures.stays.patterns_long; work_unchanged = r.ensures.stays.rest; after = r.ensures.by_index a.attrs.now a.passed.page }

pub returns-in-Drawing : goal.returns-in-Drawing
returns-in-Drawing c = let d = c.define_open in
    let a = c.args in
    rw (c.in-Inside.is, c.in-Drawing.is) record {
      work_len_unchanged = refl;
      motifs_len_unchanged = refl;
      patterns_len_unchanged = d.ensures.beside.long;
      work_unchanged = refl;
      after = draw_after a.job.now a.attrs.now (setting_as a.set) a.o a.work.now a.motifs.now a.patterns.now
          c.drawn_on.result d.new.patterns
          c.drawn_on.ensures d.ensures;
    }
