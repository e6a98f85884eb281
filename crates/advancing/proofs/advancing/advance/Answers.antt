-- `stepping::advance` meets its contract: at the end of the job the definition reads nothing; before it both read the same.
-- Assumes nothing.
use Prim.Native.Nat.{ℕ}
use lib.ListN.{length}
use mathlib.Core.List.{List}
use mathlib.Core.Path.{refl, sym, ap, ◌∙◌, ◌≡◌}
use native.Mathlib.Omega.{arith}
use Rattle.setting.specs.Views.{setting_as}
use Rattle.scope.proofs.Placed.{read-placed}
use Rattle.scope.specs.Verdict.{every, told}
use Rattle.scope.specs.Reading.{operator_at}
use Rattle.scope.specs.Judge.{context_of, refused_at, job_step, outer}
use Rattle.scope.specs.Judge as scope
use Rattle.scope.specs.Setting.{Setting}
use Rattle.order.specs.Views.{phase_as}
use Rattle.reader.specs.Reads.{read_as}
use Rattle.state.specs.Standing.{Stands, Lent, end_code}
use Rattle.ruling.proofs.Turns.{stopped, context_is, step-no, step-ended, steps-read}
use Rattle.advancing.proofs.Ending.{steps-end}
use Rattle.advancing.proofs.advancing.advance.Goals.{After-operator_at}
use Rattle.advancing.proofs.advancing.advance.Goals as goal

-- what was read is what the definition reads where it stands
read_is : (c : After-operator_at) (list₀ : List ℕ) (l : Lent) (d : scope.State) → length c.args.attrs.now ≡ 80
    → Stands (setting_as c.args.set) c.args.job.now list₀ l c.args.st d
    → operator_at (context_of every (setting_as c.args.set) d.place) c.args.job.now d.at
    ≡ read_as c.operator_at.result c.operator_at.new.attrs
read_is c list₀ l d z h =
    let a = c.args in
    sym (context_is (setting_as a.set) a.job.now a.st.at d (phase_as c.phase_of.result) c.opened_in.result h.at
    (c.phase_of.ensures d.place (setting_as a.set) a.job.now l.work l.table l.patterns h.place)
    (c.opened_in.ensures d.place (setting_as a.set) a.job.now l.work l.table l.patterns h.place)) ∙ sym (c.operator_at.ensures.attrs_after z)

pub returns-then-is_over : goal.returns-then-is_over
returns-then-is_over c = let a = c.args in record {
  lasts = record { work_long = refl; list_long = refl; rest = refl };
  attrs_len_unchanged = refl;
  goes = tt;
  steps_on = λ d list₀ l h z.
      steps-end (setting_as a.set) d c.stop.result _ (omega (arith, c.is_over.ensures c.if-is_over.true, h.at)) h.listed
      (c.end_code.ensures d.place _ _ _ _ _ h.place)
      (c.stop.ensures d (omega (arith, c.requires)) (omega (arith, c.requires)) h.records h.performed);
}

pub perform-requires : goal.perform-requires
perform-requires c = let w = rw (c.in-Ok-Some.is, c.in-Ok-Some.field-0-is) at c.operator_at.ensures.within in
    (c.requires.0, c.requires.1, w.0, w.1, w.2, w.4, c.requires.3)

pub returns-in-Err : goal.returns-in-Err
returns-in-Err c = let a = c.args in record {
  lasts = record { work_long = refl; list_long = refl; rest = refl };
  attrs_len_unchanged = c.operator_at.ensures.attrs_len_unchanged;
  goes = tt;
  steps_on = λ d list₀ l h z.
      let set : Setting = setting_as a.set in
      let q = rw (c.in-Err.is, ← c.number.ensures) at (read_is (goal.at.returns-in-Err c).After-operator_at list₀ _ d z h) in
      let p = read-placed (context_of every (setting_as a.set) d.place) a.job.now d.at _ _ q in
      stopped c.stop-in-Err.result (job_step every set a.job.now (length list₀) d) _ _ outer h.listed (step-no set a.job.now (length list₀) d _ _ q)
      (c.stop-in-Err.ensures d (omega (arith, p, c.requires)) (omega (arith, c.requires)) h.records h.performed);
}

pub returns-in-Ok-None : goal.returns-in-Ok-None
returns-in-Ok-None c = let a = c.args in record {
  lasts = record { work_long = refl; list_long = refl; rest = refl };
  attrs_len_unchanged = c.operator_at.ensures.attrs_len_unchanged;
  goes = tt;
  steps_on = λ d list₀ l h z.
      let set : Setting = setting_as a.set in
      let q = rw (c.in-Ok-None.is, c.in-Ok-None.field-0-is) at (read_is (goal.at.returns-in-Ok-None c).After-operator_at list₀ _ d z h) in
      stopped c.stop-in-Ok-None.result (job_step every set a.job.now (length list₀) d) (end_code d.place) (length a.job.now) outer h.listed (step-ended set a.job.now (length list₀) d q)
      (c.stop-in-Ok-None.ensures d (omega (arith, c.requires)) (omega (arith, c.requires)) h.records h.performed
      ∙ ap (λ k. told (refused_at k (length a.job.now) outer d)) (c.end_code-in-Ok-None.ensures d.place _ _ _ _ _ h.place));
}

pub returns-in-Ok-Some : goal.returns-in-Ok-Some
returns-in-Ok-Some c = let a = c.args in
    let w = rw (c.in-Ok-Some.is, c.in-Ok-Some.field-0-is) at c.operator_at.ensures.within in record {
      lasts = c.perform.ensures.lasts;
      attrs_len_unchanged = c.operator_at.ensures.attrs_len_unchanged;
      goes = c.perform.ensures.goes;
      steps_on = λ d list₀ l h z.
          let set : Setting = setting_as a.set in
          let q = rw (c.in-Ok-Some.is, c.in-Ok-Some.field-0-is) at (read_is (goal.at.returns-in-Ok-Some c).After-operator_at list₀ _ d z h) in
          steps-read set d _ q (c.perform.ensures.steps_on d list₀ l h (record { long = c.operator_at.ensures.attrs_len_unchanged ∙ z; few = w.4 }, w.3, q));
    }
