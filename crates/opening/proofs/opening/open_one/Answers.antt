-- `open_one`: what was read is what the definition reads where it stands; else the job stands still.
-- Assumes nothing.
use Prim.Native.Nat.{ℕ}
use mathlib.Core.Path.{◌≡◌, sym, ◌∙◌}
use mathlib.Core.List.{List}
use lib.ListN.{length}
use Rattle.setting.specs.Views.{setting_as}
use Rattle.scope.specs.Reading.{operator_at}
use Rattle.scope.specs.Judge as scope
use Rattle.scope.specs.Judge.{context_of}
use Rattle.scope.specs.Setting.{Setting}
use Rattle.scope.specs.Verdict.{every}
use Rattle.order.specs.Views.{phase_as}
use Rattle.reader.specs.Reads.{read_as}
use Rattle.state.specs.Standing.{Stands, Lent}
use Rattle.ruling.proofs.Turns.{context_is}
use Rattle.opening.proofs.opening.open_one.Goals.{After-operator_at}
use Rattle.opening.proofs.opening.open_one.Goals as goal

-- what was read is what the definition reads where it stands
read_is : (c : After-operator_at) (list₀ : List ℕ) (l : Lent) (d : scope.State) → length c.args.attrs.now ≡ 80
    → Stands (setting_as c.args.set) c.args.job.now list₀ l c.args.st d
    → operator_at (context_of every (setting_as c.args.set) d.place) c.args.job.now d.at
    ≡ read_as c.operator_at.result c.operator_at.new.attrs
read_is c list₀ l d z h =
    let a = c.args in
    let set : Setting = setting_as a.set in
    let phase = c.phase_of in
    let opened = c.opened_in in
    sym (context_is set a.job.now a.st.at d (phase_as phase.result) opened.result h.at
    (phase.ensures d.place set a.job.now l.work l.table l.patterns h.place)
    (opened.ensures d.place set a.job.now l.work l.table l.patterns h.place)) ∙ sym (c.operator_at.ensures.attrs_after z)

pub returns-in-Ok-Some : goal.returns-in-Ok-Some
returns-in-Ok-Some c = let a = c.args in
    let w = rw (c.in-Ok-Some.is, c.in-Ok-Some.field-0-is) at c.operator_at.ensures.within in
    record {
      attrs_len_unchanged = c.operator_at.ensures.attrs_len_unchanged;
      opens = λ z. c.pass.ensures a.job.now (setting_as a.set) (c.at_rest.ensures (c.if-not-at_rest.false))
          (record { long = c.operator_at.ensures.attrs_len_unchanged ∙ z; few = w.4 }) w (λ list₀ l d s. rw (c.in-Ok-Some.is, c.in-Ok-Some.field-0-is) at (read_is (goal.at.returns-in-Ok-Some c).After-operator_at list₀ l d z s));
    }
