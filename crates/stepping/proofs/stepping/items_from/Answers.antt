-- `items_from`: what opens the job leads where the definition comes to from its start; there the job is over, or it goes on with the tables.
-- Assumes nothing.
use Prim.Native.Nat.{◌*◌, ◌≤◌}
use mathlib.Core.Path.{refl, sym, ◌∙◌}
use native.Mathlib.Omega.{arith}
use lib.ListN.{length}
use Rattle.setting.specs.Views.{setting_as}
use Rattle.scope.specs.Setting.{Setting}
use Rattle.scope.specs.Judge as scope
use Rattle.scope.specs.Judge.{judged_from}
use Rattle.scope.specs.Verdict.{every, zeros}
use Rattle.state.specs.Standing.{Lent}
use Rattle.running.specs.Running.{Reaches}
use Rattle.ruling.proofs.Turns.{turned-stop}
use Rattle.advancing.proofs.Ending.{steps-end}
use Rattle.stepping.proofs.Starting.{stands-first, none_first}
use Rattle.stepping.proofs.stepping.items_from.Goals.{After-open_on-st}
use Rattle.stepping.proofs.stepping.items_from.Goals as goal

-- the bounds hold still past it
past : (c : After-open_on-st)
    → let r = c.open_on-st.result in
    (r.at ≤ length c.args.job.now) × (r.records ≤ r.at * 17)
past c =
    let w = c.open_on-st.ensures.within in
    (omega (arith, c.requires.2, w), c.open_on-st.ensures.counted (omega arith))

-- and the definition goes as far
reached : (c : After-open_on-st)
    → let a = c.args in
    Reaches a.job.now a.list.now (zeros 704) (zeros 4487) a.work.now c.open_on-st.new.list (setting_as a.set) c.open_on-st.result (scope.starting a.next)
reached c =
    let a = c.args in
    c.open_on-st.ensures.leads a.list.now (zeros 704) (zeros 4487) a.work.now (scope.starting a.next) none_first refl
    (stands-first (setting_as a.set) a.job.now a.list.now a.work.now a.next)

pub returns-then-is_over : goal.returns-then-is_over
returns-then-is_over c = let a = c.args in
    let set : Setting = setting_as a.set in
    let g = reached (goal.at.returns-then-is_over c).After-open_on-st in
    let d = g.there in
    let h = g.stands in
    let p = past (goal.at.returns-then-is_over c).After-open_on-st in
    let l : Lent = record { table = zeros 704; patterns = zeros 4487; work = a.work.now; list = c.open_on-st.new.list } in record {
      lasts = record { work_long = refl; list_long = c.open_on-st.ensures.long; rest = refl };
      judged_to = turned-stop a.job.now a.list.now set (judged_from every set a.job.now (length a.list.now) (scope.starting a.next)) l c.stop.result d g.judged
          (steps-end set d c.stop.result _ (omega (arith, c.is_over.ensures c.if-is_over.true, h.at)) h.listed
          (c.end_code.ensures d.place _ _ _ _ _ h.place)
          (c.stop.ensures d (omega (arith, c.requires)) (omega (arith, c.requires, p)) h.records h.performed));
    }

pub with_tables-requires : goal.with_tables-requires
with_tables-requires c = let p = past (goal.at.with_tables-requires c).After-open_on-st in
    (c.requires.0, c.requires.1, p.0, p.1)

pub returns : goal.returns
returns c = let a = c.args in
    let g = reached (goal.at.returns c).After-open_on-st in
    let j = c.with_tables.ensures.judged_to g.there a.list.now (sym c.open_on-st.ensures.long) g.stands in record { lasts = record { work_long = c.with_tables.ensures.lasts.work_long; list_long = c.with_tables.ensures.lasts.list_long ∙ c.open_on-st.ensures.long; rest = c.with_tables.ensures.lasts.rest }; judged_to = rw g.judged at j }
