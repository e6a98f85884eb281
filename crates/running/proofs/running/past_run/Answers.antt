-- `past_run`: a run from the page of the place.
-- Assumes nothing.
use mathlib.Core.Path.{◌≡◌, subst⁻¹}
use Rattle.running.specs.Running.{in_session, Runs}
use Rattle.state.specs.declared.state.State.{State}
use Rattle.running.proofs.running.past_run.Goals as goal

pub returns : goal.returns
returns c e = let a = c.args in
    let w : a.st ≡ in_session a.opened a.kept (record { at = a.st.at; page = a.page; performed = a.st.performed; records = a.st.records }) =
    λ i. record { at = a.st.at; place = e i; performed = a.st.performed; records = a.st.records } in
    subst⁻¹ (λ (x : State). Runs a.job.now a.high a.list.now c.run_from-run.new.list x (in_session a.opened a.kept c.run_from-run.result)) w
    (c.run_from-run.ensures a.opened a.kept)
