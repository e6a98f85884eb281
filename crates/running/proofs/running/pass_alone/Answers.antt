-- `pass_alone`: where nothing is done the run stands still, else it is one operator more.
-- Assumes nothing.
use mathlib.Core.Path.{◌≡◌, refl, sym, ◌∙◌}
use mathlib.Core.Bool.{true}
use native.Mathlib.Omega.{arith}
use Rattle.scope.proofs.Ends.{after-le}
use Rattle.running.proofs.Runs.{one-alone}
use Rattle.running.proofs.running.pass_alone.Goals as goal

pub returns-clause-further : goal.returns-clause-further
returns-clause-further c = let a = c.args in
    let w = after-le true a.job.now a.from.at in
    (omega arith, omega arith)

pub returns-clause-runs : goal.returns-clause-runs
returns-clause-runs c = let a = c.args in
    let w = after-le true a.job.now a.from.at in
    let f : c.list_alone.result ≡ true = c.if-not-list_alone.false in
    λ high opened kept.
    record {
      long = omega arith;
      on = omega arith;
      within = λ h. omega arith;
      counted = omega arith;
      leads = λ list₀ table patterns work set d order e h.
          one-alone a.job.now list₀ table patterns work a.list.now c.list_alone.new.list set opened kept a.from a.at c.in-Some.page _ c.requires.0 (omega arith) refl (omega arith) e
          (sym f ∙ c.list_alone.ensures.value) (rw f at c.list_alone.ensures.list_after) c.in-Some.ensures d h;
    }
