-- `pass_line`: where nothing is done the run stands still, else it is one line more.
-- Assumes nothing.
use mathlib.Core.Path.{◌≡◌, sym, ◌∙◌}
use mathlib.Core.Bool.{true}
use native.Mathlib.Omega.{arith}
use borrow.Author.Tests.{not-false}
use Rattle.scope.proofs.Ends.{after-le}
use Rattle.running.proofs.Runs.{one_line}
use Rattle.running.proofs.running.pass_line.Goals as goal

pub returns-clause-further : goal.returns-clause-further
returns-clause-further c = let a = c.args in
    let w = after-le true a.job.now a.from.at in
    let l = c.in_ok-op.ensures.lined in
    (omega arith, omega arith)

pub returns-clause-runs : goal.returns-clause-runs
returns-clause-runs c = let a = c.args in
    let w = after-le true a.job.now a.from.at in
    let l = c.in_ok-op.ensures.lined in
    let f : c.list_one.result ≡ true = c.if-not-list_one.false in
    λ opened kept.
    record {
      long = omega arith;
      on = omega arith;
      within = λ h. omega arith;
      counted = omega arith;
      leads = λ list₀ table patterns work set d order e h.
          one_line a.job.now list₀ table patterns work a.list.now c.list_one.new.list set opened kept a.from a.at c.in_ok-op.op c.requires.0 (rw (sym order) at l) (omega arith)
          (not-false _ c.if-not-from.false) e (sym f ∙ c.list_one.ensures.value) (rw f at c.list_one.ensures.list_after) d h;
    }
