-- A byte that is not white is the first such from there on; past a white one the first such stays.
-- Assumes nothing.
use mathlib.Core.Path.{sym, ◌∙◌}
use native.Mathlib.Omega.{arith}
use Rattle.white.proofs.Spaces.{after-white, after-black}
use Rattle.running.proofs.running.near_item.Goals as goal

pub returns-then-not-is_white : goal.returns-then-not-is_white
returns-then-not-is_white c = (sym (after-black c.args.job.now c.loop-p.p (omega arith) (sym c.is_white.ensures ∙ c.if-not-is_white.true)) ∙ c.loop-p.invariant, omega arith)

pub loop-p-preserved : goal.loop-p-preserved
loop-p-preserved c = sym (after-white c.args.job.now c.loop-p.p (omega arith) (sym c.is_white.ensures ∙ c.if-not-is_white.false)) ∙ c.loop-p.invariant
