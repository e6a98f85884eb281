-- The first place that is not white is the same from p on as from the start.
-- Assumes nothing.
use Rattle.std.proofs.Common.{sym, ◌∙◌}
use Rattle.white.proofs.Spaces.{after-white, after-black, after-end}
use Rattle.white.proofs.white.behind_white.Goals as goal

pub loop-p-preserved : goal.loop-p-preserved
loop-p-preserved c = sym (after-white c.args.s.now c.loop-p.p c.loop-p-test.true (sym c.is_white.ensures ∙ c.if-is_white.true)) ∙ c.loop-p.invariant

pub returns-else-is_white : goal.returns-else-is_white
returns-else-is_white c = sym (after-black c.args.s.now c.loop-p.p c.loop-p-test.true (sym c.is_white.ensures ∙ c.if-is_white.false)) ∙ c.loop-p.invariant

pub returns-after-loop-p : goal.returns-after-loop-p
returns-after-loop-p c = sym (after-end _ c.loop-p.p c.loop-p-test.false) ∙ c.loop-p.invariant
