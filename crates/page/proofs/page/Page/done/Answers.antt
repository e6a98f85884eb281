-- `done`: PushGS and PopGS by their own answers, which are not refused where no more than 24 are saved then.
-- Assumes nothing.
use Rattle.page.proofs.Stacks.{stack-length}
use Rattle.page.proofs.Saves.{pushed_done, popped_done}
use Rattle.scope.specs.Arm.{risen}
use native.Mathlib.Omega.{arith}
use Rattle.page.proofs.page.Page.done.Goals as goal

pub returns-in-Push : goal.returns-in-Push
returns-in-Push c = let p = c.args.self in
    rw (c.in-Push.is, c.unwrap_or.ensures)
    (λ h. pushed_done p c.push.result c.push.ensures (unfold risen in let l = stack-length p.depth p.saved in omega arith))

pub returns-in-Pop : goal.returns-in-Pop
returns-in-Pop c = rw (c.in-Pop.is, c.unwrap_or-in-Pop.ensures) (λ h. popped_done c.args.self c.pop.result c.pop.ensures)
