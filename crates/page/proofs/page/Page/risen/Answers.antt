-- `Page::risen` meets its contract.
-- Assumes nothing.
use Rattle.page.proofs.Stacks.{stack-length}
use Rattle.scope.specs.Arm.{risen}
use native.Mathlib.Omega.{arith}
use Rattle.page.proofs.page.Page.risen.Goals as goal

pub returns-in-Push : goal.returns-in-Push
unfolding risen
returns-in-Push c m h = let p = c.args.self in
    let l = stack-length p.depth p.saved in
    let k = (c.higher.ensures m 1 h (omega arith)).1 (omega arith) in
    rw c.in-Push.is (omega arith)

pub returns-in-Pop : goal.returns-in-Pop
unfolding risen
returns-in-Pop c m h = rw c.in-Pop.is h

pub returns-in-Put : goal.returns-in-Put
unfolding risen
returns-in-Put c m h = rw c.in-Put.is h
