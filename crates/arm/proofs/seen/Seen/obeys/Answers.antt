-- `Seen::obeys` meets its contract.
-- Assumes nothing.
use borrow.Author.Tests.{le-leb, lt-leb}
use native.Mathlib.Omega.{arith}
use Rattle.arm.proofs.Keeping.{code-kept}
use Rattle.arm.proofs.seen.Seen.obeys.Goals as goal

pub returns-then-not-opened : goal.returns-then-not-opened
returns-then-not-opened c w h = let a = c.args in
    rw (← code-kept a.opened a.bare a.self w h) (grind arith)

pub returns-then-self-ge25 : goal.returns-then-self-ge25
returns-then-self-ge25 c w h = let a = c.args in
    rw (← code-kept a.opened a.bare a.self w h) (grind (arith, le-leb _ _ c.if-self-ge25.true))

pub returns-then-self-2 : goal.returns-then-self-2
returns-then-self-2 c w h = let a = c.args in
    rw (← code-kept a.opened a.bare a.self w h) (grind (arith, lt-leb _ _ c.if-self-ge25.false))

pub returns-then-self-3 : goal.returns-then-self-3
returns-then-self-3 c w h = let a = c.args in
    rw (← code-kept a.opened a.bare a.self w h) (grind (arith, lt-leb _ _ c.if-self-ge25.false))

pub returns-then-bare : goal.returns-then-bare
returns-then-bare c w h = let a = c.args in
    rw (← code-kept a.opened a.bare a.self w h) (grind (arith, lt-leb _ _ c.if-self-ge25.false))

pub returns-then-self-ge1000001 : goal.returns-then-self-ge1000001
returns-then-self-ge1000001 c w h = let a = c.args in
    rw (← code-kept a.opened a.bare a.self w h) (grind (arith, lt-leb _ _ c.if-self-ge25.false, le-leb _ _ c.if-self-ge1000001.true))

pub returns : goal.returns
returns c w h = let a = c.args in
    rw (← code-kept a.opened a.bare a.self w h) (grind (arith, lt-leb _ _ c.if-self-ge25.false, lt-leb _ _ c.if-self-ge1000001.false))
