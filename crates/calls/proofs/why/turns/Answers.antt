-- `turns`: no motif of the rows before v closes a ring.
-- Assumes nothing.
use Prim.Native.Nat.{◌<◌}
use mathlib.Core.Path.{◌≡◌, sym, ◌∙◌}
use native.Mathlib.Omega.{arith}
use Rattle.motif.proofs.Rowed.{row-held}
use Rattle.calls.proofs.Ringing.{closes-again, none_more, none-again}
use Rattle.calls.proofs.why.turns.Goals as goal

pub returns-then-closes_at : goal.returns-then-closes_at
returns-then-closes_at c = let l = c.loop-v in
    λ ms m h r.
    let b : l.v < c.args.n = c.loop-v-test.true in
    let w = row-held h.keeps.rows l.v b in
    sym (closes-again ms w.0.name m.name (sym (c.closes_at.ensures ms m w.0 h r w.1) ∙ c.if-closes_at.true))

pub loop-v-preserved : goal.loop-v-preserved
loop-v-preserved c = let l = c.loop-v in
    λ ms m h r. none_more m.name l.v (l.invariant ms m h r) (λ w q. sym (c.closes_at.ensures ms m w h r q) ∙ c.if-closes_at.false)

pub returns : goal.returns
returns c = let l = c.loop-v in
    let e : l.v ≡ c.args.n = omega arith in
    λ ms m h r. sym (none-again m.name h.keeps (rw e at (l.invariant ms m h r)))
