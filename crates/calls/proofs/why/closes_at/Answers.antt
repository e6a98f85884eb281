-- `closes_at`: after t rounds the table shows who reaches the motif of row v by t calls; the first turns that reached it are kept.
-- Assumes nothing.
use Prim.Native.Nat.{suc, ◌<◌}
use mathlib.Core.Path.{◌≡◌, refl, ◌∙◌}
use native.Mathlib.Omega.{arith}
use native.Mathlib.Numerals.{add-one}
use Rattle.scope.specs.Reach.{steps, called_by}
use Rattle.motif.proofs.Rowed.{in_below}
use Rattle.calls.specs.Marks.{Shows, least, closes}
use Rattle.calls.proofs.Rounding.{steps-none, steps-round}
use Rattle.calls.proofs.Ringing.{first_more}
use Rattle.calls.proofs.why.closes_at.Goals as goal

pub loop-t-init : goal.loop-t-init
unfolding least
loop-t-init c = let a = c.args in (
  omega arith,
  omega arith,
  λ ms m w h r q.
      let b : a.v < 64 = omega (arith, in_below h.keeps.rows q, h.keeps.most) in
      (steps-none h.keeps q c.with_mark-table.result (c.with_mark-table.ensures b), refl, refl),
)

pub loop-t-preserved : goal.loop-t-preserved
loop-t-preserved c = let l = c.loop-t in
    let a = c.args in
    let f = c.first-there in
    let s = c.spread-table in (
      omega (arith, f.ensures.upper_bound),
      omega (arith, c.first-round.ensures.upper_bound),
      λ ms m w h r q.
          let b : a.i < 64 = omega (arith, in_below h.keeps.rows r, h.keeps.most) in
          let d : a.v < 64 = omega (arith, in_below h.keeps.rows q, h.keeps.most) in
          let k = l.invariant.2 ms m w h r q in
          let z : Shows ms a.n (steps (called_by ms) (suc l.t) w.name) s.result = steps-round h.keeps q h.noted l.t l.table s.result k.0 s.ensures in (
            rw add-one z,
            first_more (λ d. steps (called_by ms) d w.name m.name) l.t l.there f.result c.has_mark.result k.1 (c.has_mark.ensures b ∙ k.0.at a.i m r) f.ensures.value,
            first_more (λ d. steps (called_by ms) (suc d) w.name w.name) l.t l.round c.first-round.result c.has_mark-in-loop-t.result k.2 (c.has_mark-in-loop-t.ensures d ∙ z.at a.v w q) c.first-round.ensures.value,
          ),
    )

pub returns : goal.returns
unfolding closes
returns c = let l = c.loop-t in
    let e : l.t ≡ 32 = omega arith in
    λ ms m w h r q.
    let k = rw e at (l.invariant.2 ms m w h r q) in
    rw (k.1, k.2)
