-- `store::replace` meets its contract: three reversals, of all from the old bytes on, of the new ones and of those behind the old ones, are a replacement; where the
-- numbers say no such parts nothing is done.
-- Assumes nothing.
use Rattle.std.proofs.Common.{refl, ◌+◌, ◌≤◌, ◌<◌, length, arith}
use Rattle.std.proofs.lemmas.Bool.{lt-leb, le-leb}
use Rattle.store.specs.Replaced.{replaced}
use Rattle.store.proofs.Turning.{thrice}
use Rattle.store.proofs.replace.Goals.{then-used-start-via-then-used-start, then-used-start-via-else-used-start+then-used-start-2, then-work-used-via-then-work-used, then-work-used-via-else-work-used+then-work-used-2}
use Rattle.store.proofs.replace.Goals as goal

pub returns-then-used-start : goal.returns-then-used-start
unfolding replaced
returns-then-used-start c = let a = c.args in
    let h : a.used < a.start + a.old = elim c.then-used-start.branch [
      | then-used-start-via-then-used-start w ↦ omega (arith, w.if-used-start.true)
      | then-used-start-via-else-used-start+then-used-start-2 w ↦ omega (arith, w.if-used-start-2.true)
    ] in
    rw (lt-leb _ _ h)

pub returns-then-work-used : goal.returns-then-work-used
unfolding replaced
returns-then-work-used c = let a = c.args in
    let p : a.start + a.old ≤ a.used = omega arith in
    let h : length a.work.now < a.used + a.new = elim c.then-work-used.branch [
      | then-work-used-via-then-work-used w ↦ omega (arith, w.if-work-used.true)
      | then-work-used-via-else-work-used+then-work-used-2 w ↦ omega (arith, w.if-work-used-2.true)
    ] in
    rw (le-leb _ _ p, lt-leb _ _ h)

pub returns : goal.returns
returns c = let r₃ = c.reverse-3 in
    let r₂ = c.reverse-2 in
    let r₁ = c.reverse in
    let a = c.args in
    let p : a.start + a.old ≤ a.used = omega arith in
    let q : a.used + a.new ≤ length a.work.now = omega arith in
    thrice a.work.now a.start a.old a.used a.new p q r₁.new.part r₂.new.part r₃.new.part r₁.ensures _ refl r₂.ensures _ refl r₃.ensures
