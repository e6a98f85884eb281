-- `marks`: the marks below i are made.
-- Assumes nothing.
use Rattle.std.proofs.Common.{◌<◌, ◌≡◌, true, sym, ◌∙◌, arith}
use Rattle.calls.proofs.Marking.{adds_more, adds-no}
use Rattle.calls.proofs.why.marks.Goals as goal
use Rattle.calls.proofs.why.marks.Goals.{then-test, else-test}

pub loop-i-preserved : goal.loop-i-preserved
loop-i-preserved g c = λ f h.
    let a = c.args in
    let l = c.loop-i in
    let b : l.i < a.n = omega arith in
    let d : l.i < 64 = omega (arith, c.requires.n_bound) in
    let e = h l.i c.test.result b c.test.ensures in
    elim c.if-test.branch [
      | then-test w ↦ rw w.out-is (adds_more a.own f l.i l.out w.with_mark-out.result true (sym w.if-test.true ∙ e) (l.invariant f h) (w.with_mark-out.ensures d))
      | else-test w ↦ rw w.out-is (adds-no a.own f l.i l.out (sym e ∙ w.if-test.false) (l.invariant f h))
    ]

pub returns : goal.returns
returns g c = λ f h. let e : c.loop-i.i ≡ c.args.n = omega arith in rw e at (c.loop-i.invariant f h)
