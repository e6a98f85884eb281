-- `ready`: down the rows; what is left to test decides.
-- Assumes nothing.
use Rattle.std.proofs.Common.{◌<◌, ◌-◌, ◌≡◌, ℕ, true, false, refl, sym, ◌∙◌, arith, rules}
use Rattle.key.specs.Mark.{mark}
use Rattle.motif.specs.Held.{level_in, calls_in}
use Rattle.rounds.specs.Rounds.{earlier_of, ready_of}
use Rattle.rounds.proofs.Rounded.{ready_down}
use Rattle.rounds.proofs.rounds.ready.Goals.{else-has_mark-via-then-has_mark+else-not-earlier, else-has_mark-via-else-has_mark}
use Rattle.rounds.proofs.rounds.ready.Goals as goal

-- a row that is not called holds nobody up
not-called : (level t : ℕ) → earlier_of false level t ≡ true
unfolding earlier_of
not-called level t = refl

pub returns-then-not-earlier : goal.returns-then-not-earlier
returns-then-not-earlier c = let a = c.args in
    let h : c.loop-j.j - 1 < 64 = omega arith in
    let m : mark (calls_in a.motifs.now a.i) (c.loop-j.j - 1) ≡ true = sym (c.has_mark.ensures h) ∙ c.if-has_mark.true in
    sym (c.loop-j.invariant ∙ ready_down a.motifs.now a.i a.t c.loop-j.j false c.loop-j-test.true (rw m (sym c.earlier.ensures ∙ c.if-not-earlier.true)))

pub loop-j-preserved : goal.loop-j-preserved
loop-j-preserved c = let a = c.args in
    let h : c.loop-j.j - 1 < 64 = omega arith in
    elim c.else-has_mark.branch [
      | else-has_mark-via-then-has_mark+else-not-earlier w ↦
          let m : mark (calls_in a.motifs.now a.i) (c.loop-j.j - 1) ≡ true = sym (c.has_mark.ensures h) ∙ w.if-has_mark.true in
          c.loop-j.invariant ∙ ready_down a.motifs.now a.i a.t c.loop-j.j true c.loop-j-test.true (rw m (sym w.earlier.ensures ∙ w.if-not-earlier.false))
      | else-has_mark-via-else-has_mark w ↦
          let m : mark (calls_in a.motifs.now a.i) (c.loop-j.j - 1) ≡ false = sym (c.has_mark.ensures h) ∙ w.if-has_mark.false in
          c.loop-j.invariant ∙ ready_down a.motifs.now a.i a.t c.loop-j.j true c.loop-j-test.true (rw m (not-called (level_in a.motifs.now (c.loop-j.j - 1)) a.t))
    ]

pub returns : goal.returns
unfolding ready_of
returns c = search rules
