-- `after::begun` meets its contract: one test after the other; a page has no patterns yet, and a name is a part of the job, so its bytes are bytes.
-- Assumes nothing.
use Prim.Native.Nat.{◌+◌, ◌≤◌}
use mathlib.Core.Path.{refl}
use native.Mathlib.Omega.{arith}
use borrow.Author.Tests.{eq-eqb, ne_eqb}
use Rattle.place.specs.Places.{none_place, resting_holds, reading_holds, drawing_holds}
use Rattle.place.proofs.Hatched.{beside-unknown, beside_same}
use Rattle.after.specs.Begins.{resting_after}
use Rattle.after.proofs.Storing.{part_bytes}
use Rattle.after.proofs.after.begun.Goals as goal

pub returns-then-tag-eq-BEGIN_PAGE : goal.returns-then-tag-eq-BEGIN_PAGE
unfolding resting_after
returns-then-tag-eq-BEGIN_PAGE c = let f : 0 ≤ 32 = omega arith in record { beside = beside-unknown c.clear.ensures.other_rows (omega arith) c.clear.ensures.patterns_unchanged c.clear.ensures.unknown; patterns_unchanged = c.clear.ensures.other_rows.same 65 (omega arith) (λ x. omega (arith, x)); begins = λ work kept ms z h k. rw (eq-eqb _ _ c.if-tag-eq-BEGIN_PAGE.true) (drawing_holds c.blank.ensures refl c.clear.ensures.row_after f none_place) }

pub returns-then-tag-eq-BEGIN_STREAM : goal.returns-then-tag-eq-BEGIN_STREAM
unfolding resting_after
returns-then-tag-eq-BEGIN_STREAM c = let m = c.name_in-name in
    let s = c.args.job.now in
    let b = c.if-tag-eq-BEGIN_STREAM.true in record {
      beside = beside_same;
      patterns_unchanged = refl;
      begins = λ work kept ms z h k.
          let u : kept.used + 0 ≤ 16384 = omega arith in
          let bytes = part_bytes s m.result.first m.result.count (λ i. omega (arith, c.shared_slice_known-1.given i)) in
          rw (ne_eqb _ _ c.if-tag-eq-BEGIN_PAGE.false, eq-eqb _ _ b)
          (reading_holds (record { within = m.ensures.count_in_bounds; same = m.ensures.s_value z })
          (record { short = (k b).0; bytes = rw (m.ensures.s_value z) at bytes }) refl refl u (k b).1);
    }

pub returns : goal.returns
unfolding resting_after
returns c = record { beside = beside_same; patterns_unchanged = refl; begins = λ work kept ms z h k. rw (ne_eqb _ _ c.if-tag-eq-BEGIN_PAGE.false, ne_eqb _ _ c.if-tag-eq-BEGIN_STREAM.false) resting_holds }
