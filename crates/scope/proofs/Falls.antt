-- Every walk of the definitions falls: it is one step, and the walk from there. The numbers that `iterate` is given are never used up.
-- Assumes nothing.
use Prim.Native.Nat.{ℕ, ◌-◌, ◌≤◌, ◌<◌}
use mathlib.Core.Path.{◌≡◌}
use mathlib.Core.Bool.{Bool, true, false}
use mathlib.Core.List.{List}
use native.Mathlib.Omega.{arith}
use lib.ListN.{length, get_or}
use lib.Dec.{leb}
use Rattle.scope.specs.Choice.{between}
use Rattle.scope.specs.Iterate.{Next, go, stop, onward, unroll}
use Rattle.scope.specs.Item.{Attribute, Pair, Walk, on_pair, scan_item, scan_step, scan_from, after as blackAfter}
use Rattle.scope.specs.Reading.{Read}
use Rattle.scope.specs.Arm.{Stroke}
use Rattle.scope.specs.Motif.{Inside, phase_in, context_in, on_read as motifRead, motif_step, judged_inside}
use Rattle.scope.specs.Setting.{Setting}
use Rattle.scope.specs.Judge.{State, Case, Refusal, case_of, after, on_refusal, on_case, on_read, context_of, job_step, judged_from}
use Rattle.scope.specs.Plain.{Going, on_own, own_step, own_from, Unrolled, context_at, on_operator, on_next, unroll_step}
use Rattle.scope.proofs.Ends.{pick_all, GoodPair, pair-good, after-le, GoodRead, read-good}

-- a step that goes on takes a number below n
pub data Below {S R : Type 0} (m : S → ℕ) (n : ℕ) : Next S R → Type 0 where
  below_go : {t : S} → m t < n → Below m n (go t)
  below_stop : {r : R} → Below m n (stop r)

below-falls : {S R : Type 0} {m : S → ℕ} {n : ℕ} {t : S} → Below {R = R} m n (go t) → m t < n
below-falls (below_go h) = h

module _ (high : Bool) (s : List ℕ) where
  left : Walk → ℕ
  left w = length s - w.at

  pair-below : (at p : ℕ) (l : List Attribute) → at ≤ p → {r : Pair} → GoodPair (length s) p r → Below left (length s - at) (on_pair s l r)
  unfolding on_pair left
  pair-below at p l h (GoodPair.is {next = q} k m) = let z : length s - q < length s - at = omega arith in below_go z
  pair-below at p l h (GoodPair.no k) = below_stop
  pair-below at p l h GoodPair.waits = below_stop

  pub scan_below : (w : Walk) → Below (λ t. length s - t.at) (length s - w.at) (scan_step high s w)
  unfolding scan_step scan_item left
  scan_below w =
      let p = blackAfter s w.at in
      let h = after-le high s w.at in
      pick_all (Below left (length s - w.at)) (leb (length s) p) (λ _. below_stop)
      (λ _. pick_all (Below left (length s - w.at)) (between 0x41 0xbf (get_or s p 0)) (λ _. below_stop)
      (λ _. pair-below w.at p w.attrs h (pair-good high s p (length w.attrs))))

  pub scan_falls : (w t : Walk) → scan_step high s w ≡ go t → length s - t.at < length s - w.at
  scan_falls w t e = below-falls (rw e at (scan_below w))

  -- a scan is one step, and the scan from there
  pub scan_step_lem : (w : Walk) → scan_from high s w ≡ onward (scan_from high s) (scan_step high s w)
  unfolding scan_from
  scan_step_lem w = unroll (scan_step high s) _ _ scan_falls w

module _ (set : Setting) (s : List ℕ) where
  left_in : Inside → ℕ
  left_in w = length s - w.at

  read_below : (w : Inside) {r : Read} {may : ℕ → Bool} → GoodRead (length s) w.at may r → Below left_in (length s - w.at) (motifRead set s w r)
  unfolding motifRead left_in
  read_below w (GoodRead.operator {o = o} h k m) =
      let z : length s - o.next < length s - w.at = omega arith in
      below_go z
  read_below w GoodRead.ended = below_stop
  read_below w (GoodRead.no k) = below_stop

  pub motif-falls : (w t : Inside) → motif_step set s w ≡ go t → length s - t.at < length s - w.at
  unfolding motif_step left_in
  motif-falls w t e = below-falls (rw e at (read_below w (read-good (context_in set w) s w.at)))

  -- judging a motif is one operator, and judging from there
  pub motif-step : (w : Inside) → judged_inside set s w ≡ onward (judged_inside set s) (motif_step set s w)
  unfolding judged_inside
  motif-step w = unroll (motif_step set s) _ _ motif-falls w

module _ (given : ℕ → Bool) (set : Setting) (s : List ℕ) (room : ℕ) where
  left_of : State → ℕ
  left_of st = length s - st.at

  refusal_below : (st : State) (c : Case) (r : Refusal) → length s - c.op.next < length s - st.at
      → Below left_of (length s - st.at) (on_refusal set s st c r)
  unfolding on_refusal after left_of
  refusal_below st c Refusal.none h = below_go h
  refusal_below st c (Refusal.refused code inner) h = below_stop

  job_below : (st : State) {r : Read} {may : ℕ → Bool} → GoodRead (length s) st.at may r → Below left_of (length s - st.at) (on_read given set s room st r)
  unfolding on_read on_case case_of left_of
  job_below st (GoodRead.operator {o = o} h k m) =
      let z : length s - o.next < length s - st.at = omega arith in
      refusal_below st _ _ z
  job_below st GoodRead.ended = below_stop
  job_below st (GoodRead.no k) = below_stop

  pub job_falls : (st t : State) → job_step given set s room st ≡ go t → length s - t.at < length s - st.at
  unfolding job_step left_of
  job_falls st t e = below-falls (rw e at (job_below st (read-good (context_of given set st.place) s st.at)))

  -- judging is one operator, and judging from there
  pub judged-step : (st : State) → judged_from given set s room st ≡ onward (judged_from given set s room) (job_step given set s room st)
  unfolding judged_from
  judged-step st = unroll (job_step given set s room) _ _ job_falls st

module _ (call : List ℕ → List Stroke) (k : ℕ) (set : Setting) (s : List ℕ) where
  left_for : Going → ℕ
  left_for g = length s - g.at

  own_below : (g : Going) {r : Read} {may : ℕ → Bool} → GoodRead (length s) g.at may r → Below left_for (length s - g.at) (on_own call k set s g r)
  unfolding on_own left_for
  own_below g (GoodRead.operator {o = o} h l m) =
      let z : length s - o.next < length s - g.at = omega arith in
      below_go z
  own_below g GoodRead.ended = below_stop
  own_below g (GoodRead.no c) = below_stop

  own-falls : (g t : Going) → own_step call k set s g ≡ go t → length s - t.at < length s - g.at
  unfolding own_step left_for
  own-falls g t e = below-falls (rw e at (own_below g (read-good (record { set = set; phase = phase_in g.saved g.picture; opened = true; asked = false }) s g.at)))

  -- the plain arm's way through a motif is one operator, and the way from there
  pub own-step : (g : Going) → own_from call k set s g ≡ onward (own_from call k set s) (own_step call k set s g)
  unfolding own_from
  own-step g = unroll (own_step call k set s) _ _ own-falls g

module _ (set : Setting) (s : List ℕ) where
  left_to : Unrolled → ℕ
  left_to u = length s - u.at

  next-below : (u : Unrolled) {r : Read} {may : ℕ → Bool} → GoodRead (length s) u.at may r → Below left_to (length s - u.at) (on_next set s u r)
  unfolding on_next on_operator left_to
  next-below u (GoodRead.operator {o = o} h k m) =
      let z : length s - o.next < length s - u.at = omega arith in
      below_go z
  next-below u GoodRead.ended = below_stop
  next-below u (GoodRead.no k) = below_stop

  pub unroll-falls : (u t : Unrolled) → unroll_step set s u ≡ go t → length s - t.at < length s - u.at
  unfolding unroll_step left_to
  unroll-falls u t e = below-falls (rw e at (next-below u (read-good (context_at set u) s u.at)))
