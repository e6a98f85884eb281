-- Where something stands that is not white, reading does not come to the end of the job.
-- Assumes nothing.
use Prim.Native.Nat.{ℕ, zero, suc, ◌+◌, ◌-◌, ◌<◌}
use mathlib.Core.Path.{◌≡◌, subst, subst⁻¹}
use mathlib.Core.Bool.{Bool, true}
use mathlib.Core.List.{List, [], ◌∷◌, ◌++◌}
use native.Mathlib.Omega.{arith}
use borrow.Author.Tests.{leb-true}
use lib.ListN.{length, get_or}
use lib.Dec.{leb}
use Rattle.scope.specs.Choice.{between}
use Rattle.scope.specs.Iterate.{onward}
use Rattle.scope.specs.Item.{Attribute, Pair, Scan, Walk, on_pair, ended_with, scan_item, scan_step, scan_from, scan_at, after as blackAfter}
use Rattle.scope.specs.Reading.{Context, Read, scanned, operator_at}
use Rattle.scope.specs.Runs.{next, ended}
use Rattle.scope.proofs.Ends.{pick_all, GoodPair, pair-good, after-le}
use Rattle.scope.proofs.Through.{through}
use Rattle.scope.proofs.Falls.{scan_step_lem}

module _ (high : Bool) (s : List ℕ) where
  abbrev Pending : List Attribute → Type 0
  Pending [] = ⊥
  Pending (a ∷ l) = Unit {0}

  abbrev Goes : Scan → Type 0
  Goes (Scan.tagged tag at l) = Unit {0}
  Goes Scan.ended = ⊥
  Goes (Scan.no code place) = Unit {0}

  snoc_pending : (l : List Attribute) (a : Attribute) → Pending (l ++ (a ∷ []))
  snoc_pending [] a = tt
  snoc_pending (b ∷ l) a = tt

  end-pending : (l : List Attribute) → Pending l → Goes (ended_with s l)
  unfolding ended_with
  end-pending [] h = h
  end-pending (a ∷ l) h = tt

  module _ (n : ℕ) (ih : (w : Walk) → length s - w.at < n → Pending w.attrs → Goes (scan_from high s w)) where
    pair_goes : (p : ℕ) (l : List Attribute) → length s - p < suc n → {r : Pair} → GoodPair (length s) p r → Goes (onward (scan_from high s) (on_pair s l r))
    unfolding on_pair
    pair_goes p l h (GoodPair.is {a = a} {next = q} x y) =
        let k : length s - q < n = omega arith in
        ih (record { at = q; attrs = l ++ (a ∷ []) }) k (snoc_pending l a)
    pair_goes p l h (GoodPair.no x) = tt
    pair_goes p l h GoodPair.waits = tt

    -- at a place that is not white, within the bytes or with an attribute waiting
    item-goes : (p : ℕ) (l : List Attribute) → length s - p < suc n → (leb (length s) p ≡ true → Pending l) → Goes (onward (scan_from high s) (scan_item high s l p))
    unfolding scan_item
    item-goes p l h e =
        pick_all (λ z. Goes (onward (scan_from high s) z)) (leb (length s) p) (λ t. end-pending l (e t))
        (λ _. pick_all (λ z. Goes (onward (scan_from high s) z)) (between 0x41 0xbf (get_or s p 0)) (λ _. tt) (λ _. pair_goes p l h (pair-good high s p (length l))))

  waiting : (n : ℕ) (w : Walk) → length s - w.at < n → Pending w.attrs → Goes (scan_from high s w)
  unfolding scan_step
  waiting zero w h k = absurd (omega arith)
  waiting (suc n) w h k =
      let l = after-le high s w.at in
      let m : length s - blackAfter s w.at < suc n = omega arith in
      subst⁻¹ Goes (scan_step_lem high s w) (item-goes n (waiting n) (blackAfter s w.at) w.attrs m (λ _. k))

  scan_goes : (at : ℕ) → blackAfter s at < length s → Goes (scan_at high s at)
  unfolding scan_at scan_step
  scan_goes at h =
      subst⁻¹ Goes (scan_step_lem high s (record { at = at; attrs = [] }))
      (item-goes (suc (length s)) (waiting (suc (length s))) (blackAfter s at) [] (omega arith) (λ t. absurd (omega (arith, leb-true (length s) (blackAfter s at) t))))

-- no end
abbrev GoesOn : Read → Type 0
GoesOn (Read.operator o) = Unit {0}
GoesOn Read.ended = ⊥
GoesOn (Read.no code place) = Unit {0}

scanned-goes : (c : Context) (s : List ℕ) (r : Scan) → Goes c.set.high s r → GoesOn (scanned c s r)
unfolding scanned
scanned-goes c s (Scan.tagged tag at l) h = through GoesOn (λ _ _. tt) c s tag at l (λ _ _ _ _. tt) _
scanned-goes c s Scan.ended h = h
scanned-goes c s (Scan.no code place) h = tt

pub read_goes : (c : Context) (s : List ℕ) (at : ℕ) → blackAfter s at < length s → operator_at c s at ≡ Read.ended → ⊥
unfolding operator_at
read_goes c s at h e = subst GoesOn e (scanned-goes c s (scan_at c.set.high s at) (scan_goes c.set.high s at h))
