-- No looking ahead, in the items up to an operator: they are the same in u and in u with v behind it, or the end of u cuts them off.
-- Assumes nothing.
use Prim.Native.Nat.{ℕ, zero, suc, ◌+◌, ◌-◌, ◌≤◌, ◌<◌}
use mathlib.Core.Path.{◌≡◌, refl, ap}
use mathlib.Core.Bool.{Bool, true}
use mathlib.Core.List.{List, [], ◌∷◌, ◌++◌}
use native.Mathlib.Omega.{arith}
use borrow.Author.Tests.{leb-false, le-leb, lt-leb}
use lib.ListN.{length, get_or}
use lib.Dec.{leb}
use Rattle.scope.specs.Choice.{between}
use Rattle.scope.specs.Number.{place}
use Rattle.scope.specs.Iterate.{Next, onward}
use Rattle.scope.specs.Item.{Attribute, Pair, Scan, Walk, ended_with, on_pair, scan_item, scan_step, scan_from, scan_at, after}
use Rattle.scope.specs.Claims.{cut_off}
use Rattle.scope.proofs.Ends.{pick_all, Kept, kept_go, kept_stop, iterate-holds, GoodPair, pair-good, after-le}
use Rattle.scope.proofs.Falls.{scan_step_lem}
use Rattle.scope.proofs.AheadItems.{pick-both, longer, byte_cut, CutPlace, within, past, after-cut, AllIn, none, all_up, all_snoc, ShortPair, BeyondPair, CutPair, pair-cut}

module _ (u v : List ℕ) where
  abbrev w : List ℕ
  w = u ++ v

  -- a scan that the end of u cuts off: the end, 5 or 27
  abbrev pub ShortScan : Scan → Type 0
  ShortScan (Scan.tagged tag p l) = ⊥
  ShortScan Scan.ended = Unit {0}
  ShortScan (Scan.no code place) = cut_off code ≡ true

  abbrev pub BeyondScan : Scan → Type 0
  BeyondScan (Scan.tagged tag p l) = (length u ≤ p) × (p < length w)
  BeyondScan Scan.ended = Unit {0}
  BeyondScan (Scan.no code place) = Unit {0}

  -- the same operator's tag in both, within u; the same refusal; or the end of u cuts it off
  pub data CutScan : Scan → Scan → Type 0 where
    both : {tag p : ℕ} {l : List Attribute} → p < length u → AllIn p l → CutScan (Scan.tagged tag p l) (Scan.tagged tag p l)
    same : {code place : ℕ} → CutScan (Scan.no code place) (Scan.no code place)
    lost : {x y : Scan} → ShortScan x → BeyondScan y → CutScan x y

  ended-short : (s : List ℕ) (l : List Attribute) → ShortScan (ended_with s l)
  unfolding ended_with
  ended-short s [] = tt
  ended-short s (a ∷ l) = refl

  ended-beyond : (l : List Attribute) → BeyondScan (ended_with w l)
  unfolding ended_with
  ended-beyond [] = tt
  ended-beyond (a ∷ l) = tt

  module _ (high : Bool) where
    abbrev Further : Walk → Type 0
    Further z = length u ≤ z.at

    pair-further : (p : ℕ) (l : List Attribute) → length u ≤ p → {r : Pair} → GoodPair (length w) p r → Kept Further BeyondScan (on_pair w l r)
    unfolding on_pair
    pair-further p l h (GoodPair.is {next = n} x y) = let z : length u ≤ n = omega arith in kept_go z
    pair-further p l h (GoodPair.no x) = kept_stop tt
    pair-further p l h GoodPair.waits = kept_stop tt

    item-further : (p : ℕ) (l : List Attribute) → length u ≤ p → Kept Further BeyondScan (scan_item high w l p)
    unfolding scan_item
    item-further p l h =
        pick_all (Kept Further BeyondScan) (leb (length w) p) (λ _. kept_stop (ended-beyond l))
        (λ f. pick_all (Kept Further BeyondScan) (between 0x41 0xbf (get_or w p 0)) (λ _. kept_stop (h, leb-false (length w) p f))
        (λ _. pair-further p l h (pair-good high w p (length l))))

    step-further : (z : Walk) → Further z → Kept Further BeyondScan (scan_step high w z)
    unfolding scan_step
    step-further z h = let x = after-le high w z.at in item-further (after w z.at) z.attrs (omega arith)

    scan_beyond : (z : Walk) → Further z → BeyondScan (scan_from high w z)
    unfolding scan_from
    scan_beyond z h = iterate-holds (scan_step high w) Scan.ended Further BeyondScan tt step-further _ z h

    item-beyond : (p : ℕ) (l : List Attribute) → length u ≤ p → BeyondScan (onward (scan_from high w) (scan_item high w l p))
    item-beyond p l h = by (item-further p l h)
      where
        by : {x : Next Walk Scan} → Kept Further BeyondScan x → BeyondScan (onward (scan_from high w) x)
        by (kept_go {t = z} k) = scan_beyond z k
        by (kept_stop k) = k

    module _ (n : ℕ) (ih : (at : ℕ) (l : List Attribute) → at ≤ length u → AllIn at l → length u - at < n
        → CutScan (scan_from high u (record { at = at; attrs = l })) (scan_from high w (record { at = at; attrs = l }))) where
      on-pair_cut : (p : ℕ) (l : List Attribute) → AllIn p l → length u - p < suc n → {x y : Pair} → GoodPair (length u) p x → CutPair u v x y
          → CutScan (onward (scan_from high u) (on_pair u l x)) (onward (scan_from high w) (on_pair w l y))
      unfolding on_pair
      on-pair_cut p l i h g (CutPair.both {a = a} {n = m} k j) = by g
        where
          by : GoodPair (length u) p (Pair.is a m)
              → CutScan (scan_from high u (record { at = m; attrs = l ++ (a ∷ []) })) (scan_from high w (record { at = m; attrs = l ++ (a ∷ []) }))
          by (GoodPair.is e f) = ih m (l ++ (a ∷ [])) k (all_snoc m (all_up p m (omega arith) i) j) (omega arith)
      on-pair_cut p l i h g CutPair.same = same
      on-pair_cut p l i h g (CutPair.lost {x = x} {y = y} a b) = lost (first x a) (second y b)
        where
          first : (x : Pair) → ShortPair u v x → ShortScan (onward (scan_from high u) (on_pair u l x))
          first (Pair.is a n) k = absurd k
          first (Pair.no code place) k = ap cut_off k
          first Pair.waits k = refl

          second : (y : Pair) → BeyondPair u v y → BeyondScan (onward (scan_from high w) (on_pair w l y))
          second (Pair.is a n) k = scan_beyond (record { at = n; attrs = l ++ (a ∷ []) }) (omega arith)
          second (Pair.no code place) k = tt
          second Pair.waits k = tt

      item-cut : (at : ℕ) (l : List Attribute) → AllIn at l → length u - at < suc n → {p r : ℕ} → at ≤ p → CutPlace u v p r
          → CutScan (onward (scan_from high u) (scan_item high u l p)) (onward (scan_from high w) (scan_item high w l r))
      unfolding scan_item
      item-cut at l i h a (within {p = p} k) =
          let y = longer u v in
          rw (lt-leb (length u) p k, lt-leb (length w) p (omega arith), byte_cut u v p k)
          (pick-both (λ x z. CutScan (onward (scan_from high u) x) (onward (scan_from high w) z)) (between 0x41 0xbf (get_or w p 0)) (λ _. both k (all_up at p a i))
          (λ _. on-pair_cut p l (all_up at p a i) (omega arith) (pair-good high u p (length l)) (pair-cut u v high p (length l) k)))
      item-cut at l i h a (past {p = p} {r = r} k m) = rw (le-leb (length u) p k) (lost (ended-short u l) (item-beyond r l m))

    all-cut : (n at : ℕ) (l : List Attribute) → at ≤ length u → AllIn at l → length u - at < n
        → CutScan (scan_from high u (record { at = at; attrs = l })) (scan_from high w (record { at = at; attrs = l }))
    unfolding scan_step
    all-cut zero at l h i k = absurd (omega arith)
    all-cut (suc n) at l h i k =
        rw (scan_step_lem high u (record { at = at; attrs = l }), scan_step_lem high w (record { at = at; attrs = l }))
        (item-cut n (all-cut n) at l i k (after-le high u at) (after-cut u v at h))

    pub scan_cut : (at : ℕ) → at ≤ length u → CutScan (scan_at high u at) (scan_at high w at)
    unfolding scan_at
    scan_cut at h = all-cut (suc (length u - at)) at [] h none (omega arith)
