-- White bytes put in at a place between two items: the items of an operator are read alike, those before the place where they stood, those behind it further on.
-- Assumes nothing.
use Prim.Native.Nat.{ℕ, suc, ◌+◌, ◌≤◌, ◌<◌}
use mathlib.Core.Path.{◌≡◌, refl, sym, ap, ◌∙◌, subst}
use mathlib.Core.Bool.{Bool, true, false}
use mathlib.Core.List.{List, [], ◌∷◌, ◌++◌}
use native.Mathlib.Omega.{arith}
use borrow.Author.Tests.{leb-true, leb-false, lt-leb}
use lib.ListN.{length, get_or, drop, length-drop}
use lib.Dec.{leb}
use Rattle.scope.specs.Choice.{pick, between}
use Rattle.scope.specs.Iterate.{Next, go, stop}
use Rattle.scope.specs.Item.{other, kind_of, Value, value_of, Attribute, Pair, number_at, pair_of, pair_at, Scan, Walk, ended_with, on_pair, scan_item, scan_step, scan_from, scan_at, white, spaces, after}
use Rattle.scope.specs.Reading.{Context, operator_at}
use Rattle.scope.specs.Claims.{stays, WhiteUpTo, value_at, Gap, before_item, before_number, behind_tag, behind_pair}
use Rattle.scope.proofs.Ends.{pick_all, GoodValue, value-good, GoodPair, pair-good, after-le}
use Rattle.scope.proofs.Falls.{scan_step_lem}
use Rattle.scope.proofs.Apart.{clash-of}
use Rattle.scope.proofs.Alike.{LikeAttrs, nil, snoc_like, LikeScan, LikeRead}
use Rattle.scope.proofs.AlikeRead.{scanned-like}
use Rattle.scope.proofs.Like.{number-at_like, block-like, items-like, pairs_like, read-like}
use Rattle.scope.proofs.Shift.{F, At, p, far-shifted, up-to_s, up-to_t, same-behind, white-far, white-same, byte_same, value_same, pair_same}

-- what a scan does at a place that is not white: it goes on behind a pair, stops at an operator's tag, or stops otherwise
abbrev NoTag : Scan → Type 0
NoTag (Scan.tagged tag at l) = ⊥
NoTag Scan.ended = Unit {0}
NoTag (Scan.no code place) = Unit {0}

data Item (high : Bool) (s : List ℕ) (l : List Attribute) (p : ℕ) : Next Walk Scan → Type 0 where
  a_pair : {a : Attribute} {n : ℕ} → p < length s → between 0x41 0xbf (get_or s p 0) ≡ false → pair_at high s p (length l) ≡ Pair.is a n
      → Item high s l p (go (record { at = n; attrs = l ++ (a ∷ []) }))
  a_tag : p < length s → between 0x41 0xbf (get_or s p 0) ≡ true → Item high s l p (stop (Scan.tagged (get_or s p 0) p l))
  neither : {r : Scan} → NoTag r → Item high s l p (stop r)

module _ (high : Bool) (s : List ℕ) (l : List Attribute) (p : ℕ) where
  on-pair_item : (r : Pair) → pair_at high s p (length l) ≡ r → p < length s → between 0x41 0xbf (get_or s p 0) ≡ false → Item high s l p (on_pair s l r)
  unfolding on_pair
  on-pair_item (Pair.is a n) e h k = a_pair h k e
  on-pair_item (Pair.no code place) e h k = neither tt
  on-pair_item Pair.waits e h k = neither tt

  ended-no_tag : (m : List Attribute) → NoTag (ended_with s m)
  unfolding ended_with
  ended-no_tag [] = tt
  ended-no_tag (a ∷ m) = tt

  item-at : Item high s l p (scan_item high s l p)
  unfolding scan_item
  item-at =
      pick_all (Item high s l p) (leb (length s) p) (λ _. neither (ended-no_tag l))
      (λ f. pick_all (Item high s l p) (between 0x41 0xbf (get_or s p 0)) (λ e. a_tag (leb-false (length s) p f) e)
      (λ e. on-pair_item (pair_at high s p (length l)) refl (leb-false (length s) p f) e))

-- a value's tag is no operator's
below : (b : ℕ) → between 0x41 0xbf b ≡ true → b ≤ 0xbf
below b e = by (leb 0x41 b) (leb b 0xbf) refl e
  where
    by : (x y : Bool) → leb b 0xbf ≡ y → pick x y false ≡ true → b ≤ 0xbf
    by true true f g = leb-true b 0xbf f
    by true false f g = clash-of (sym g)
    by false y f g = clash-of (sym g)

no_value : (b : ℕ) → b ≤ 0xbf → kind_of b ≡ other
unfolding kind_of
no_value b h = rw (lt-leb 0xc0 b (omega arith), lt-leb 0xc8 b (omega arith), lt-leb 0xd0 b (omega arith), lt-leb 0xe0 b (omega arith)) refl

abbrev is_value : Value → Bool
is_value (Value.is count first next) = true
is_value (Value.no code place) = false

value-tag : (high : Bool) (s : List ℕ) (at n : ℕ) {c f m : ℕ} → value_at high s at n ≡ Value.is c f m → between 0x41 0xbf (get_or s at 0) ≡ false
unfolding value_of
value-tag high s at n e = by (between 0x41 0xbf (get_or s at 0)) refl
  where
    by : (b : Bool) → between 0x41 0xbf (get_or s at 0) ≡ b → b ≡ false
    by true g = clash-of (sym (ap is_value e) ∙ ap (λ k. is_value (value_of high s at n k)) (no_value (get_or s at 0) (below (get_or s at 0) g)))
    by false g = refl

-- an item behind white space
module _ (high : Bool) (s : List ℕ) (l : List Attribute) (p : ℕ) (inside : p < length s) where
  tag-item : between 0x41 0xbf (get_or s p 0) ≡ true → scan_item high s l p ≡ stop (Scan.tagged (get_or s p 0) p l)
  unfolding scan_item
  tag-item e = rw (lt-leb (length s) p inside, e) refl

  pair-item : between 0x41 0xbf (get_or s p 0) ≡ false → (r : Pair) → pair_at high s p (length l) ≡ r → scan_item high s l p ≡ on_pair s l r
  unfolding scan_item
  pair-item e r f = rw (lt-leb (length s) p inside, e, f) refl

  value-pair : {c f m : ℕ} → value_at high s p (length l) ≡ Value.is c f m → pair_at high s p (length l) ≡ number_at high s p c f (after s m)
  unfolding pair_at pair_of
  value-pair e = ap (pair_of high s p) e

spaces-within : (l : List ℕ) → spaces l ≤ length l
unfolding spaces
spaces-within [] = omega arith
spaces-within (b ∷ l) = by (white b) (spaces-within l)
  where
    by : (c : Bool) → spaces l ≤ length l → elim c as (λ _. ℕ) [ true ↦ suc (spaces l) | false ↦ 0 ] ≤ suc (length l)
    by true h = omega arith
    by false h = omega arith

after-within : (s : List ℕ) (at : ℕ) → at ≤ length s → after s at ≤ length s
unfolding after
after-within s at h = let e = length-drop at s in let k = spaces-within (drop at s) in omega arith

-- a gap is not before where the scan stands, and within the bytes
module _ (high : Bool) (s : List ℕ) (p : ℕ) where
  value_on : (at n : ℕ) {c f m : ℕ} → value_at high s at n ≡ Value.is c f m → (at < m) × (m ≤ length s)
  value_on at n {c} {f} {m} e = by (subst (GoodValue (length s) at) e (value-good high s at n (kind_of (get_or s at 0))))
    where
      by : GoodValue (length s) at (Value.is c f m) → (at < m) × (m ≤ length s)
      by (GoodValue.is h k) = (h, k)

  pair-on : (at n : ℕ) {a : Attribute} {m : ℕ} → pair_at high s at n ≡ Pair.is a m → (at < m) × (m ≤ length s)
  pair-on at n {a} {m} e = by (subst (GoodPair (length s) at) e (pair-good high s at n))
    where
      by : GoodPair (length s) at (Pair.is a m) → (at < m) × (m ≤ length s)
      by (GoodPair.is h k) = (h, k)

  white-place : {from : ℕ} → WhiteUpTo s from p → from ≤ length s → (from ≤ p) × (p ≤ length s)
  white-place {from} h k = let a = h.behind in let b = h.before in let c = after-within s from k in (a, omega arith)

  pub gap-place : {w : Walk} → Gap high s p w → w.at ≤ length s → (w.at ≤ p) × (p ≤ length s)
  unfolding scan_step
  gap-place (before_item h) k = white-place h k
  gap-place {w} (before_number e h) k =
      let a = after-le high s w.at in let b = value_on (after s w.at) (length w.attrs) e in let c = white-place h b.1 in (omega arith, c.1)
  gap-place {w} (behind_tag {tag = tag} {at = at} {l = l} e h) k =
      let a = after-le high s w.at in
      let b = by (subst (Item high s w.attrs (after s w.at)) e (item-at high s w.attrs (after s w.at))) in
      let i = b.1 in
      let c = white-place h (omega arith) in
      (omega arith, c.1)
    where
      by : {tag at : ℕ} {l : List Attribute} → Item high s w.attrs (after s w.at) (stop (Scan.tagged tag at l)) → (at ≡ after s w.at) × (after s w.at < length s)
      by (Item.a_tag h k) = (refl, h)
      by (Item.neither k) = absurd k
  gap-place {w} (behind_pair {v = x} e g) k =
      let a = after-le high s w.at in
      let b = by (subst (Item high s w.attrs (after s w.at)) e (item-at high s w.attrs (after s w.at))) in
      let c = gap-place g b.1 in
      (omega arith, c.1)
    where
      by : {x : Walk} → Item high s w.attrs (after s w.at) (go x) → (after s w.at < x.at) × (x.at ≤ length s)
      by (Item.a_pair h k f) = pair-on (after s w.at) (length w.attrs) f

module _ (u v blank : List ℕ) (all : spaces blank ≡ length blank) (high : Bool) where
  abbrev s : List ℕ
  s = u ++ v

  abbrev t : List ℕ
  t = u ++ (blank ++ v)

  -- reading goes on alike: from a place with a gap behind it, or from where the bytes have moved
  pub data On : ℕ → ℕ → Type 0 where
    at_gap : {x : ℕ} → Gap high s (length u) (record { at = x; attrs = [] }) → On x x
    far : {x y : ℕ} → F u v blank all x y → On x y

  abbrev Attrs : List Attribute → List Attribute → Type 0
  Attrs = LikeAttrs high high s t (At u v blank all) On

  abbrev Scans : Scan → Scan → Type 0
  Scans = LikeScan high high s t (At u v blank all) On

  within-s : {x : ℕ} → x < length u → x < length s
  within-s h = let k = up-to_s u v blank all in omega arith

  within-t : {x : ℕ} → x < length u → x < length t
  within-t h = let k = up-to_t u v blank all in omega arith

  module _ (at : ℕ) {l : List Attribute} (like : Attrs l l) where
    abbrev w : Walk
    w = record { at = at; attrs = l }

    -- before an item
    white-scan : WhiteUpTo s at (length u) → Scans (scan_from high s w) (scan_from high t w)
    unfolding scan_step
    white-scan h =
        rw (scan_step_lem high s w, scan_step_lem high t w)
        (items-like s t (length u) (length u + length blank) (up-to_s u v blank all) (up-to_t u v blank all) (same-behind u v blank all) high (At u v blank all) On
        (far-shifted u v blank all) (λ a b z. far z) (white-far u v blank all h) like)

    -- between a value and its number
    number-scan : {c f m : ℕ} → value_at high s (after s at) (length l) ≡ Value.is c f m → WhiteUpTo s m (length u) → Scans (scan_from high s w) (scan_from high t w)
    unfolding scan_step
    number-scan {c} {f} {m} e h =
        let p = after s at in
        let a = after-le high s at in
        let b = value_on high s (length u) p (length l) e in
        let d = h.behind in
        let k : p < length u = omega arith in
        let g : at ≤ length u = omega arith in
        let x = value_same u v blank all high On p (length l) c f m k e d in
        let y = value-tag high s p (length l) e in
        rw (
          scan_step_lem high s w,
          scan_step_lem high t w,
          white-same u v blank all g k,
          pair-item high s l p (within-s k) y (number_at high s p c f (after s m)) (value-pair high s l p (within-s k) e),
          pair-item high t l p (within-t k) (ap (between 0x41 0xbf) (sym (byte_same u v blank all p k)) ∙ y) (number_at high t p c f (after t m)) (value-pair high t l p (within-t k) x.value),
        )
        (pairs_like s t (length u) (length u + length blank) (up-to_s u v blank all) (up-to_t u v blank all) (same-behind u v blank all) high (At u v blank all) On
        (far-shifted u v blank all) (λ a b z. far z) like
        (number-at_like s t (length u) (length u + length blank) (up-to_s u v blank all) (up-to_t u v blank all) (same-behind u v blank all) high (At u v blank all) On
        (far-shifted u v blank all) (λ a b z. far z) x.head (white-far u v blank all h)))

    -- behind an operator's tag
    tag-scan : {g q : ℕ} {m : List Attribute} → scan_step high s w ≡ stop (Scan.tagged g q m) → WhiteUpTo s (suc q) (length u) → Scans (scan_from high s w) (scan_from high t w)
    unfolding scan_step
    tag-scan e h = by (subst (Item high s l (after s at)) e (item-at high s l (after s at))) h
      where
        by : {g q : ℕ} {m : List Attribute} → Item high s l (after s at) (stop (Scan.tagged g q m)) → WhiteUpTo s (suc q) (length u) → Scans (scan_from high s w) (scan_from high t w)
        by (Item.a_tag i b) h =
            let p = after s at in
            let a = after-le high s at in
            let d = h.behind in
            let k : p < length u = omega arith in
            let g : at ≤ length u = omega arith in
            let y = byte_same u v blank all p k in
            rw (
              scan_step_lem high s w,
              scan_step_lem high t w,
              white-same u v blank all g k,
              tag-item high s l p (within-s k) b,
              tag-item high t l p (within-t k) (ap (between 0x41 0xbf) (sym y) ∙ b),
              sym y,
            )
            (LikeScan.tagged (stays k) like (at_gap (before_item h))
            (λ due. block-like s t (length u) (length u + length blank) (up-to_s u v blank all) (up-to_t u v blank all) (same-behind u v blank all) high (At u v blank all) On
            (far-shifted u v blank all) (λ a b z. far z) due (stays k) (white-far u v blank all h)))
        by (Item.neither k) h = absurd k

    -- behind a pair
    pair-scan : {x : Walk} → scan_step high s w ≡ go x → (x.at ≤ length s → x.at ≤ length u) → (Attrs x.attrs x.attrs → Scans (scan_from high s x) (scan_from high t x))
        → Scans (scan_from high s w) (scan_from high t w)
    unfolding scan_step on_pair
    pair-scan e h f = by (subst (Item high s l (after s at)) e (item-at high s l (after s at))) h f
      where
        by : {x : Walk} → Item high s l (after s at) (go x) → (x.at ≤ length s → x.at ≤ length u) → (Attrs x.attrs x.attrs → Scans (scan_from high s x) (scan_from high t x))
            → Scans (scan_from high s w) (scan_from high t w)
        by (Item.a_pair {a = b} {n = n} i c e) up f =
            let p = after s at in
            let a = after-le high s at in
            let d = pair-on high s (length u) p (length l) e in
            let h = up d.1 in
            let k : p < length u = omega arith in
            let g : at ≤ length u = omega arith in
            let y = byte_same u v blank all p k in
            let z = pair_same u v blank all high On p (length l) b n k e h in
            rw (
              scan_step_lem high s w,
              scan_step_lem high t w,
              white-same u v blank all g k,
              pair-item high s l p (within-s k) c (Pair.is b n) e,
              pair-item high t l p (within-t k) (ap (between 0x41 0xbf) (sym y) ∙ c) (Pair.is b n) z.pair,
            )
            (f (snoc_like high high s t (At u v blank all) On like z.attribute))

  -- so with a gap in whatever kind of place
  gap-scan : {w : Walk} → Gap high s (length u) w → Attrs w.attrs w.attrs → Scans (scan_from high s w) (scan_from high t w)
  gap-scan {w} (before_item h) like = white-scan w.at like h
  gap-scan {w} (before_number e h) like = number-scan w.at like e h
  gap-scan {w} (behind_tag e h) like = tag-scan w.at like e h
  gap-scan {w} (behind_pair e g) like = pair-scan w.at like e (λ k. (gap-place high s (length u) g k).0) (gap-scan g)

-- an operator is read alike from two such places on
pub gap-read : (u v blank : List ℕ) (all : spaces blank ≡ length blank) (c : Context) {x y : ℕ} → On u v blank all c.set.high x y
    → LikeRead c.set.high c.set.high (u ++ v) (u ++ (blank ++ v)) (At u v blank all) (On u v blank all c.set.high) (operator_at c (u ++ v) x) (operator_at c (u ++ (blank ++ v)) y)
unfolding operator_at scan_at
gap-read u v blank all c (at_gap g) =
    let high = c.set.high in
    scanned-like c c (record { class = refl; phase = refl; opened = refl; asked = refl }) (u ++ v) (u ++ (blank ++ v)) (At u v blank all) (On u v blank all high)
    (gap-scan u v blank all high g nil)
gap-read u v blank all c (far h) =
    read-like (u ++ v) (u ++ (blank ++ v)) (length u) (length u + length blank) (up-to_s u v blank all) (up-to_t u v blank all) (same-behind u v blank all)
    (At u v blank all) (On u v blank all c.set.high) (far-shifted u v blank all) (λ a b z. far z) c h
