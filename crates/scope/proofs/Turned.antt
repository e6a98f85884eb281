-- A job in the other byte order: where each item of one job stands in another at the same place, its numbers in that one's byte order, both are read alike.
-- Assumes nothing.
use Prim.Native.Nat.{ℕ, zero, suc, ◌+◌, ◌-◌, ◌≤◌, ◌<◌}
use mathlib.Core.Path.{◌≡◌, refl, sym, ap, ◌∙◌, subst, subst₂}
use mathlib.Core.Bool.{Bool, true, false}
use mathlib.Core.List.{List, []}
use native.Mathlib.Omega.{arith}
use borrow.Author.Tests.{leb-true, leb-false, eqb-true}
use lib.ListN.{length, get_or, take, drop, drop_of_length-le}
use lib.Seq.{drop-cons}
use lib.Dec.{leb, eqb}
use Rattle.scope.specs.Choice.{pick, between}
use Rattle.scope.specs.Number.{number}
use Rattle.scope.specs.Iterate.{stop}
use Rattle.scope.specs.Item.{Kind, plain, array, other, kind_of, Value, value_of, Attribute, Pair, numbered, number_at, pair_of, pair_at, Scan, Walk, ended_with, on_pair, scan_item, scan_step, scan_from, scan_at, white, spaces, after}
use Rattle.scope.specs.Data.{Found, block_of, block_at}
use Rattle.scope.specs.Claims.{value_at, leads, is_number, is_data, led_by, ItemFrom, behind_white, behind_tag, behind_value, behind_number, behind_data, SameItem}
use Rattle.scope.proofs.Apart.{clash-of}
use Rattle.scope.proofs.Alike.{pick-like, LikeAttr, LikeAttrs, nil, cons, snoc_like, attrs-length, LikeFound, LikeScan}
use Rattle.scope.proofs.Like.{LikeNext, on, at_end, iterate-like}

abbrev is_value : Value → Bool
is_value (Value.is count first next) = true
is_value (Value.no code place) = false

module _ (h k : Bool) (s t : List ℕ) (start : ℕ) (long : length s ≡ length t) (turned : (at : ℕ) → ItemFrom h s start at → SameItem h k s t at) where
  abbrev I : ℕ → Type 0
  I = ItemFrom h s start

  pub data On : ℕ → ℕ → Type 0 where
    item : {x : ℕ} → I x → On x x

  abbrev At : ℕ → ℕ → Type 0
  At x y = x ≡ y

  -- white space
  module _ (n : ℕ) (ih : (at : ℕ) → length s - at < n → I at → (after s at ≡ after t at) × I (after s at)) where
    white-step : (at : ℕ) → length s - at < suc n → at < length s → I at → (after s at ≡ after t at) × I (after s at)
    unfolding after spaces
    white-step at l m i =
        let b = (turned at i).tag in
        let mt : at < length t = omega arith in
        rw (drop-cons s at 0 m, drop-cons t at 0 mt, sym b) (by (white (get_or s at 0)) refl)
      where
        by : (c : Bool) → white (get_or s at 0) ≡ c
            → (at + elim c as (λ _. ℕ) [ true ↦ suc (spaces (drop (suc at) s)) | false ↦ 0 ] ≡ at + elim c as (λ _. ℕ) [ true ↦ suc (spaces (drop (suc at) t)) | false ↦ 0 ])
            × I (at + elim c as (λ _. ℕ) [ true ↦ suc (spaces (drop (suc at) s)) | false ↦ 0 ])
        by true e =
            let r = ih (suc at) (omega arith) (behind_white i e) in
            let x = r.0 in
            let z : suc at + spaces (drop (suc at) s) ≡ at + suc (spaces (drop (suc at) s)) = omega arith in
            (omega arith, subst I z r.1)
        by false e = let z : at ≡ at + 0 = omega arith in (refl, subst I z i)

  white-end : (at : ℕ) → length s ≤ at → I at → (after s at ≡ after t at) × I (after s at)
  unfolding after spaces
  white-end at x i =
      let y : length t ≤ at = omega arith in
      let z : at ≡ at + 0 = omega arith in
      rw (drop_of_length-le s {i = at} x, drop_of_length-le t {i = at} y) (refl, subst I z i)

  white-all : (n at : ℕ) → length s - at < n → I at → (after s at ≡ after t at) × I (after s at)
  white-all zero at l i = absurd (omega arith)
  white-all (suc n) at l i = by (leb (length s) at) refl (white-step n (white-all n) at l)
    where
      by : (c : Bool) → leb (length s) at ≡ c → (at < length s → I at → (after s at ≡ after t at) × I (after s at)) → (after s at ≡ after t at) × I (after s at)
      by true e f = white-end at (leb-true (length s) at e) i
      by false e f = f (leb-false (length s) at e) i

  white-both : (at : ℕ) → I at → (after s at ≡ after t at) × I (after s at)
  white-both at i = white-all (suc (length s - at)) at (omega arith) i

  -- values, after any number of pairs
  value-kinds : (at n : ℕ) (K : Kind) → value_of h s at 0 K ≡ value_of k t at 0 K → value_of h s at n K ≡ value_of k t at n K
  unfolding value_of
  value-kinds at n (plain c w) e = ap (pick (leb 16 n) (Value.no 7 at)) e
  value-kinds at n (array w) e = ap (pick (leb 16 n) (Value.no 7 at)) e
  value-kinds at n other e = refl

  pick-value : (at : ℕ) (b : Bool) (x : Value) {c f m : ℕ} → pick b (Value.no 7 at) x ≡ Value.is c f m → x ≡ Value.is c f m
  pick-value at true x e = clash-of (sym (ap is_value e))
  pick-value at false x e = e

  value-first : (at n : ℕ) (K : Kind) {c f m : ℕ} → value_of h s at n K ≡ Value.is c f m → value_of h s at 0 K ≡ Value.is c f m
  unfolding value_of
  value-first at n (plain c w) e = pick-value at (leb 16 n) _ e
  value-first at n (array w) e = pick-value at (leb 16 n) _ e
  value-first at n other e = e

  value-both : (at n : ℕ) → I at → value_at h s at n ≡ value_at k t at n
  value-both at n i =
      let x = turned at i in
      let b = x.tag in
      value-kinds at n (kind_of (get_or s at 0)) (x.extent ∙ ap (λ z. value_of k t at 0 (kind_of z)) (sym b)) ∙ ap (λ z. value_of k t at n (kind_of z)) b

  abbrev Attr : Attribute → Attribute → Type 0
  Attr = LikeAttr h k s t At On

  abbrev Attrs : List Attribute → List Attribute → Type 0
  Attrs = LikeAttrs h k s t At On

  abbrev Scans : Scan → Scan → Type 0
  Scans = LikeScan h k s t At On

  data BothPair : Pair → Pair → Type 0 where
    is : {a b : Attribute} {n m : ℕ} → Attr a b → On n m → BothPair (Pair.is a n) (Pair.is b m)
    no : {code x y : ℕ} → x ≡ y → BothPair (Pair.no code x) (Pair.no code y)
    waits : BothPair Pair.waits Pair.waits

  le_both : (x : ℕ) → leb x (length s) ≡ leb x (length t)
  le_both x = ap (leb x) long

  ge_both : (x : ℕ) → leb (length s) x ≡ leb (length t) x
  ge_both x = ap (λ n. leb n x) long

  -- the number of w bytes behind a tag that leads one
  led-both : (at w : ℕ) → I at → leads (get_or s at 0) ≡ w → number h w s (at + 1) ≡ number k w t (at + 1)
  led-both at w i e =
      let x = turned at i in
      ap (λ n. number h n s (at + 1)) (sym e) ∙ x.led ∙ ap (λ n. number k n t (at + 1)) (ap leads (sym x.tag) ∙ e)

  module _ (at c f m : ℕ) (i : I at) (e : value_at h s at 0 ≡ Value.is c f m) where
    numbered-both : (r w : ℕ) → I r → is_number (get_or s r 0) ≡ true → leads (get_or s r 0) ≡ w → BothPair (numbered h s at c f r w) (numbered k t at c f r w)
    unfolding numbered
    numbered-both r w j g l =
        let x = turned at i in
        let z : I (r + 1 + w) = subst (λ n. I (r + 1 + n)) l (behind_number j g) in
        pick-like BothPair (leb (r + 1 + w) (length s)) (leb (r + 1 + w) (length t)) (le_both (r + 1 + w))
        (BothPair.is (record { number = led-both r w j l; tag = x.tag; at = refl; count = refl; first = refl; value = x.numbers c f m e; row = x.row c f m e }) (item z)) (BothPair.no refl)

    number-both : (r : ℕ) → I r → BothPair (number_at h s at c f r) (number_at k t at c f r)
    unfolding number_at
    number-both r j =
        let b = (turned r j).tag in
        pick-like BothPair (leb (length s) r) (leb (length t) r) (ge_both r) BothPair.waits
        (rw (sym b) (by (eqb (get_or s r 0) 0xf8) (eqb (get_or s r 0) 0xf9) refl refl))
      where
        by : (x y : Bool) → eqb (get_or s r 0) 0xf8 ≡ x → eqb (get_or s r 0) 0xf9 ≡ y
            → BothPair (pick x (numbered h s at c f r 1) (pick y (numbered h s at c f r 2) (Pair.no 6 r))) (pick x (numbered k t at c f r 1) (pick y (numbered k t at c f r 2) (Pair.no 6 r)))
        by true y u v = let z = eqb-true (get_or s r 0) 0xf8 u in numbered-both r 1 j (ap is_number z) (ap leads z)
        by false true u v = let z = eqb-true (get_or s r 0) 0xf9 v in numbered-both r 2 j (ap is_number z) (ap leads z)
        by false false u v = BothPair.no refl

  pair-of_both : (at n : ℕ) → I at → (v : Value) → value_at h s at n ≡ v → BothPair (pair_of h s at v) (pair_of k t at v)
  unfolding pair_of
  pair-of_both at n i (Value.is c f m) e =
      let z = value-first at n (kind_of (get_or s at 0)) e in
      let w = white-both m (behind_value i z) in
      rw (sym w.0) (number-both at c f m i z (after s m) w.1)
  pair-of_both at n i (Value.no code place) e = BothPair.no refl

  pair-both : (at n m : ℕ) → n ≡ m → I at → BothPair (pair_at h s at n) (pair_at k t at m)
  unfolding pair_at
  pair-both at n m e i = rw (sym e, sym (value-both at n i)) (pair-of_both at n i (value_at h s at n) refl)

  -- data
  module _ (op due : ℕ) where
    abbrev Founds : Found → Found → Type 0
    Founds = LikeFound h k s t At On due

    block-of_both : (r w : ℕ) → I r → is_data (get_or s r 0) ≡ true → leads (get_or s r 0) ≡ w → Founds (block_of h s op due r w) (block_of k t op due r w)
    unfolding block_of
    block-of_both r w j g l =
        pick-like Founds (leb (r + 1 + w) (length s)) (leb (r + 1 + w) (length t)) (le_both (r + 1 + w))
        (rw (sym (led-both r w j l)) (by (eqb (number h w s (r + 1)) due) refl)) (LikeFound.no refl)
      where
        by : (b : Bool) → eqb (number h w s (r + 1)) due ≡ b
            → Founds (pick b (pick (leb (r + 1 + w + due) (length s)) (Found.at (r + 1 + w)) (Found.no 5 r)) (Found.no 18 op))
            (pick b (pick (leb (r + 1 + w + due) (length t)) (Found.at (r + 1 + w)) (Found.no 5 r)) (Found.no 18 op))
        by true u =
            let x = turned r j in
            let d : led_by h s r ≡ due = ap (λ n. number h n s (r + 1)) l ∙ eqb-true (number h w s (r + 1)) due u in
            let z : I (r + 1 + w + due) = subst₂ (λ n m. I (r + 1 + n + m)) l d (behind_data j g) in
            let y : take due (drop (r + 1 + w) s) ≡ take due (drop (r + 1 + w) t) = subst₂ (λ n m. take m (drop (r + 1 + n) s) ≡ take m (drop (r + 1 + n) t)) l d (x.block g) in
            pick-like Founds (leb (r + 1 + w + due) (length s)) (leb (r + 1 + w + due) (length t)) (le_both (r + 1 + w + due)) (LikeFound.found refl (item z) y) (LikeFound.no refl)
        by false u = LikeFound.no refl

    block-both : (r : ℕ) → I r → Founds (block_at h s op due r) (block_at k t op due r)
    unfolding block_at
    block-both r j =
        let b = (turned r j).tag in
        pick-like Founds (leb (length s) r) (leb (length t) r) (ge_both r) (LikeFound.no long)
        (rw (sym b) (by (eqb (get_or s r 0) 0xfa) (eqb (get_or s r 0) 0xfb) refl refl))
      where
        by : (x y : Bool) → eqb (get_or s r 0) 0xfa ≡ x → eqb (get_or s r 0) 0xfb ≡ y
            → Founds (pick x (block_of h s op due r 4) (pick y (block_of h s op due r 1) (Found.no 18 op))) (pick x (block_of k t op due r 4) (pick y (block_of k t op due r 1) (Found.no 18 op)))
        by true y u v = let z = eqb-true (get_or s r 0) 0xfa u in block-of_both r 4 j (ap is_data z) (ap leads z)
        by false true u v = let z = eqb-true (get_or s r 0) 0xfb v in block-of_both r 1 j (ap is_data z) (ap leads z)
        by false false u v = LikeFound.no refl

  -- the items up to a tag
  data BothWalk : Walk → Walk → Type 0 where
    both_walk : {a b : ℕ} {l m : List Attribute} → On a b → Attrs l m → BothWalk (record { at = a; attrs = l }) (record { at = b; attrs = m })

  on-pair_both : {l m : List Attribute} → Attrs l m → {v w : Pair} → BothPair v w → LikeNext BothWalk Scans (on_pair s l v) (on_pair t m w)
  unfolding on_pair
  on-pair_both y (BothPair.is a n) = on (both_walk n (snoc_like h k s t At On y a))
  on-pair_both y (BothPair.no x) = at_end (LikeScan.no x)
  on-pair_both y BothPair.waits = at_end (LikeScan.no long)

  ended-both : {l m : List Attribute} → Attrs l m → Scans (ended_with s l) (ended_with t m)
  unfolding ended_with
  ended-both nil = LikeScan.ended
  ended-both (cons x y) = LikeScan.no long

  tag-both : (r : ℕ) {l m : List Attribute} → I r → between 0x41 0xbf (get_or s r 0) ≡ true → Attrs l m → Scans (Scan.tagged (get_or s r 0) r l) (Scan.tagged (get_or s r 0) r m)
  tag-both r i e y =
      let z : I (suc r) = behind_tag i e in
      let w = white-both (suc r) z in
      LikeScan.tagged refl y (item z) (λ due. subst (λ n. LikeFound h k s t At On due (block_at h s r due (after s (suc r))) (block_at k t r due n)) w.0 (block-both r due (after s (suc r)) w.1))

  item-both : (r : ℕ) {l m : List Attribute} → I r → Attrs l m → LikeNext BothWalk Scans (scan_item h s l r) (scan_item k t m r)
  unfolding scan_item
  item-both r {l} {m} i y =
      let Q = LikeNext BothWalk Scans in
      let b = (turned r i).tag in
      pick-like Q (leb (length s) r) (leb (length t) r) (ge_both r) (at_end (ended-both y)) (rw (sym b) (by (between 0x41 0xbf (get_or s r 0)) refl))
    where
      by : (c : Bool) → between 0x41 0xbf (get_or s r 0) ≡ c
          → LikeNext BothWalk Scans (pick c (stop (Scan.tagged (get_or s r 0) r l)) (on_pair s l (pair_at h s r (length l)))) (pick c (stop (Scan.tagged (get_or s r 0) r m)) (on_pair t m (pair_at k t r (length m))))
      by true e = at_end (tag-both r i e y)
      by false e = on-pair_both y (pair-both r (length l) (length m) (attrs-length h k s t At On y) i)

  step_both : (x y : Walk) → BothWalk x y → LikeNext BothWalk Scans (scan_step h s x) (scan_step k t y)
  unfolding scan_step
  step_both x y (both_walk {a = a} {l = l} {m = m} (item i) z) =
      let w = white-both a i in
      subst (λ n. LikeNext BothWalk Scans (scan_item h s l (after s a)) (scan_item k t m n)) w.0 (item-both (after s a) w.1 z)

  pub scan_both : {x y : ℕ} → On x y → Scans (scan_at h s x) (scan_at k t y)
  unfolding scan_at scan_from
  scan_both (item {x = x} i) =
      iterate-like (scan_step h s) (scan_step k t) Scan.ended BothWalk Scans LikeScan.ended step_both (λ w. length s - w.at) (λ w. length t - w.at)
      (record { at = x; attrs = [] }) (record { at = x; attrs = [] }) (ap (λ n. n - x) long) (both_walk (item i) nil)
