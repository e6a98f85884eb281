-- A job and the same job with white bytes put in behind its first bytes u: what is read within u is the same in both, and white space that comes up to the end of u
-- goes on in both up to the same item.
-- Assumes nothing.
use Prim.Native.Nat.{ℕ, zero, suc, ◌+◌, ◌-◌, ◌*◌, ◌≤◌, ◌<◌}
use mathlib.Core.Path.{◌≡◌, refl, sym, ap, ◌∙◌, subst}
use mathlib.Core.Bool.{Bool, true, false}
use mathlib.Core.List.{List, [], ◌∷◌, ◌++◌, append_assoc}
use native.Mathlib.Omega.{arith}
use lib.ListN.{length, get_or, take, drop, length-append, length-drop}
use lib.Seq.{drop_at, drop-append-le}
use lib.Dec.{leb, eqb}
use Rattle.scope.specs.Number.{number}
use Rattle.scope.specs.Item.{Kind, plain, kind_of, Value, value_of, Attribute, Pair, numbered, number_at, pair_of, pair_at, white, spaces, after}
use Rattle.scope.specs.Claims.{Shifted, stays, moves, WhiteUpTo, value_at}
use Rattle.scope.proofs.Ends.{pick_all}
use Rattle.scope.proofs.AheadItems.{byte_cut, number_cut, CutPlace, within, past, after-cut, Inside, CutValue, value-cut, kind-wide, CutPair, pair-cut}
use Rattle.scope.proofs.AheadRead.{stretch_cut}
use Rattle.scope.proofs.Alike.{LikeHead, LikeAttr}
use Rattle.scope.proofs.Like.{Far}
use Rattle.scope.proofs.White.{spaces-all}

-- number i of so many
part-within : (i n w : ℕ) → i < n → i * w + w ≤ n * w
part-within zero zero w h = absurd (omega arith)
part-within zero (suc n) w h = omega arith
part-within (suc i) zero w h = absurd (omega arith)
part-within (suc i) (suc n) w h = let k = part-within i n w (omega arith) in omega arith

-- a list that is white at least as far as its first part: that part is all white
pub spaces-part : (x y : List ℕ) → length x ≤ spaces (x ++ y) → spaces x ≡ length x
unfolding spaces
spaces-part [] y h = refl
spaces-part (b ∷ x) y h = by (white b) h (spaces-part x y)
  where
    by : (c : Bool) → suc (length x) ≤ elim c as (λ _. ℕ) [ true ↦ suc (spaces (x ++ y)) | false ↦ 0 ] → (length x ≤ spaces (x ++ y) → spaces x ≡ length x)
        → elim c as (λ _. ℕ) [ true ↦ suc (spaces x) | false ↦ 0 ] ≡ suc (length x)
    by true f k = ap suc (k (omega arith))
    by false f k = absurd (omega arith)

-- an attribute stands where its value's tag does
abbrev pub PairAt : ℕ → Pair → Type 0
PairAt at (Pair.is a n) = a.at ≡ at
PairAt at (Pair.no code place) = Unit {0}
PairAt at Pair.waits = Unit {0}

module _ (high : Bool) (s : List ℕ) (at : ℕ) where
  numbered-at : (c f p w : ℕ) → PairAt at (numbered high s at c f p w)
  unfolding numbered
  numbered-at c f p w = pick_all (PairAt at) (leb (p + 1 + w) (length s)) (λ _. refl) (λ _. tt)

  number-at : (c f p : ℕ) → PairAt at (number_at high s at c f p)
  unfolding number_at
  number-at c f p =
      pick_all (PairAt at) (leb (length s) p) (λ _. tt)
      (λ _. pick_all (PairAt at) (eqb (get_or s p 0) 0xf8) (λ _. numbered-at c f p 1)
      (λ _. pick_all (PairAt at) (eqb (get_or s p 0) 0xf9) (λ _. numbered-at c f p 2) (λ _. tt)))

  pair-of_at : (v : Value) → PairAt at (pair_of high s at v)
  unfolding pair_of
  pair-of_at (Value.is c f n) = number-at c f (after s n)
  pair-of_at (Value.no code place) = tt

  pub pair-at : (n : ℕ) → PairAt at (pair_at high s at n)
  unfolding pair_at
  pair-at n = pair-of_at (value_of high s at n (kind_of (get_or s at 0)))

module _ (u v blank : List ℕ) (all : spaces blank ≡ length blank) where
  abbrev pub s : List ℕ
  s = u ++ v

  abbrev pub t : List ℕ
  t = u ++ (blank ++ v)

  abbrev pub p : ℕ
  p = length u

  abbrev pub q : ℕ
  q = length u + length blank

  pub up-to_s : p ≤ length s
  up-to_s = let e = length-append u v in omega arith

  pub up-to_t : q ≤ length t
  up-to_t = let e = length-append u (blank ++ v) in let f = length-append blank v in omega arith

  pub same-behind : drop p s ≡ drop q t
  same-behind =
      drop_at u v p refl
      ∙ sym (ap (drop q) (sym (append_assoc u blank v)) ∙ drop_at (u ++ blank) v q (length-append u blank))

  abbrev pub F : ℕ → ℕ → Type 0
  F = Far s t p q up-to_s up-to_t same-behind

  abbrev pub At : ℕ → ℕ → Type 0
  At = Shifted p (length blank)

  pub far-shifted : (a b : ℕ) → F a b → At a b
  far-shifted a b h =
      let x = h.past in let y = h.far in
      let e : a + length blank ≡ b = omega arith in
      subst (At a) e (moves x)

  -- white space up to the end of u
  pub white-far : {from : ℕ} → WhiteUpTo s from p → F (after s from) (after t from)
  unfolding after
  white-far {from} h =
      let x = drop from u in
      let b = h.behind in
      let c = h.before in
      let lx = length-drop from u in
      let es = ap spaces (drop-append-le from u v b) in
      let et = ap spaces (drop-append-le from u (blank ++ v) b) in
      let wx : spaces x ≡ length x = spaces-part x v (omega arith) in
      let fs = spaces-all x v wx in
      let ft = spaces-all x (blank ++ v) wx in
      let fb = spaces-all blank v all in
      record { past = omega arith; far = omega arith }

  -- white space that ends before
  pub white-same : {from : ℕ} → from ≤ p → after s from < p → after t from ≡ after s from
  white-same {from} h k = by (after-cut u v from h) (after-cut u (blank ++ v) from h) k
    where
      second : {x z : ℕ} → CutPlace u (blank ++ v) x z → x < p → z ≡ x
      second (within l) m = refl
      second (past l m) n = absurd (omega arith)

      by : {x y z : ℕ} → CutPlace u v x y → CutPlace u (blank ++ v) x z → y < p → z ≡ y
      by (within l) c m = second c l
      by (past l m) c n = absurd (omega arith)

  pub byte_same : (at : ℕ) → at < p → get_or s at 0 ≡ get_or t at 0
  byte_same at h = sym (byte_cut u v at h) ∙ byte_cut u (blank ++ v) at h

  number_same : (high : Bool) (w at : ℕ) → at + w ≤ p → number high w s at ≡ number high w t at
  number_same high w at h = sym (number_cut u v high w at h) ∙ number_cut u (blank ++ v) high w at h

  stretch_same : (k at : ℕ) → at + k ≤ p → take k (drop at s) ≡ take k (drop at t)
  stretch_same k at h = sym (stretch_cut u v k at h) ∙ stretch_cut u (blank ++ v) k at h

  words_same : (high : Bool) (f n w : ℕ) → f + n * w ≤ p → (i : ℕ) → i < n → number high w s (f + i * w) ≡ number high w t (f + i * w)
  words_same high f n w h i l = let k = part-within i n w l in number_same high w (f + i * w) (omega arith)

  module _ (high : Bool) (On : ℕ → ℕ → Type 0) where
    -- a value within u
    pub record ValueSame (at n c f m : ℕ) : Type 0 where
      pub value : value_at high t at n ≡ Value.is c f m
      pub head : LikeHead high high s t At On at at c c f f

    pub value_same : (at n c f m : ℕ) → at < p → value_at high s at n ≡ Value.is c f m → m ≤ p → ValueSame at n c f m
    value_same at n c f m h e k =
        let K = kind_of (get_or u at 0) in
        let es : value_of high s at n K ≡ Value.is c f m = ap (λ b. value_of high s at n (kind_of b)) (byte_cut u v at h) ∙ e in
        let x = first (subst (CutValue u v K (value_of high u at n K)) es (value-cut u v high at n K (kind-wide (get_or u at 0)))) in
        let y = second (subst (λ z. CutValue u (blank ++ v) K z (value_of high t at n K)) x.0 (value-cut u (blank ++ v) high at n K (kind-wide (get_or u at 0)))) in
        record {
          value = ap (λ b. value_of high t at n (kind_of b)) (sym (byte_cut u (blank ++ v) at h)) ∙ y;
          head = record {
            tag = byte_same at h;
            at = stays h;
            count = refl;
            first = refl;
            value = λ a b g i l. let z = x.2 a b (ap kind_of (byte_cut u v at h) ∙ g) in words_same high f a b (omega arith) i l;
            row = λ _. let z = x.1 in stretch_same c f (omega arith);
          };
        }
      where
        first : {K : Kind} {z : Value} → CutValue u v K z (Value.is c f m) → (z ≡ Value.is c f m) × (f + c ≤ m) × ((a b : ℕ) → K ≡ plain a b → f + a * b ≤ m)
        first (CutValue.both l fits words) = (refl, fits, words)
        first (CutValue.lost l) = absurd (omega arith)

        second : {K : Kind} {z : Value} → CutValue u (blank ++ v) K (Value.is c f m) z → z ≡ Value.is c f m
        second (CutValue.both l fits words) = refl

    -- a pair within u
    pub record PairSame (at n : ℕ) (a : Attribute) (m : ℕ) : Type 0 where
      pub pair : pair_at high t at n ≡ Pair.is a m
      pub attribute : LikeAttr high high s t At On a a

    pub pair_same : (at n : ℕ) (a : Attribute) (m : ℕ) → at < p → pair_at high s at n ≡ Pair.is a m → m ≤ p → PairSame at n a m
    pair_same at n a m h e k =
        let x = first (subst (CutPair u v (pair_at high u at n)) e (pair-cut u v high at n h)) in
        let y = second (subst (λ z. CutPair u (blank ++ v) z (pair_at high t at n)) x.0 (pair-cut u (blank ++ v) high at n h)) in
        let i = x.1 in
        let there : a.at ≡ at = subst (PairAt at) e (pair-at high s at n) in
        let z : a.at < p = omega arith in
        record {
          pair = y;
          attribute = record {
            number = refl;
            tag = refl;
            at = stays z;
            count = refl;
            first = refl;
            value = λ b w g j l. let z = i.words b w g in words_same high a.first b w (omega arith) j l;
            row = λ _. let z = i.many in stretch_same a.count a.first (omega arith);
          };
        }
      where
        first : {z : Pair} → CutPair u v z (Pair.is a m) → (z ≡ Pair.is a m) × Inside m a
        first (CutPair.both l i) = (refl, i)
        first (CutPair.lost l b) = absurd (omega arith)

        second : {z : Pair} → CutPair u (blank ++ v) (Pair.is a m) z → z ≡ Pair.is a m
        second (CutPair.both l i) = refl
        second (CutPair.lost l b) = absurd l
