-- Reading from p on in s and from q on in t, where the bytes from there on are the same, is the same but for the places.
-- Assumes nothing.
use Prim.Native.Nat.{ℕ, zero, suc, ◌+◌, ◌-◌, ◌*◌, ◌≤◌}
use mathlib.Core.Path.{◌≡◌, refl, sym, ap, ◌∙◌}
use mathlib.Core.Bool.{Bool, true, false}
use mathlib.Core.List.{List}
use native.Mathlib.Omega.{arith}
use borrow.Author.Tests.{leb-true, leb-false, le-leb, lt-leb}
use lib.ListN.{length, get_or, take, drop, length-drop}
use lib.Seq.{get_or-drop, drop-drop}
use lib.Dec.{ltb, leb, eqb}
use Rattle.scope.specs.Choice.{between}
use Rattle.scope.specs.Number.{digits, place, number}
use Rattle.scope.specs.Iterate.{Next, go, stop, onward, run, iterate}
use Rattle.scope.specs.Item.{Kind, plain, array, other, Value, numbers_at, elements_at, counted_at, array_at, value_of, kind_of}
use Rattle.scope.specs.Item.{Attribute, Pair, numbered, number_at, pair_of, pair_at, Scan, Walk, ended_with, on_pair, scan_item, scan_step, scan_from, scan_at, spaces, after}
use Rattle.scope.specs.Data.{block_of, block_at}
use Rattle.scope.specs.Reading.{Context, operator_at}
use Rattle.scope.proofs.Alike.{pick-like, LikeHead, LikeAttr, LikeAttrs, nil, cons, snoc_like, attrs-length, LikeFound, LikeScan, tagged, ended, LikeRead}
use Rattle.scope.proofs.AlikeRead.{scanned-like}

-- two steps that go on alike, or stop alike
pub data LikeNext {S R : Type 0} (I : S → S → Type 0) (Q : R → R → Type 0) : Next S R → Next S R → Type 0 where
  on : {x y : S} → I x y → LikeNext I Q (go x) (go y)
  at_end : {x y : R} → Q x y → LikeNext I Q (stop x) (stop y)

onward-like : {S R : Type 0} {I : S → S → Type 0} {Q : R → R → Type 0} (k l : S → R) → ((x y : S) → I x y → Q (k x) (l y))
    → {n m : Next S R} → LikeNext I Q n m → Q (onward k n) (onward l m)
onward-like k l h (on {x = x} {y = y} i) = h x y i
onward-like k l h (at_end e) = e

module _ {S R : Type 0} (f g : S → Next S R) (d : R) (I : S → S → Type 0) (Q : R → R → Type 0) (z : Q d d)
    (h : (x y : S) → I x y → LikeNext I Q (f x) (g y)) where
  run-like : (n : ℕ) (x y : S) → I x y → Q (run f d n x) (run g d n y)
  unfolding run
  run-like zero x y i = z
  run-like (suc n) x y i = onward-like (run f d n) (run g d n) (run-like n) (h x y i)

  pub iterate-like : (m l : S → ℕ) (x y : S) → m x ≡ l y → I x y → Q (iterate f d m x) (iterate g d l y)
  unfolding iterate
  iterate-like m l x y e i = rw e (run-like (suc (l y)) x y i)

digits-like : (d e : ℕ → ℕ) (k : ℕ) → ((j : ℕ) → d j ≡ e j) → digits d k ≡ digits e k
unfolding digits
digits-like d e zero h = refl
digits-like d e (suc k) h = rw (digits-like d e k h, h k) refl

module _ (s t : List ℕ) (p q : ℕ) (hp : p ≤ length s) (hq : q ≤ length t) (same : drop p s ≡ drop q t) where
  pub record Far (a b : ℕ) : Type 0 where
    pub past : p ≤ a
    pub far : a + q ≡ b + p

  lengths : length s + q ≡ length t + p
  lengths =
      let e : length s - p ≡ length t - q = sym (length-drop p s) ∙ ap length same ∙ length-drop q t in
      omega arith

  pub far-end : Far (length s) (length t)
  far-end = record { past = hp; far = lengths }

  pub far-start : Far p q
  far-start = record { past = omega arith; far = omega arith }

  pub far-add : {a b : ℕ} (k : ℕ) → Far a b → Far (a + k) (b + k)
  far-add {a} {b} k h = let x = h.past in let y = h.far in record { past = omega arith; far = omega arith }

  pub far-suc : {a b : ℕ} → Far a b → Far (suc a) (suc b)
  far-suc {a} {b} h = let x = h.past in let y = h.far in record { past = omega arith; far = omega arith }

  pub byte_like : {a b : ℕ} → Far a b → get_or s a 0 ≡ get_or t b 0
  byte_like {a} {b} h =
      let x = h.past in
      let y = h.far in
      let e : a ≡ p + (a - p) = omega arith in
      let f : q + (a - p) ≡ b = omega arith in
      ap (λ n. get_or s n 0) e ∙ sym (get_or-drop p s (a - p) 0) ∙ ap (λ l. get_or l (a - p) 0) same ∙ get_or-drop q t (a - p) 0 ∙ ap (λ n. get_or t n 0) f

  pub drop-like : {a b : ℕ} → Far a b → drop a s ≡ drop b t
  drop-like {a} {b} h =
      let x = h.past in
      let y = h.far in
      let e : a ≡ p + (a - p) = omega arith in
      let f : q + (a - p) ≡ b = omega arith in
      ap (λ n. drop n s) e ∙ sym (drop-drop (a - p) p s) ∙ ap (drop (a - p)) same ∙ drop-drop (a - p) q t ∙ ap (λ n. drop n t) f

  le_like : {a b : ℕ} → Far a b → leb a (length s) ≡ leb b (length t)
  le_like {a} {b} h = go (leb a (length s)) refl
    where
      go : (r : Bool) → leb a (length s) ≡ r → r ≡ leb b (length t)
      go true e = let x = leb-true a (length s) e in let y = h.far in let z = lengths in sym (le-leb b (length t) (omega arith))
      go false e = let x = leb-false a (length s) e in let y = h.far in let z = lengths in sym (lt-leb b (length t) (omega arith))

  ge_like : {a b : ℕ} → Far a b → leb (length s) a ≡ leb (length t) b
  ge_like {a} {b} h = go (leb (length s) a) refl
    where
      go : (r : Bool) → leb (length s) a ≡ r → r ≡ leb (length t) b
      go true e = let x = leb-true (length s) a e in let y = h.far in let z = lengths in sym (le-leb (length t) b (omega arith))
      go false e = let x = leb-false (length s) a e in let y = h.far in let z = lengths in sym (lt-leb (length t) b (omega arith))

  place-like : (high : Bool) (w : ℕ) {a b : ℕ} → Far a b → (j : ℕ) → Far (place high w a j) (place high w b j)
  place-like true w h j = far-add j h
  place-like false w h j = far-add (w - 1 - j) h

  pub number-like : (high : Bool) (w : ℕ) {a b : ℕ} → Far a b → number high w s a ≡ number high w t b
  unfolding number
  number-like high w {a} {b} h =
      digits-like (λ k. get_or s (place high w a k) 0) (λ k. get_or t (place high w b k) 0) w (λ j. byte_like (place-like high w h j))

  pub after-like : {a b : ℕ} → Far a b → Far (after s a) (after t b)
  unfolding after
  after-like {a} {b} h = rw (drop-like h) (far-add (spaces (drop b t)) h)

  data LikeValue : Value → Value → Type 0 where
    is : {c d f g n m : ℕ} → c ≡ d → Far f g → Far n m → LikeValue (Value.is c f n) (Value.is d g m)
    no : {k x y : ℕ} → Far x y → LikeValue (Value.no k x) (Value.no k y)

  -- what belongs together besides: places, and places where reading goes on
  module _ (high : Bool) (At On : ℕ → ℕ → Type 0) (item : (a b : ℕ) → Far a b → At a b) (going : (a b : ℕ) → Far a b → On a b) where
    up : {a b : ℕ} → Far a b → At a b
    up {a} {b} h = item a b h

    further : {a b : ℕ} → Far a b → On a b
    further {a} {b} h = going a b h

    abbrev Head : (a b c d f g : ℕ) → Type 0
    Head = LikeHead high high s t At On

    abbrev Attr : Attribute → Attribute → Type 0
    Attr = LikeAttr high high s t At On

    abbrev Attrs : List Attribute → List Attribute → Type 0
    Attrs = LikeAttrs high high s t At On

    abbrev Scans : Scan → Scan → Type 0
    Scans = LikeScan high high s t At On

    pub data LikePair : Pair → Pair → Type 0 where
      is : {a b : Attribute} {n m : ℕ} → Attr a b → Far n m → LikePair (Pair.is a n) (Pair.is b m)
      no : {k x y : ℕ} → At x y → LikePair (Pair.no k x) (Pair.no k y)
      waits : LikePair Pair.waits Pair.waits

    numbers-like : {a b f g n m : ℕ} (w : ℕ) → Far a b → Far f g → n ≡ m → LikeValue (numbers_at s a f n w) (numbers_at t b g m w)
    unfolding numbers_at
    numbers-like {f} {g} {n} {m} w h k e =
        let x : Far (f + n * w) (g + m * w) = rw e (far-add (m * w) k) in
        pick-like LikeValue (leb (f + n * w) (length s)) (leb (g + m * w) (length t)) (le_like x) (LikeValue.is e k x) (LikeValue.no h)

    elements_like : {a b f g n m : ℕ} (w : ℕ) → Far a b → Far f g → n ≡ m → LikeValue (elements_at s a f w n) (elements_at t b g w m)
    unfolding elements_at
    elements_like {n} {m} w h k e = pick-like LikeValue (ltb 1024 n) (ltb 1024 m) (ap (ltb 1024) e) (LikeValue.no h) (numbers-like w h k e)

    counted-like : {a b : ℕ} (w l : ℕ) → Far a b → LikeValue (counted_at high s a w l) (counted_at high t b w l)
    unfolding counted_at
    counted-like {a} {b} w l h =
        let x = far-add l (far-add 2 h) in
        pick-like LikeValue (leb (a + 2 + l) (length s)) (leb (b + 2 + l) (length t)) (le_like x)
        (elements_like w h x (number-like high l (far-add 2 h))) (LikeValue.no h)

    array-like : {a b : ℕ} (w : ℕ) → Far a b → LikeValue (array_at high s a w) (array_at high t b w)
    unfolding array_at
    array-like {a} {b} w h =
        let x = far-add 1 h in
        pick-like LikeValue (leb (length s) (a + 1)) (leb (length t) (b + 1)) (ge_like x) (LikeValue.no h)
        (pick-like LikeValue (eqb (get_or s (a + 1) 0) 0xc0) (eqb (get_or t (b + 1) 0) 0xc0) (ap (λ z. eqb z 0xc0) (byte_like x)) (counted-like w 1 h)
        (pick-like LikeValue (eqb (get_or s (a + 1) 0) 0xc1) (eqb (get_or t (b + 1) 0) 0xc1) (ap (λ z. eqb z 0xc1) (byte_like x)) (counted-like w 2 h) (LikeValue.no x)))

    value-like : {a b : ℕ} (n : ℕ) (k : Kind) → Far a b → LikeValue (value_of high s a n k) (value_of high t b n k)
    unfolding value_of
    value-like n (plain k w) h = pick-like LikeValue (leb 16 n) (leb 16 n) refl (LikeValue.no h) (numbers-like w h (far-add 1 h) refl)
    value-like n (array w) h = pick-like LikeValue (leb 16 n) (leb 16 n) refl (LikeValue.no h) (array-like w h)
    value-like n other h = LikeValue.no h

    head-like : {a b c d f g : ℕ} → Far a b → c ≡ d → Far f g → Head a b c d f g
    head-like h e k =
        record {
          tag = byte_like h;
          at = up h;
          count = e;
          first = (let x = h.far in let y = k.far in omega arith);
          value = λ n w _ i _. number-like high w (far-add (i * w) k);
          row = λ _. (λ i. take (e i) (drop-like k i));
        }

    numbered-like : {a b c d f g x y : ℕ} (w : ℕ) → Head a b c d f g → Far x y → LikePair (numbered high s a c f x w) (numbered high t b d g y w)
    unfolding numbered
    numbered-like {x} {y} w h m =
        let z = far-add w (far-add 1 m) in
        pick-like LikePair (leb (x + 1 + w) (length s)) (leb (y + 1 + w) (length t)) (le_like z)
        (LikePair.is (record { number = number-like high w (far-add 1 m); tag = h.tag; at = h.at; count = h.count; first = h.first; value = h.value; row = h.row }) z) (LikePair.no (up m))

    -- the number of a value, which may stand elsewhere
    pub number-at_like : {a b c d f g x y : ℕ} → Head a b c d f g → Far x y → LikePair (number_at high s a c f x) (number_at high t b d g y)
    unfolding number_at
    number-at_like {x} {y} h m =
        pick-like LikePair (leb (length s) x) (leb (length t) y) (ge_like m) LikePair.waits
        (pick-like LikePair (eqb (get_or s x 0) 0xf8) (eqb (get_or t y 0) 0xf8) (ap (λ z. eqb z 0xf8) (byte_like m)) (numbered-like 1 h m)
        (pick-like LikePair (eqb (get_or s x 0) 0xf9) (eqb (get_or t y 0) 0xf9) (ap (λ z. eqb z 0xf9) (byte_like m)) (numbered-like 2 h m) (LikePair.no (up m))))

    pair-of_like : {a b : ℕ} → Far a b → {v w : Value} → LikeValue v w → LikePair (pair_of high s a v) (pair_of high t b w)
    unfolding pair_of
    pair-of_like h (LikeValue.is e f n) = number-at_like (head-like h e f) (after-like n)
    pair-of_like h (LikeValue.no x) = LikePair.no (up x)

    pair-like : {a b : ℕ} {n m : ℕ} → n ≡ m → Far a b → LikePair (pair_at high s a n) (pair_at high t b m)
    unfolding pair_at
    pair-like {a} {b} {n} {m} e h = rw (e, byte_like h) (pair-of_like h (value-like m (kind_of (get_or t b 0)) h))

    block-of_like : {o v x y : ℕ} (due w : ℕ) → At o v → Far x y → LikeFound high high s t At On due (block_of high s o due x w) (block_of high t v due y w)
    unfolding block_of
    block-of_like {x} {y} due w h k =
        let z = far-add w (far-add 1 k) in
        let u = far-add due z in
        let Q = LikeFound high high s t At On due in
        pick-like Q (leb (x + 1 + w) (length s)) (leb (y + 1 + w) (length t)) (le_like z)
        (pick-like Q (eqb (number high w s (x + 1)) due) (eqb (number high w t (y + 1)) due) (ap (λ n. eqb n due) (number-like high w (far-add 1 k)))
        (pick-like Q (leb (x + 1 + w + due) (length s)) (leb (y + 1 + w + due) (length t)) (le_like u) (LikeFound.found (up z) (further u) (ap (take due) (drop-like z))) (LikeFound.no (up k)))
        (LikeFound.no h)) (LikeFound.no (up k))

    -- the data of an operator, whose tag may stand elsewhere
    pub block-like : {o v x y : ℕ} (due : ℕ) → At o v → Far x y → LikeFound high high s t At On due (block_at high s o due x) (block_at high t v due y)
    unfolding block_at
    block-like {x} {y} due h k =
        let Q = LikeFound high high s t At On due in
        pick-like Q (leb (length s) x) (leb (length t) y) (ge_like k) (LikeFound.no (up far-end))
        (pick-like Q (eqb (get_or s x 0) 0xfa) (eqb (get_or t y 0) 0xfa) (ap (λ z. eqb z 0xfa) (byte_like k)) (block-of_like due 4 h k)
        (pick-like Q (eqb (get_or s x 0) 0xfb) (eqb (get_or t y 0) 0xfb) (ap (λ z. eqb z 0xfb) (byte_like k)) (block-of_like due 1 h k) (LikeFound.no h)))

    -- two walks over pairs
    data LikeWalk : Walk → Walk → Type 0 where
      like_walk : {a b : ℕ} {l m : List Attribute} → Far a b → Attrs l m → LikeWalk (record { at = a; attrs = l }) (record { at = b; attrs = m })

    on-pair_like : {l m : List Attribute} → Attrs l m → {v w : Pair} → LikePair v w → LikeNext LikeWalk Scans (on_pair s l v) (on_pair t m w)
    unfolding on_pair
    on-pair_like h (LikePair.is a n) = on (like_walk n (snoc_like high high s t At On h a))
    on-pair_like h (LikePair.no x) = at_end (LikeScan.no x)
    on-pair_like h LikePair.waits = at_end (LikeScan.no (up far-end))

    ended-like : {l m : List Attribute} → Attrs l m → Scans (ended_with s l) (ended_with t m)
    unfolding ended_with
    ended-like nil = ended
    ended-like (cons h k) = LikeScan.no (up far-end)

    tagged-like : {a b g d : ℕ} {l m : List Attribute} → g ≡ d → Far a b → Attrs l m → Scans (Scan.tagged g a l) (Scan.tagged d b m)
    tagged-like e h k = rw e (tagged (up h) k (further (far-suc h)) (λ due. block-like due (up h) (after-like (far-suc h))))

    item-like : {a b : ℕ} {l m : List Attribute} → Far a b → Attrs l m → LikeNext LikeWalk Scans (scan_item high s l a) (scan_item high t m b)
    unfolding scan_item
    item-like {a} {b} {l} {m} h k =
        let Q = LikeNext LikeWalk Scans in
        pick-like Q (leb (length s) a) (leb (length t) b) (ge_like h) (at_end (ended-like k))
        (pick-like Q (between 0x41 0xbf (get_or s a 0)) (between 0x41 0xbf (get_or t b 0)) (ap (between 0x41 0xbf) (byte_like h))
        (at_end (tagged-like (byte_like h) h k)) (on-pair_like k (pair-like (attrs-length high high s t At On k) h)))

    scan_step-like : (x y : Walk) → LikeWalk x y → LikeNext LikeWalk Scans (scan_step high s x) (scan_step high t y)
    unfolding scan_step
    scan_step-like x y (like_walk h k) = item-like (after-like h) k

    left-like : {a b : ℕ} → Far a b → length s - a ≡ length t - b
    left-like {a} {b} h = let x = h.past in let y = h.far in let z = lengths in omega arith

    scan_like : (x y : Walk) → LikeWalk x y → Scans (scan_from high s x) (scan_from high t y)
    unfolding scan_from
    scan_like x y (like_walk {a = a} {b = b} {l = l} {m = m} h k) =
        iterate-like (scan_step high s) (scan_step high t) Scan.ended LikeWalk Scans ended scan_step-like (λ w. length s - w.at) (λ w. length t - w.at)
        (record { at = a; attrs = l }) (record { at = b; attrs = m }) (left-like h) (like_walk h k)

    -- the items from there on, behind attributes that are alike, wherever those stand
    pub items-like : {a b : ℕ} {l m : List Attribute} → Far a b → Attrs l m
        → Scans (onward (scan_from high s) (scan_item high s l a)) (onward (scan_from high t) (scan_item high t m b))
    items-like h k = onward-like (scan_from high s) (scan_from high t) scan_like (item-like h k)

    -- and from a number on
    pub pairs_like : {l m : List Attribute} → Attrs l m → {v w : Pair} → LikePair v w
        → Scans (onward (scan_from high s) (on_pair s l v)) (onward (scan_from high t) (on_pair t m w))
    pairs_like h k = onward-like (scan_from high s) (scan_from high t) scan_like (on-pair_like h k)

    pub scan_at-like : {a b : ℕ} → Far a b → Scans (scan_at high s a) (scan_at high t b)
    unfolding scan_at
    scan_at-like h = scan_like _ _ (like_walk h nil)

  pub read-like : (At On : ℕ → ℕ → Type 0) → ((a b : ℕ) → Far a b → At a b) → ((a b : ℕ) → Far a b → On a b) → (c : Context) {a b : ℕ} → Far a b
      → LikeRead c.set.high c.set.high s t At On (operator_at c s a) (operator_at c t b)
  unfolding operator_at
  read-like At On item going c h = scanned-like c c (record { class = refl; phase = refl; opened = refl; asked = refl }) s t At On (scan_at-like c.set.high At On item going h)
