-- Names as three numbers are the same only where the names are: eight bytes are the digits of a number, and the length says where the name ends.
-- Assumes nothing.
use Prim.Native.Nat.{ℕ, zero, suc, ◌+◌, ◌-◌, ◌*◌, ◌^◌, ◌≤◌, ◌<◌}
use mathlib.Core.Path.{◌≡◌, refl, sym, ap, ◌∙◌}
use mathlib.Core.Bool.{Bool, true, false}
use mathlib.Core.List.{List, [], ◌∷◌}
use native.Mathlib.Nat.{add-zero, zero-add, add-suc, mul-one, mul_assoc, pow-zero, pow-suc, suc-mul, mul-le-mul_right}
use native.Mathlib.Omega.{arith}
use lib.ListN.{length, get_or}
use lib.Dec.{ltb}
use borrow.Author.Tests.{ltb-true, ltb-false}
use Rattle.scope.specs.Choice.{same}
use Rattle.scope.proofs.Apart.{same_refl, same-eq, clash-of}
use Rattle.key.specs.Keys.{packed, key_of, IsName}

-- the numbers of a list are bytes
abbrev pub Bytes : List ℕ → Type 0
Bytes s = (i : ℕ) → get_or s i 0 < 256

pub packed-below : (s : List ℕ) (from k : ℕ) → Bytes s → packed s from k < 256 ^ k
unfolding packed
packed-below s from zero h = rw pow-zero (omega arith)
packed-below s from (suc k) h = let p = packed-below s from k h in let b = h (from + k) in rw pow-suc (omega arith)

pow_grow : (i d : ℕ) → 256 ^ i ≤ 256 ^ (i + d)
pow_grow i zero = rw (add-zero i) (omega arith)
pow_grow i (suc d) = let h = pow_grow i d in rw (add-suc i d, pow-suc) (omega arith)

pub pow_seven : (i : ℕ) → i < 8 → 256 ^ i ≤ 256 ^ 7
pow_seven i h = let e : i + (7 - i) ≡ 7 = omega arith in rw e at (pow_grow i (7 - i))

spread : (y p g : ℕ) → (y + p) * 256 + g ≡ y * 256 + (p * 256 + g)
spread y p g = omega arith

-- the first byte is the highest
pub packed-cons : (x : ℕ) (xs : List ℕ) (k : ℕ) → packed (x ∷ xs) 0 (suc k) ≡ x * 256 ^ k + packed xs 0 k
unfolding packed
packed-cons x xs zero = rw (pow-zero, mul-one, zero-add) (sym (add-zero x))
packed-cons x xs (suc k) =
    let e = packed-cons x xs k in
    rw (e, zero-add, zero-add, pow-suc, ← mul_assoc x (256 ^ k) 256) (spread (x * 256 ^ k) (packed xs 0 k) (get_or xs k 0))

-- the first sixteen are the first eight and the next eight
pub packed-split : (s : List ℕ) (n k : ℕ) → packed s 0 (n + k) ≡ packed s 0 n * 256 ^ k + packed s n k
unfolding packed
packed-split s n zero = rw (add-zero n, pow-zero, mul-one) (sym (add-zero (packed s 0 n)))
packed-split s n (suc k) =
    rw (add-suc n k, packed-split s n k, zero-add, pow-suc, ← mul_assoc (packed s 0 n) (256 ^ k) 256)
    (spread (packed s 0 n * 256 ^ k) (packed s n k) (get_or s (n + k) 0))

-- numbers of two digits are the same only where both are
module _ (x y w a b : ℕ) (e : x * w + a ≡ y * w + b) (h : a < w) (k : b < w) where
  pub high_same : x ≡ y
  high_same = by (ltb x y) (ltb y x) refl refl
    where
      by : (s t : Bool) → ltb x y ≡ s → ltb y x ≡ t → x ≡ y
      by true t p q = absurd (let z : x * w + w ≤ y * w = rw suc-mul at (mul-le-mul_right {m = suc x} {n = y} w (ltb-true x y p)) in omega arith)
      by false true p q = absurd (let z : y * w + w ≤ x * w = rw suc-mul at (mul-le-mul_right {m = suc y} {n = x} w (ltb-true y x q)) in omega arith)
      by false false p q = omega (arith, ltb-false x y p, ltb-false y x q)

  pub low_same : a ≡ b
  low_same = let z : x * w ≡ y * w = ap (λ v. v * w) high_same in omega arith

-- bytes of one length, at most k of them, that come to the same number are the same
packed-same : (k : ℕ) (xs ys : List ℕ) → Bytes xs → Bytes ys → length xs ≤ k → length xs ≡ length ys → packed xs 0 k ≡ packed ys 0 k → xs ≡ ys
packed-same k [] [] p q a l e = refl
packed-same k [] (y ∷ ys) p q a l e = absurd (omega arith)
packed-same k (x ∷ xs) [] p q a l e = absurd (omega arith)
packed-same zero (x ∷ xs) (y ∷ ys) p q a l e = absurd (omega arith)
packed-same (suc k) (x ∷ xs) (y ∷ ys) p q a l e =
    let m : x * 256 ^ k + packed xs 0 k ≡ y * 256 ^ k + packed ys 0 k = rw (packed-cons x xs k, packed-cons y ys k) at e in
    let f = packed-below xs 0 k (λ i. p (suc i)) in
    let g = packed-below ys 0 k (λ i. q (suc i)) in
    let c = high_same x y (256 ^ k) (packed xs 0 k) (packed ys 0 k) m f g in
    let d = packed-same k xs ys (λ i. p (suc i)) (λ i. q (suc i)) (omega arith) (omega arith) (low_same x y (256 ^ k) (packed xs 0 k) (packed ys 0 k) m f g) in
    λ j. c j ∷ d j

-- the same key is the same name, of whatever length the other one is
pub key-eq : (a b : List ℕ) → IsName a → Bytes b → key_of a ≡ key_of b → a ≡ b
unfolding key_of
key-eq a b n q e =
    let c : packed a 0 8 ≡ packed b 0 8 = ap (λ (l : List ℕ). get_or l 0 0) e in
    let d : packed a 8 8 ≡ packed b 8 8 = ap (λ (l : List ℕ). get_or l 1 0) e in
    let l : length a ≡ length b = ap (λ (l : List ℕ). get_or l 2 0) e in
    packed-same 16 a b n.bytes q n.short l (rw (packed-split a 8 8, packed-split b 8 8, c, d))

-- names are the same where their keys are
pub same_key : (a b : List ℕ) → IsName a → Bytes b → same (key_of a) (key_of b) ≡ same a b
same_key a b n q = by (same (key_of a) (key_of b)) (same a b) refl refl
  where
    by : (s t : Bool) → same (key_of a) (key_of b) ≡ s → same a b ≡ t → s ≡ t
    by true true e f = refl
    by false false e f = refl
    by true false e f = clash-of (sym (ap (λ x. same x b) (key-eq a b n q (same-eq (key_of a) (key_of b) e)) ∙ same_refl b) ∙ f)
    by false true e f = clash-of (sym (ap (λ x. same (key_of x) (key_of b)) (same-eq a b f) ∙ same_refl (key_of b)) ∙ e)
