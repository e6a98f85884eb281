-- The column has the held motifs in the byte order of their names, a shorter name before one that it begins: three numbers stand as the names do. Eight bytes are
-- the digits of a number, and where sixteen padded bytes are the same the shorter name begins the longer one.
-- Assumes nothing.
use Prim.Native.Nat.{ℕ, zero, suc, ◌+◌, ◌*◌, ◌^◌, ◌≤◌, ◌<◌}
use mathlib.Core.Path.{◌≡◌, refl, sym, ◌∙◌, subst}
use mathlib.Core.Bool.{true}
use mathlib.Core.List.{List, [], ◌∷◌}
use native.Mathlib.Nat.{suc-mul, mul-le-mul_right}
use native.Mathlib.Omega.{arith}
use lib.ListN.{length}
use Rattle.scope.specs.Motif.{Motif}
use Rattle.scope.proofs.Apart.{clash-of}
use Rattle.key.specs.Keys.{packed, key_of, IsName}
use Rattle.key.proofs.Packs.{Bytes, packed-below, packed-cons, packed-split, high_same, low_same}
use Rattle.motif.specs.Before.{before}
use Rattle.motif.specs.Held.{Keeps, InRow, order_in}
use Rattle.motif.proofs.Ordered.{before-less, before_more, before_same, before-first, before_self, Three, lower, level, higher, three}
use Rattle.motif.proofs.Rowed.{in_below}
use Rattle.motif.proofs.Stored.{row-key, row-name}

packed-nil : (k : ℕ) → packed [] 0 k ≡ 0
unfolding packed
packed-nil zero = refl
packed-nil (suc k) = rw (packed-nil k)

packed_zero : (xs ys : List ℕ) → packed xs 0 0 < packed ys 0 0 → ⊥
unfolding packed
packed_zero xs ys h = omega arith

-- numbers of two digits
module _ (x y w a b : ℕ) where
  no_more : y < x → x * w + a < y * w + b → b < w → ⊥
  no_more h l k = let z : y * w + w ≤ x * w = rw suc-mul at (mul-le-mul_right {m = suc y} {n = x} w h) in omega arith

  first-less : x < y → a < w → x * w + a < y * w + b
  first-less h k = let z : x * w + w ≤ y * w = rw suc-mul at (mul-le-mul_right {m = suc x} {n = y} w h) in omega arith

-- a smaller number of the first k bytes stands before
packed-less : (k : ℕ) (xs ys : List ℕ) → Bytes xs → Bytes ys → packed xs 0 k < packed ys 0 k → before xs ys ≡ true
packed-less zero xs ys p q h = absurd (packed_zero xs ys h)
packed-less (suc k) [] [] p q h = absurd (omega arith)
packed-less (suc k) [] (y ∷ ys) p q h = before-first y ys
packed-less (suc k) (x ∷ xs) [] p q h = let z = packed-nil (suc k) in absurd (omega arith)
packed-less (suc k) (x ∷ xs) (y ∷ ys) p q h = by (three x y) (packed-less k xs ys (λ i. p (suc i)) (λ i. q (suc i)))
  where
    l : x * 256 ^ k + packed xs 0 k < y * 256 ^ k + packed ys 0 k
    l = rw (packed-cons x xs k, packed-cons y ys k) at h

    by : Three x y → (packed xs 0 k < packed ys 0 k → before xs ys ≡ true) → before (x ∷ xs) (y ∷ ys) ≡ true
    by (lower a) f = before-less x y xs ys a
    by (level a) f = let m : x * 256 ^ k + packed xs 0 k < x * 256 ^ k + packed ys 0 k = rw (← a) at l in before_same x y xs ys a ∙ f (omega arith)
    by (higher a) f = absurd (no_more x y (256 ^ k) (packed xs 0 k) (packed ys 0 k) a l (packed-below ys 0 k (λ i. q (suc i))))

-- where the first k bytes come to the same number the shorter name of at most k bytes stands before
begins : (k : ℕ) (xs ys : List ℕ) → Bytes xs → Bytes ys → length xs < length ys → length ys ≤ k → packed xs 0 k ≡ packed ys 0 k → before xs ys ≡ true
begins k [] [] p q h l e = absurd (omega arith)
begins k [] (y ∷ ys) p q h l e = before-first y ys
begins k (x ∷ xs) [] p q h l e = absurd (omega arith)
begins zero (x ∷ xs) (y ∷ ys) p q h l e = absurd (omega arith)
begins (suc k) (x ∷ xs) (y ∷ ys) p q h l e =
    let m : x * 256 ^ k + packed xs 0 k ≡ y * 256 ^ k + packed ys 0 k = rw (packed-cons x xs k, packed-cons y ys k) at e in
    let f = packed-below xs 0 k (λ i. p (suc i)) in
    let g = packed-below ys 0 k (λ i. q (suc i)) in
    before_same x y xs ys (high_same x y (256 ^ k) (packed xs 0 k) (packed ys 0 k) m f g)
    ∙ begins k xs ys (λ i. p (suc i)) (λ i. q (suc i)) (omega arith) (omega arith) (low_same x y (256 ^ k) (packed xs 0 k) (packed ys 0 k) m f g)

-- names stand as their keys do
module _ (xs ys : List ℕ) (a : IsName xs) (b : IsName ys) where
  less : packed xs 0 8 * 256 ^ 8 + packed xs 8 8 < packed ys 0 8 * 256 ^ 8 + packed ys 8 8 → before xs ys ≡ true
  less h = packed-less 16 xs ys a.bytes b.bytes (rw (packed-split xs 8 8, packed-split ys 8 8) h)

  pub key-before : before (key_of xs) (key_of ys) ≡ true → before xs ys ≡ true
  unfolding key_of
  key-before h = high (three (packed xs 0 8) (packed ys 0 8))
    where
      long : packed xs 0 8 ≡ packed ys 0 8 → packed xs 8 8 ≡ packed ys 8 8 → Three (length xs) (length ys) → before (length xs ∷ []) (length ys ∷ []) ≡ true → before xs ys ≡ true
      long c d (lower e) g = begins 16 xs ys a.bytes b.bytes e b.short (rw (packed-split xs 8 8, packed-split ys 8 8, c, d))
      long c d (level e) g = clash-of (sym g ∙ before_same (length xs) (length ys) [] [] e ∙ before_self [])
      long c d (higher e) g = clash-of (sym g ∙ before_more (length xs) (length ys) [] [] e)

      low : packed xs 0 8 ≡ packed ys 0 8 → Three (packed xs 8 8) (packed ys 8 8) → before (packed xs 8 8 ∷ length xs ∷ []) (packed ys 8 8 ∷ length ys ∷ []) ≡ true → before xs ys ≡ true
      low c (lower e) g = less (rw c (omega arith))
      low c (level e) g = long c e (three (length xs) (length ys)) (sym (before_same (packed xs 8 8) (packed ys 8 8) (length xs ∷ []) (length ys ∷ []) e) ∙ g)
      low c (higher e) g = clash-of (sym g ∙ before_more (packed xs 8 8) (packed ys 8 8) (length xs ∷ []) (length ys ∷ []) e)

      high : Three (packed xs 0 8) (packed ys 0 8) → before xs ys ≡ true
      high (lower c) = less (first-less (packed xs 0 8) (packed ys 0 8) (256 ^ 8) (packed xs 8 8) (packed ys 8 8) c (packed-below xs 8 8 a.bytes))
      high (level c) =
          low c (three (packed xs 8 8) (packed ys 8 8))
          (sym (before_same (packed xs 0 8) (packed ys 0 8) (packed xs 8 8 ∷ length xs ∷ []) (packed ys 8 8 ∷ length ys ∷ []) c) ∙ h)
      high (higher c) = clash-of (sym h ∙ before_more (packed xs 0 8) (packed ys 0 8) (packed xs 8 8 ∷ length xs ∷ []) (packed ys 8 8 ∷ length ys ∷ []) c)

module _ {t : List ℕ} {n : ℕ} {ms : List Motif} (s : Keeps t n ms) where
  -- of two places the earlier one has the name that stands before
  pub by_name : (j k : ℕ) → j < k → k < n → (a b : Motif) → InRow ms (order_in t j) a → InRow ms (order_in t k) b → before a.name b.name ≡ true
  by_name j k h l a b p q =
      key-before a.name b.name (row-name s.rows p) (row-name s.rows q)
      (rw (← row-key s.rows p, ← row-key s.rows q) (s.sorted.rising j k h l))

  -- and every held motif has a place
  pub has-place : {i : ℕ} (m : Motif) → InRow ms i m → (k : ℕ) × ((k < n) × InRow ms (order_in t k) m)
  has-place m r =
      let e = s.sorted.each _ (in_below s.rows r) in
      (e.0, (e.1.0, subst (λ x. InRow ms x m) (sym e.1.1) r))
