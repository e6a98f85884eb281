-- The order of names is strict and total: what stands first decides, and of two names that are not the same one stands before the other.
-- Assumes nothing.
use Prim.Native.Nat.{ℕ, ◌<◌}
use mathlib.Core.Logic.{◌≢◌}
use mathlib.Core.Path.{◌≡◌, refl, sym, ap, ◌∙◌}
use mathlib.Core.Bool.{Bool, true, false}
use mathlib.Core.List.{List, [], ◌∷◌}
use native.Mathlib.Omega.{arith}
use lib.Dec.{eqb, ltb}
use borrow.Author.Tests.{lt-ltb, le-ltb, ltb-true, ltb-false, eq-eqb, ne_eqb}
use Rattle.std.proofs.Common.{Some, cond}
use Rattle.std.specs.declared.cmp.Ordering.TheVariants.{Less, Equal, Greater}
use Rattle.std.specs.Ordering.{nat_cmp, partial_ordering_then, is_lt, is_some_and}
use Rattle.scope.specs.Choice.{pick}
use Rattle.scope.proofs.Apart.{clash-of}
use Rattle.motif.specs.Before.{before}

-- what stands first decides
pub before-less : (x y : ℕ) (xs ys : List ℕ) → x < y → before (x ∷ xs) (y ∷ ys) ≡ true
unfolding before
before-less x y xs ys h = rw (lt-ltb x y h)

pub before_more : (x y : ℕ) (xs ys : List ℕ) → y < x → before (x ∷ xs) (y ∷ ys) ≡ false
unfolding before
before_more x y xs ys h = let n : eqb x y ≡ false = ne_eqb x y (λ e. omega arith) in let l : ltb x y ≡ false = le-ltb x y (omega arith) in rw (l, n)

pub before_same : (x y : ℕ) (xs ys : List ℕ) → x ≡ y → before (x ∷ xs) (y ∷ ys) ≡ before xs ys
unfolding before
before_same x y xs ys h = let l : ltb x y ≡ false = le-ltb x y (omega arith) in rw (l, eq-eqb x y h)

before-none : (xs : List ℕ) → before xs [] ≡ false
unfolding before
before-none [] = refl
before-none (x ∷ xs) = refl

pub before-first : (y : ℕ) (ys : List ℕ) → before [] (y ∷ ys) ≡ true
unfolding before
before-first y ys = refl

-- three numbers against three, as std orders them
by-three : (b d e f g h : Bool)
    → is_some_and is_lt (partial_ordering_then (partial_ordering_then (Some (cond b Less (cond d Equal Greater))) (Some (cond e Less (cond f Equal Greater)))) (Some (cond g Less (cond h Equal Greater))))
    ≡ pick b true (pick d (pick e true (pick f (pick g true (pick h false false)) false)) false)
by-three true d e f g h = refl
by-three false false e f g h = refl
by-three false true true f g h = refl
by-three false true false false g h = refl
by-three false true false true true h = refl
by-three false true false true false true = refl
by-three false true false true false false = refl

pub before-three : (x y z a b c : ℕ)
    → is_some_and is_lt (partial_ordering_then (partial_ordering_then (Some (nat_cmp x a)) (Some (nat_cmp y b))) (Some (nat_cmp z c)))
    ≡ before (x ∷ y ∷ z ∷ []) (a ∷ b ∷ c ∷ [])
unfolding before
before-three x y z a b c = by-three (ltb x a) (eqb x a) (ltb y b) (eqb y b) (ltb z c) (eqb z c)

-- one number stands to another in one of three ways
pub data Three (x y : ℕ) : Type 0 where
  lower : x < y → Three x y
  level : x ≡ y → Three x y
  higher : y < x → Three x y

pub three : (x y : ℕ) → Three x y
three x y = by (ltb x y) refl (ltb y x) refl
  where
    by : (s : Bool) → ltb x y ≡ s → (t : Bool) → ltb y x ≡ t → Three x y
    by true e t f = lower (ltb-true x y e)
    by false e true f = higher (ltb-true y x f)
    by false e false f = let p = ltb-false x y e in let q = ltb-false y x f in level (omega arith)

-- no name stands before itself
pub before_self : (xs : List ℕ) → before xs xs ≡ false
before_self [] = before-none []
before_self (x ∷ xs) = before_same x x xs xs refl ∙ before_self xs

pub not-before : (xs ys : List ℕ) → xs ≡ ys → before xs ys ≡ true → ⊥
not-before xs ys e p = clash-of (sym p ∙ ap (λ l. before l ys) e ∙ before_self ys)

-- before what stands before a third is before the third
pub before-trans : (xs ys zs : List ℕ) → before xs ys ≡ true → before ys zs ≡ true → before xs zs ≡ true
before-trans xs [] zs p q = clash-of (sym p ∙ before-none xs)
before-trans xs (y ∷ ys) [] p q = clash-of (sym q ∙ before-none (y ∷ ys))
before-trans [] (y ∷ ys) (z ∷ zs) p q = before-first z zs
before-trans (x ∷ xs) (y ∷ ys) (z ∷ zs) p q = by (three x y) (three y z) (before-trans xs ys zs)
  where
    by : Three x y → Three y z → (before xs ys ≡ true → before ys zs ≡ true → before xs zs ≡ true) → before (x ∷ xs) (z ∷ zs) ≡ true
    by (higher a) b k = clash-of (sym p ∙ before_more x y xs ys a)
    by (lower a) (higher b) k = clash-of (sym q ∙ before_more y z ys zs b)
    by (level a) (higher b) k = clash-of (sym q ∙ before_more y z ys zs b)
    by (lower a) (lower b) k = before-less x z xs zs (omega arith)
    by (lower a) (level b) k = before-less x z xs zs (omega arith)
    by (level a) (lower b) k = before-less x z xs zs (omega arith)
    by (level a) (level b) k = before_same x z xs zs (a ∙ b) ∙ k (sym (before_same x y xs ys a) ∙ p) (sym (before_same y z ys zs b) ∙ q)

-- of two names one stands before the other, or they are the same
pub data Stand (xs ys : List ℕ) : Type 0 where
  stand_before : before xs ys ≡ true → Stand xs ys
  stand_same : xs ≡ ys → Stand xs ys
  stand_after : before ys xs ≡ true → Stand xs ys

pub stand : (xs ys : List ℕ) → Stand xs ys
stand [] [] = stand_same refl
stand [] (y ∷ ys) = stand_before (before-first y ys)
stand (x ∷ xs) [] = stand_after (before-first x xs)
stand (x ∷ xs) (y ∷ ys) = by (three x y) (stand xs ys)
  where
    by : Three x y → Stand xs ys → Stand (x ∷ xs) (y ∷ ys)
    by (lower a) s = stand_before (before-less x y xs ys a)
    by (higher a) s = stand_after (before-less y x ys xs a)
    by (level a) (stand_before e) = stand_before (before_same x y xs ys a ∙ e)
    by (level a) (stand_after e) = stand_after (before_same y x ys xs (sym a) ∙ e)
    by (level a) (stand_same e) = stand_same (λ i. a i ∷ e i)

-- a name that does not stand before another one, and is not it, stands behind it
pub other_way : (xs ys : List ℕ) → before xs ys ≡ false → xs ≢ ys → before ys xs ≡ true
other_way xs ys p n = by (stand xs ys)
  where
    by : Stand xs ys → before ys xs ≡ true
    by (stand_before e) = clash-of (sym e ∙ p)
    by (stand_same e) = absurd (n e)
    by (stand_after e) = e
