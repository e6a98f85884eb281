-- Things that are not equal, of which a proof by cases lets go; and bytes that are the same, which are equal.
-- Assumes nothing.
use Prim.Native.Nat.{ℕ}
use mathlib.Core.Path.{◌≡◌, refl, sym, ap, ◌∙◌, subst, subst⁻¹}
use mathlib.Core.Bool.{Bool, true, false}
use mathlib.Core.List.{List, [], ◌∷◌}
use native.Mathlib.Omega.{arith}
use borrow.Author.Tests.{eqb-true, eq-eqb}
use lib.Dec.{eqb}
use Rattle.scope.specs.Choice.{same}
use Rattle.scope.specs.Motif.{Own, Motif, Held, Judged, valid, faulty}
use Rattle.scope.specs.Judge.{Refusal}

pub clash-of : {A : Type 0} → ◌≡◌ {A = Bool} true false → A
clash-of e = absurd (let z : ◌≡◌ {A = ℕ} 0 1 = cc in omega arith)

-- a tag that may come is another than one that may not
pub differs : (f : ℕ → Bool) (tag k : ℕ) → f tag ≡ true → f k ≡ false → eqb tag k ≡ false
differs f tag k h n = go (eqb tag k) refl
  where
    go : (b : Bool) → eqb tag k ≡ b → b ≡ false
    go true e = clash-of (sym h ∙ ap f (eqb-true tag k e) ∙ n)
    go false e = refl

-- the same bytes are equal
pub same-eq : (a b : List ℕ) → same a b ≡ true → a ≡ b
unfolding same
same-eq [] [] e = refl
same-eq [] (y ∷ ys) e = clash-of (sym e)
same-eq (x ∷ xs) [] e = clash-of (sym e)
same-eq (x ∷ xs) (y ∷ ys) e = by (eqb x y) refl e (same-eq xs ys)
  where
    by : (b : Bool) → eqb x y ≡ b → elim b [ true ↦ same xs ys | false ↦ false ] ≡ true → (same xs ys ≡ true → xs ≡ ys) → x ∷ xs ≡ y ∷ ys
    by true f g k = λ i. eqb-true x y f i ∷ k g i
    by false f g k = clash-of (sym g)

-- and bytes are the same as themselves
pub same_refl : (a : List ℕ) → same a a ≡ true
unfolding same
same_refl [] = refl
same_refl (x ∷ xs) = ap (λ b. elim b [ true ↦ same xs xs | false ↦ false ]) (eq-eqb x x refl) ∙ same_refl xs

-- a refusal is not none
abbrev pub IsNone : Refusal → Type 0
IsNone Refusal.none = Unit {0}
IsNone (Refusal.refused code inner) = ⊥

pub is_none : {r : Refusal} → r ≡ Refusal.none → IsNone r
is_none e = subst⁻¹ IsNone e tt

-- a motif that is faulty is not valid
abbrev IsFaulty : Judged → Type 0
IsFaulty (valid ops) = ⊥
IsFaulty (faulty code inner) = Unit {0}

pub not_valid : {A : Type 0} {code inner : ℕ} {ops : List Own} → faulty code inner ≡ valid ops → A
not_valid e = absurd (subst IsFaulty e tt)

-- no motif is not one
abbrev NoMotif : Held → Type 0
NoMotif (Held.is m) = ⊥
NoMotif Held.none = Unit {0}

pub not-held_as : {A : Type 0} {m : Motif} → Held.none ≡ Held.is m → A
not-held_as e = absurd (subst NoMotif e tt)
