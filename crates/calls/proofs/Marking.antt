-- Laws of marks: a number that is not 0 has one; what two numbers have in common; marks added row by row.
-- Assumes nothing.
use Prim.Native.Nat.{ℕ, zero, suc, ◌+◌, ◌/◌, ◌%◌, ◌^◌, ◌≤◌, ◌<◌, min}
use mathlib.Core.Path.{◌≡◌, refl, sym, ap, ◌∙◌}
use mathlib.Core.Bool.{Bool, true, false, not}
use native.Mathlib.Omega.{arith}
use native.Mathlib.Nat.{zero-div, div-one, div-div-eq-div-mul, pow-succ'}
use lib.Dec.{eqb, ltb}
use lib.Bits.{bit_and, and_shr, and_step}
use borrow.Author.Tests.{eqb-true, eqb-false, eq-eqb, ne_eqb, lt-ltb, le-ltb, ltb-true}
use Rattle.scope.specs.Choice.{pick}
use Rattle.scope.proofs.Apart.{clash-of}
use Rattle.key.specs.Mark.{mark}
use Rattle.calls.specs.Marks.{Adds}

-- two tests that are true together are the same
pub alike : (a b : Bool) → (a ≡ true → b ≡ true) → (b ≡ true → a ≡ true) → a ≡ b
alike true b f g = sym (f refl)
alike false true f g = g refl
alike false false f g = refl

-- 0 has no mark
pub mark-none : (k : ℕ) → mark 0 k ≡ false
unfolding mark
mark-none k = rw (zero-div (2 ^ k))

-- any other number has one
mark-low : (x : ℕ) → x % 2 ≡ 1 → mark x 0 ≡ true
unfolding mark
mark-low x e = rw (div-one x) (eq-eqb (x % 2) 1 e)

mark-half : (x k : ℕ) → mark (x / 2) k ≡ mark x (suc k)
unfolding mark
mark-half x k = rw (div-div-eq-div-mul x 2 (2 ^ k), ← pow-succ' 2 k)

some-within : (f x : ℕ) → x ≤ f → 0 < x → (k : ℕ) × (mark x k ≡ true)
some-within zero x l h = absurd (omega arith)
some-within (suc f) x l h = by (eqb (x % 2) 1) refl (λ a b. some-within f (x / 2) a b)
  where
    by : (b : Bool) → eqb (x % 2) 1 ≡ b → (x / 2 ≤ f → 0 < x / 2 → (k : ℕ) × (mark (x / 2) k ≡ true)) → (k : ℕ) × (mark x k ≡ true)
    by true e ih = (0, mark-low x (eqb-true (x % 2) 1 e))
    by false e ih =
        let n : x % 2 ≡ 1 → ⊥ = eqb-false (x % 2) 1 e in
        let r = ih (omega arith) (omega arith) in
        (suc r.0, sym (mark-half x r.0) ∙ r.1)

pub some-mark : (x : ℕ) → not (eqb x 0) ≡ true → (k : ℕ) × (mark x k ≡ true)
some-mark x e = some-within x x (omega arith) (by (eqb x 0) refl e)
  where
    by : (b : Bool) → eqb x 0 ≡ b → not b ≡ true → 0 < x
    by true e f = clash-of (sym f)
    by false e f = let n : x ≡ 0 → ⊥ = eqb-false x 0 e in omega arith

pub mark-some : (x k : ℕ) → mark x k ≡ true → not (eqb x 0) ≡ true
mark-some x k e = by (eqb x 0) refl
  where
    by : (b : Bool) → eqb x 0 ≡ b → not b ≡ true
    by true f = clash-of (sym e ∙ ap (λ y. mark y k) (eqb-true x 0 f) ∙ mark-none k)
    by false f = refl

-- the marks that two numbers have in common
both_one : (p q : ℕ) → p < 2 → q < 2 → eqb (min p q) 1 ≡ pick (eqb p 1) (eqb q 1) false
both_one p q a b = by (eqb p 1) refl (eqb q 1) refl
  where
    by : (c : Bool) → eqb p 1 ≡ c → (d : Bool) → eqb q 1 ≡ d → eqb (min p q) 1 ≡ pick c d false
    by true e true f =
        let x : p ≡ 1 = eqb-true p 1 e in
        let y : q ≡ 1 = eqb-true q 1 f in
        eq-eqb (min p q) 1 (omega arith)
    by true e false f =
        let y : q ≡ 1 → ⊥ = eqb-false q 1 f in
        ne_eqb (min p q) 1 (λ z. omega arith)
    by false e d f =
        let x : p ≡ 1 → ⊥ = eqb-false p 1 e in
        ne_eqb (min p q) 1 (λ z. omega arith)

pub and_mark : (a b k : ℕ) → mark (bit_and a b) k ≡ pick (mark a k) (mark b k) false
unfolding mark
and_mark a b k =
    let x : ℕ = a / 2 ^ k in
    let y : ℕ = b / 2 ^ k in
    let h : x % 2 < 2 = omega arith in
    let l : y % 2 < 2 = omega arith in
    let e : bit_and x y % 2 ≡ min (x % 2) (y % 2) = omega (arith, and_step x y) in
    ap (λ z. eqb (z % 2) 1) (and_shr a b k) ∙ ap (λ z. eqb z 1) e ∙ both_one (x % 2) (y % 2) h l

-- marks of rows, added one by one
pub adds_none : (own : ℕ) (f : ℕ → Bool) → Adds own f 0 own
adds_none own f = record { at = λ k. by (mark own k) k }
  where
    by : (b : Bool) (k : ℕ) → b ≡ pick b true (pick (ltb k 0) (f k) false)
    by true k = refl
    by false k = rw (le-ltb k 0 (omega arith))

pub adds_more : (own : ℕ) (f : ℕ → Bool) (i out r : ℕ) (new : Bool) → new ≡ f i → Adds own f i out
    → ((k : ℕ) → mark r k ≡ pick (eqb i k) (pick new true (mark out k)) (mark out k)) → Adds own f (i + 1) r
adds_more own f i out r new y s g = record { at = λ k. by k (eqb i k) refl (mark own k) refl }
  where
    by : (k : ℕ) (b : Bool) → eqb i k ≡ b → (c : Bool) → mark own k ≡ c → mark r k ≡ pick c true (pick (ltb k (i + 1)) (f k) false)
    by k true e true o =
        let z : i ≡ k = eqb-true i k e in
        g k ∙ rw (e, s.at k, o) (same new)
      where
        same : (c : Bool) → pick c true true ≡ true
        same true = refl
        same false = refl
    by k true e false o =
        let z : i ≡ k = eqb-true i k e in
        g k ∙ rw (e, s.at k, o, le-ltb k i (omega arith), lt-ltb k (i + 1) (omega arith), y, z) (same (f k))
      where
        same : (c : Bool) → pick c true false ≡ c
        same true = refl
        same false = refl
    by k false e c o = g k ∙ rw (e, s.at k, o) (ap (λ b. pick c true (pick b (f k) false)) (alike (ltb k i) (ltb k (i + 1)) up down))
      where
        up : ltb k i ≡ true → ltb k (i + 1) ≡ true
        up t = lt-ltb k (i + 1) (let w : k < i = ltb-true k i t in omega arith)

        down : ltb k (i + 1) ≡ true → ltb k i ≡ true
        down t = lt-ltb k i (let w : k < i + 1 = ltb-true k (i + 1) t in let n : i ≡ k → ⊥ = eqb-false i k e in omega arith)

pub adds-no : (own : ℕ) (f : ℕ → Bool) (i out : ℕ) → f i ≡ false → Adds own f i out → Adds own f (i + 1) out
adds-no own f i out e s = adds_more own f i out out false (sym e) s (λ k. by (eqb i k) (mark out k))
  where
    by : (b c : Bool) → c ≡ pick b (pick false true c) c
    by true c = refl
    by false c = refl
