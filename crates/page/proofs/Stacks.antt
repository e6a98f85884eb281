-- The saved states as bits of a number.
use Prim.Native.Nat.{ℕ, zero, suc, ◌+◌, ◌*◌, ◌/◌, ◌%◌, ◌^◌, ◌<◌, ◌≤◌}
use native.Mathlib.Omega.{arith}
use native.Mathlib.Numerals.{add-one}
use native.Mathlib.Nat.{pow-suc, mul_assoc, mul_comm}
use mathlib.Core.Path.{◌≡◌, refl, sym, ap, ◌∙◌}
use mathlib.Core.Bool.{Bool, true, false}
use mathlib.Core.List.{◌∷◌}
use lib.ListN.{length}
use lib.Dec.{eqb}
use borrow.Author.Tests.{eq-eqb, ne_eqb}
use Rattle.scope.specs.Arm as scope
use Rattle.page.specs.declared.page.Page.{Page}
use Rattle.page.specs.Views.{bits_of, stack, page_as}

-- two numbers that agree in the lowest state and above it hold the same states
one_more : (n y z : ℕ) → y % 2 ≡ z % 2 → y / 2 % 2 ≡ z / 2 % 2 → stack n (y / 4) ≡ stack n (z / 4) → stack (suc n) y ≡ stack (suc n) z
unfolding stack
one_more n y z p q r i = record { cursor = eqb (p i) 1; gray = eqb (q i) 1 } ∷ r i

-- what lies above the first k states changes none of them
stack_above : (n k x q : ℕ) → n ≤ k → stack n (x + 4 ^ k * q) ≡ stack n x
stack_above zero k x q h = unfold stack in refl
stack_above (suc n) zero x q h = absurd (omega arith)
stack_above (suc n) (suc k) x q h =
    let e : 4 ^ suc k * q ≡ 4 * (4 ^ k * q) = rw (pow-suc 4 k, mul_comm (4 ^ k) 4, mul_assoc 4 (4 ^ k) q) refl in
    let quarter : (x + 4 ^ suc k * q) / 4 ≡ x / 4 + 4 ^ k * q = omega arith in
    one_more n (x + 4 ^ suc k * q) x (omega arith) (omega arith) (ap (stack n) quarter ∙ stack_above n k (x / 4) q (omega arith))

stack-low : (n x : ℕ) → n < 24 → stack n (x % 70_368_744_177_664) ≡ stack n x
stack-low n x h =
    let e : x ≡ x % 70_368_744_177_664 + 4 ^ 23 * (x / 70_368_744_177_664) = omega arith in
    sym (ap (stack n) e ∙ stack_above n 23 (x % 70_368_744_177_664) (x / 70_368_744_177_664) (omega arith))

low-cursor : (x : ℕ) (c g : Bool) → eqb ((x * 4 + bits_of c g) % 2) 1 ≡ c
low-cursor x true true = eq-eqb ((x * 4 + 3) % 2) 1 (omega arith)
low-cursor x true false = eq-eqb ((x * 4 + 1) % 2) 1 (omega arith)
low-cursor x false true = ne_eqb ((x * 4 + 2) % 2) 1 (omega arith)
low-cursor x false false = ne_eqb ((x * 4 + 0) % 2) 1 (omega arith)

low-gray : (x : ℕ) (c g : Bool) → eqb ((x * 4 + bits_of c g) / 2 % 2) 1 ≡ g
low-gray x true true = eq-eqb ((x * 4 + 3) / 2 % 2) 1 (omega arith)
low-gray x true false = ne_eqb ((x * 4 + 1) / 2 % 2) 1 (omega arith)
low-gray x false true = eq-eqb ((x * 4 + 2) / 2 % 2) 1 (omega arith)
low-gray x false false = ne_eqb ((x * 4 + 0) / 2 % 2) 1 (omega arith)

pub bits_small : (c g : Bool) → bits_of c g ≤ 3
bits_small true true = omega arith
bits_small true false = omega arith
bits_small false true = omega arith
bits_small false false = omega arith

-- a state more, lowest
pub stack_push : (n x : ℕ) (c g : Bool) → n < 24 → stack (n + 1) (x % 70_368_744_177_664 * 4 + bits_of c g) ≡ record { cursor = c; gray = g } ∷ stack n x
unfolding stack
stack_push n x c g h =
    let y = x % 70_368_744_177_664 in
    let r : (y * 4 + bits_of c g) / 4 ≡ y = omega (arith, bits_small c g) in
    rw (add-one n) (λ i. record { cursor = low-cursor y c g i; gray = low-gray y c g i } ∷ (ap (stack n) r ∙ stack-low n x h) i)

pub stack-length : (n x : ℕ) → length (stack n x) ≡ n
unfolding stack
stack-length zero x = refl
stack-length (suc n) x = ap suc (stack-length n (x / 4))

-- the depth is the number of saved states
pub depth-saved : (p : Page) (q : scope.Page) → page_as p ≡ q → p.depth ≡ length q.saved
depth-saved p q e = sym (stack-length p.depth p.saved) ∙ ap (λ (x : scope.Page). length x.saved) e
