-- Marks as the bits of a number: a power of two has one bit, and where it is laid over a number that bit is set and the others stay.
-- Assumes nothing.
use Prim.Native.Nat.{ℕ, zero, suc, ◌+◌, ◌-◌, ◌*◌, ◌/◌, ◌%◌, ◌^◌, ◌<◌}
use mathlib.Core.Path.{◌≡◌, refl, ap, ◌∙◌}
use mathlib.Core.Bool.{Bool, true, false}
use native.Mathlib.Nat.{div_self, div-eq_of_lt, pow-suc, mul-mod_left, mod-lt}
use native.Mathlib.Omega.{arith}
use lib.Bits.{bit_or, or_shr, or_mod, or_zero_r}
use lib.Dec.{eqb, ltb}
use lib.Pow.{pow_pos, pow-lt, pow-add, shl-shr, shl_exact}
use borrow.Author.Tests.{eqb-true, eqb-false, ltb-true, ltb-false}
use Rattle.scope.specs.Choice.{pick}
use Rattle.key.specs.Mark.{mark}

-- bit k of 2 ^ j
bit_same : (j : ℕ) → 2 ^ j / 2 ^ j % 2 ≡ 1
bit_same j = ap (λ x. x % 2) (div_self (pow_pos j))

bit_above : (j k : ℕ) → j < k → 2 ^ j / 2 ^ k % 2 ≡ 0
bit_above j k h = ap (λ x. x % 2) (div-eq_of_lt (pow-lt h))

bit_below : (d k : ℕ) → 2 ^ (suc d + k) / 2 ^ k % 2 ≡ 0
bit_below d k = rw (pow-add 2 (suc d) k, shl-shr (2 ^ suc d) k, pow-suc 2 d) (mul-mod_left (2 ^ d) 2)

bit_other : (j k : ℕ) → eqb j k ≡ false → 2 ^ j / 2 ^ k % 2 ≡ 0
bit_other j k h = by (ltb j k) refl
  where
    by : (t : Bool) → ltb j k ≡ t → 2 ^ j / 2 ^ k % 2 ≡ 0
    by true t = bit_above j k (ltb-true j k t)
    by false t =
        let e : suc (j - k - 1) + k ≡ j = omega (arith, ltb-false j k t, eqb-false j k h) in
        rw e at (bit_below (j - k - 1) k)

or_one : (x : ℕ) → x < 2 → bit_or x 1 ≡ 1
or_one zero h = refl
or_one (suc zero) h = refl
or_one (suc (suc x)) h = absurd (omega arith)

-- bit k of two numbers laid over each other
bit_or_lem : (a b k : ℕ) → bit_or a b / 2 ^ k % 2 ≡ bit_or (a / 2 ^ k % 2) (b / 2 ^ k % 2)
bit_or_lem a b k = ap (λ x. x % 2) (or_shr a b k) ∙ or_mod (a / 2 ^ k) (b / 2 ^ k) 1

-- a number with bit j set
pub mark_set : (a j k : ℕ) → mark (bit_or a (2 ^ j)) k ≡ pick (eqb j k) true (mark a k)
unfolding mark
mark_set a j k = ap (λ x. eqb x 1) (bit_or_lem a (2 ^ j) k) ∙ by (eqb j k) refl
  where
    by : (t : Bool) → eqb j k ≡ t → eqb (bit_or (a / 2 ^ k % 2) (2 ^ j / 2 ^ k % 2)) 1 ≡ pick t true (eqb (a / 2 ^ k % 2) 1)
    by true t =
        let e : 2 ^ j / 2 ^ k % 2 ≡ 1 = rw (eqb-true j k t) (bit_same k) in
        let l : a / 2 ^ k % 2 < 2 = mod-lt (a / 2 ^ k) (omega arith) in
        rw (e, or_one (a / 2 ^ k % 2) l)
    by false t = rw (bit_other j k t, or_zero_r (a / 2 ^ k % 2))

-- the code's 1 << j
pub one_at : (j : ℕ) → j < 64 → (1 * 2 ^ j) % 18446744073709551616 ≡ 2 ^ j
one_at j h = let e : 1 * 2 ^ j ≡ 2 ^ j = omega arith in shl_exact {a = 1} 1 j 64 (omega arith) (omega arith) ∙ e
