-- A real of four bytes by its higher half, where all of its exponent bits stand.
-- Assumes nothing.
use Prim.Native.Nat.{ℕ, ◌+◌, ◌*◌, ◌/◌, ◌%◌, ◌<◌}
use mathlib.Core.Path.{◌≡◌, refl, ◌∙◌}
use mathlib.Core.Bool.{Bool, true, false}
use mathlib.Core.List.{List}
use native.Mathlib.Omega.{arith}
use lib.ListN.{get_or}
use Rattle.scope.specs.Choice.{pick}
use Rattle.scope.specs.Number.{number}
use Rattle.number.proofs.Digits.{halves, one-digit}

-- the exponent of a real by its higher half
pub exponent : (half low : ℕ) → low < 65536 → (half * 65536 + low) % 2147483648 / 8388608 ≡ half % 32768 / 128
exponent half low h = omega arith

-- a number of two bytes, and of four, by its bytes
two_bytes : (high : Bool) (s : List ℕ) (p : ℕ) → number high 2 s p ≡ pick high (get_or s p 0 * 256 + get_or s (p + 1) 0) (get_or s (p + 1) 0 * 256 + get_or s p 0)
two_bytes high s p = halves high 1 s p ∙ rw (one-digit high s p, one-digit high s (p + 1)) refl

pub four_bytes : (high : Bool) (s : List ℕ) (p : ℕ)
    → number high 4 s p
    ≡ pick high ((get_or s p 0 * 256 + get_or s (p + 1) 0) * 65536 + (get_or s (p + 2) 0 * 256 + get_or s (p + 3) 0))
    ((get_or s (p + 3) 0 * 256 + get_or s (p + 2) 0) * 65536 + (get_or s (p + 1) 0 * 256 + get_or s p 0))
four_bytes true s p = let e : p + 2 + 1 ≡ p + 3 = omega arith in halves true 2 s p ∙ rw (two_bytes true s p, two_bytes true s (p + 2), e) refl
four_bytes false s p = let e : p + 2 + 1 ≡ p + 3 = omega arith in halves false 2 s p ∙ rw (two_bytes false s p, two_bytes false s (p + 2), e) refl
