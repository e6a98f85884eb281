-- Reals by their bits: finite bits are a number's and come back from it.
-- Assumes nothing.
use Prim.Native.Nat.{ℕ, ◌/◌, ◌%◌, ◌<◌}
use mathlib.Core.Path.{◌≡◌, subst}
use mathlib.Core.Bool.{Bool, true, false, not, ◌&&◌, false≢true}
use lib.Dec.{T, eqb}
use lib.Ieee.{binary32, nan_bits, to_bits, of_bits, is_nan}
use lib.Ieee.Bits.{to_bits-of_bits, nan_bits_is}
use Rattle.scope.specs.Attributes.{finite}

no_nan : (e z : Bool) → not e ≡ true → T (not (e && z))
no_nan true z h = absurd (false≢true h)
no_nan false z h = tt

pub not-nan_bits : (b : ℕ) → finite b ≡ true → T (not (nan_bits binary32 b))
unfolding finite nan_bits
not-nan_bits b h = no_nan (eqb (b % 2147483648 / 8388608) 255) (not (eqb (b % 8388608) 0)) h

pub not-nan : (b : ℕ) → finite b ≡ true → T (not (is_nan (of_bits binary32 b)))
not-nan b h = subst (λ (z : Bool). T (not z)) (nan_bits_is binary32 b) (not-nan_bits b h)

-- bits kept exactly
pub bits_back : (b : ℕ) → b < 4294967296 → finite b ≡ true → to_bits binary32 (of_bits binary32 b) ≡ b
bits_back b l h = to_bits-of_bits binary32 b l (not-nan b h)
