-- Numbers as the code reads them, against those of the definitions.
-- Assumes nothing.
use Rattle.std.specs.Prelude.{ℕ, ◌<◌, true, false, not, ◌&&◌, ◌≡◌, T}
use Rattle.std.specs.Float.{binary32}
use Rattle.std.specs.Float.Ieee.{to_bits, is_nan}
use Rattle.scope.specs.Attributes.{Two, wholes, reals, finite}
use Rattle.reals.specs.declared.reading.Numbers.{Numbers}
use Rattle.reals.specs.declared.reading.Numbers.TheVariants.{Whole, Real, Neither}

-- the code's answer to two numbers: whole ones are the same; a real has the bits that stood there; no real is made of bits that are infinite or no number
pub data Reads : Numbers → Two → Type 0 where
  reads_whole : {x y : ℕ} → Reads (Whole x y) (wholes x y)
  reads_real : {x y : ℕ} {a b : _} → to_bits binary32 a ≡ x → to_bits binary32 b ≡ y → finite x ≡ true → finite y ≡ true → Reads (Real a b) (reals x y)
  reads_neither : {x y : ℕ} → (finite x && finite y) ≡ false → Reads Neither (reals x y)

-- what holds of every answer: the first of whole numbers has at most two bytes, and a real is a number
abbrev pub Made : Numbers → Type 0
Made (Whole x y) = x < 65536
Made (Real a b) = T (not (is_nan a)) × T (not (is_nan b))
Made Neither = Unit {0}
