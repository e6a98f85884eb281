-- Numbers by their digits: zeros make 0, one byte is itself, and a number of twice as many bytes is two numbers.
-- Assumes nothing.
use Prim.Native.Nat.{ℕ, zero, suc, ◌+◌, ◌-◌, ◌*◌, ◌^◌, ◌≤◌, ◌<◌}
use mathlib.Core.Bool.{Bool, true, false}
use mathlib.Core.List.{List}
use mathlib.Core.Path.{◌≡◌, refl, ap, ap₂, ◌∙◌}
use native.Mathlib.Nat.{pow-suc, mul_assoc}
use native.Mathlib.Omega.{arith}
use lib.ListN.{length, get_or, get_or-eq_default}
use Rattle.scope.specs.Choice.{pick}
use Rattle.scope.specs.Number.{digits, place, number}

pub zeros : (d : ℕ → ℕ) → ((j : ℕ) → d j ≡ 0) → (k : ℕ) → digits d k ≡ 0
unfolding digits
zeros d h zero = refl
zeros d h (suc k) = rw (zeros d h k, h k)

from : (high : Bool) (w at j : ℕ) → at ≤ place high w at j
from true w at j = omega arith
from false w at j = omega arith

-- past the end every number is 0
pub past : (high : Bool) (w : ℕ) (s : List ℕ) (at : ℕ) → length s ≤ at → number high w s at ≡ 0
unfolding number
past high w s at h =
    zeros (λ k. get_or s (place high w at k) 0)
    (λ k. let p = from high w at k in let l : length s ≤ place high w at k = omega arith in get_or-eq_default s 0 l) w

-- digits one after the other, and digits that are the same
digits_more : (d : ℕ → ℕ) (w k : ℕ) → digits d (w + k) ≡ digits d w * 256 ^ k + digits (λ j. d (w + j)) k
unfolding digits
digits_more d w zero = let e : w + 0 ≡ w = omega arith in rw e (omega arith)
digits_more d w (suc k) =
    let e : w + suc k ≡ suc (w + k) = omega arith in
    rw (e, digits_more d w k, pow-suc 256 k, ← mul_assoc (digits d w) (256 ^ k) 256) (omega arith)

digits_same : (d e : ℕ → ℕ) (w : ℕ) → ((k : ℕ) → k < w → d k ≡ e k) → digits d w ≡ digits e w
unfolding digits
digits_same d e zero h = refl
digits_same d e (suc w) h = rw (digits_same d e w (λ k l. h k (omega arith)), h w (omega arith))

-- the one fact over width and byte order: a number of twice as many bytes is two numbers, the higher one first or last
pub halves : (high : Bool) (w : ℕ) (s : List ℕ) (at : ℕ)
    → number high (w + w) s at
    ≡ pick high (number high w s at * 256 ^ w + number high w s (at + w)) (number high w s (at + w) * 256 ^ w + number high w s at)
unfolding number
halves true w s at =
    digits_more (λ k. get_or s (at + k) 0) w w
    ∙ ap (λ (x : ℕ). digits (λ k. get_or s (at + k) 0) w * 256 ^ w + x)
    (digits_same (λ k. get_or s (at + (w + k)) 0) (λ k. get_or s (at + w + k) 0) w (λ k h. ap (λ i. get_or s i 0) (let e : at + (w + k) ≡ at + w + k = omega arith in e)))
halves false w s at =
    digits_more (λ k. get_or s (at + (w + w - 1 - k)) 0) w w
    ∙ ap₂ (λ (x y : ℕ). x * 256 ^ w + y)
    (digits_same (λ k. get_or s (at + (w + w - 1 - k)) 0) (λ k. get_or s (at + w + (w - 1 - k)) 0) w
    (λ k h. ap (λ i. get_or s i 0) (let e : at + (w + w - 1 - k) ≡ at + w + (w - 1 - k) = omega arith in e)))
    (digits_same (λ k. get_or s (at + (w + w - 1 - (w + k))) 0) (λ k. get_or s (at + (w - 1 - k)) 0) w
    (λ k h. ap (λ i. get_or s i 0) (let e : at + (w + w - 1 - (w + k)) ≡ at + (w - 1 - k) = omega arith in e)))

-- and of one byte it is the byte
pub one-digit : (high : Bool) (s : List ℕ) (at : ℕ) → number high 1 s at ≡ get_or s at 0
unfolding number digits
one-digit true s at = let e : at + 0 ≡ at = omega arith in rw e (omega arith)
one-digit false s at = let e : at + 0 ≡ at = omega arith in rw e (omega arith)

-- so of two bytes and of four each byte has its weight
two-bytes : (high : Bool) (s : List ℕ) (at : ℕ)
    → number high 2 s at ≡ pick high (get_or s at 0 * 256 + get_or s (at + 1) 0) (get_or s (at + 1) 0 * 256 + get_or s at 0)
two-bytes high s at = halves high 1 s at ∙ rw (one-digit high s at, one-digit high s (at + 1)) refl

pub two-high : (s : List ℕ) (at : ℕ) → number true 2 s at ≡ get_or s at 0 * 256 + get_or s (at + 1) 0
two-high s at = two-bytes true s at

pub two-low : (s : List ℕ) (at : ℕ) → number false 2 s at ≡ get_or s at 0 + get_or s (at + 1) 0 * 256
two-low s at = two-bytes false s at ∙ omega arith

pub four-high : (s : List ℕ) (at : ℕ)
    → number true 4 s at ≡ get_or s at 0 * 16_777_216 + get_or s (at + 1) 0 * 65_536 + get_or s (at + 2) 0 * 256 + get_or s (at + 3) 0
four-high s at = let e : at + 2 + 1 ≡ at + 3 = omega arith in halves true 2 s at ∙ rw (two-high s at, two-high s (at + 2), e) (omega arith)

pub four-low : (s : List ℕ) (at : ℕ)
    → number false 4 s at ≡ get_or s at 0 + get_or s (at + 1) 0 * 256 + get_or s (at + 2) 0 * 65_536 + get_or s (at + 3) 0 * 16_777_216
four-low s at = let e : at + 2 + 1 ≡ at + 3 = omega arith in halves false 2 s at ∙ rw (two-low s at, two-low s (at + 2), e) (omega arith)
