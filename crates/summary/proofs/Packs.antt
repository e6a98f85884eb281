-- A summary comes out of its number as it went in.
use Prim.Native.Nat.{ℕ, ◌+◌, ◌*◌, ◌/◌, ◌%◌, ◌<◌, ◌≤◌}
use native.Mathlib.Omega.{arith}
use mathlib.Core.Path.{◌≡◌}
use mathlib.Core.Bool.{Bool, true, false}
use mathlib.Core.List.{List}
use lib.Dec.{eqb}
use borrow.Author.Tests.{eq-eqb, ne_eqb}
use Rattle.scope.specs.Arm.{Stroke}
use Rattle.summary.specs.declared.summary.Ending.{Ending}
use Rattle.summary.specs.declared.summary.Summary.{Summary}
use Rattle.summary.specs.Sums.{bit_of, ending_bits, ending_of, summary_of, Sums, SumsAs}

bit_small : (b : Bool) → bit_of b ≤ 1
bit_small true = omega arith
bit_small false = omega arith

bit_read : (b : Bool) (n : ℕ) → n ≡ bit_of b → eqb n 1 ≡ b
bit_read true n e = eq-eqb n 1 e
bit_read false n e = ne_eqb n 1 (omega arith)

ending_small : (e : Ending) → ending_bits e ≤ 15
ending_small e =
    let c = bit_small e.cursor in
    let g = bit_small e.gray in
    let l = bit_small e.lost in
    let w = bit_small e.wrong in
    omega arith

low_bit : (m b k : ℕ) → b ≤ 1 → m ≡ b + k * 2 → m % 2 ≡ b
low_bit m b k h e = omega arith

ending_read : (e : Ending) (n : ℕ) → n ≡ ending_bits e → ending_of n ≡ e
unfolding ending_of
ending_read e n q =
    let c = bit_small e.cursor in
    let g = bit_small e.gray in
    let l = bit_small e.lost in
    let w = bit_small e.wrong in
    let h₀ : n ≡ bit_of e.cursor + (bit_of e.gray + bit_of e.lost * 2 + bit_of e.wrong * 4) * 2 = omega arith in
    let h₁ : n / 2 ≡ bit_of e.gray + (bit_of e.lost + bit_of e.wrong * 2) * 2 = omega arith in
    let h₂ : n / 4 ≡ bit_of e.lost + bit_of e.wrong * 2 = omega arith in
    let h₃ : n / 8 ≡ bit_of e.wrong + 0 * 2 = omega arith in
    let p₀ = low_bit n _ _ c h₀ in
    let p₁ = low_bit (n / 2) _ _ g h₁ in
    let p₂ = low_bit (n / 4) _ _ l h₂ in
    let p₃ = low_bit (n / 8) (bit_of e.wrong) 0 w h₃ in
    λ i. record {
      cursor = bit_read e.cursor (n % 2) p₀ i;
      gray = bit_read e.gray (n / 2 % 2) p₁ i;
      lost = bit_read e.lost (n / 4 % 2) p₂ i;
      wrong = bit_read e.wrong (n / 8 % 2) p₃ i;
    }

pub summary_read : (s : Summary) (n : ℕ) → s.count < 1_048_576 → s.most < 32
    → n ≡ s.count * 16384 + s.most % 32 * 512 + bit_of s.source * 256 + ending_bits s.a * 16 + ending_bits s.b → summary_of n ≡ s
unfolding summary_of
summary_read s n h k e =
    let t = bit_small s.source in
    let x = ending_small s.a in
    let y = ending_small s.b in
    let p₀ : n / 16384 % 1_048_576 ≡ s.count = omega arith in
    let p₁ : n / 512 % 32 ≡ s.most = omega arith in
    let p₂ : n / 256 % 2 ≡ bit_of s.source = omega arith in
    let p₃ : n / 16 % 16 ≡ ending_bits s.a = omega arith in
    let p₄ : n % 16 ≡ ending_bits s.b = omega arith in
    λ i. record {
      count = p₀ i;
      most = p₁ i;
      source = bit_read s.source (n / 256 % 2) p₂ i;
      a = ending_read s.a (n / 16 % 16) p₃ i;
      b = ending_read s.b (n % 16) p₄ i;
    }

pub packs : (s : Summary) (n : ℕ) (row : List Stroke)
    → n ≡ s.count * 16384 + s.most % 32 * 512 + bit_of s.source * 256 + ending_bits s.a * 16 + ending_bits s.b → Sums s row → SumsAs n row
unfolding SumsAs
packs s n row e h =
    let c : s.count < 1_048_576 = omega (arith, h.count) in
    let m : s.most < 32 = omega (arith, h.most) in
    rw (summary_read s n c m e) h
