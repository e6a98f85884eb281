-- The part of the work buffer that is the motif being read, of a length that is told in two ways.
-- Assumes nothing.
use Prim.Native.Nat.{ℕ, ◌≤◌}
use mathlib.Core.Path.{◌≡◌, ap}
use mathlib.Core.List.{List}
use native.Mathlib.Omega.{arith}
use lib.ListN.{length, take, drop, length-take}

pub part_same : (w : List ℕ) (used : ℕ) {k joined : ℕ} → k ≡ joined → take k (drop used w) ≡ take joined (drop used w)
part_same w used e = ap (λ (n : ℕ). take n (drop used w)) e

pub part-short : (w : List ℕ) (used : ℕ) {k joined : ℕ} → k ≡ joined → joined ≤ 16384 → length (take k (drop used w)) ≤ 16384
part-short w used {k} {joined} e h = simp length-take (omega arith)
