-- Stores into the table: a number that is stored is there, and all others are as they were.
-- Assumes nothing.
use Prim.Native.Nat.{ℕ, ◌+◌, ◌*◌, ◌<◌}
use mathlib.Core.Logic.{◌≢◌}
use mathlib.Core.Path.{◌≡◌}
use mathlib.Core.List.{List}
use native.Mathlib.Omega.{arith}
use lib.ListN.{length, set}
use lib.Seq.{get_or-set_same, get_or-set_other}
use Rattle.motif.specs.Held.{cell}

module _ (t : List ℕ) (i k v : ℕ) where
  -- the number that was stored
  pub cell-there : length t ≡ 704 → i < 64 → k < 10 → cell (set t (i * 10 + k) v) i k ≡ v
  cell-there l h w = let z : i * 10 + k < length t = omega arith in get_or-set_same t (i * 10 + k) v 0 z

  -- a number of another row, or of another column
  pub cell_row : (j c : ℕ) → (j ≡ i → ⊥) → k < 10 → c < 10 → cell (set t (i * 10 + k) v) j c ≡ cell t j c
  cell_row j c h a b = let z : j * 10 + c ≢ i * 10 + k = λ y. omega arith in get_or-set_other t (i * 10 + k) (j * 10 + c) v 0 z

  pub cell-column : (j c : ℕ) → (c ≡ k → ⊥) → k < 10 → c < 10 → cell (set t (i * 10 + k) v) j c ≡ cell t j c
  cell-column j c h a b = let z : j * 10 + c ≢ i * 10 + k = λ y. omega arith in get_or-set_other t (i * 10 + k) (j * 10 + c) v 0 z
