-- Before the first session no motif selects a pattern: every number of the patterns is 0.
-- Assumes nothing.
use Prim.Native.Nat.{ℕ, zero, suc, ◌*◌}
use mathlib.Core.Path.{◌≡◌, refl}
use lib.ListN.{get_or, replicate}
use Rattle.pattern_rows.specs.Numbers.{numbers_to, numbers_in, Quiet}

zeros : (n i : ℕ) → ◌≡◌ {A = ℕ} (get_or (replicate n 0) i 0) 0
zeros zero i = refl
zeros (suc n) zero = refl
zeros (suc n) (suc i) = zeros n i

pub quiet-zeros : (n : ℕ) → Quiet (replicate n 0)
unfolding numbers_in numbers_to
quiet-zeros n = record { none = λ e r l. rw (zeros n (r * 66)) refl }
