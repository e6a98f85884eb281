-- The rows of the table before START of each is made anew, and while it is.
-- Assumes nothing.
use Rattle.std.specs.Prelude.{ℕ, suc, ◌+◌, ◌*◌, ◌≤◌, ◌<◌, ◌≡◌, List, [], ◌∷◌, length, get_or}
use Rattle.scope.specs.Motif.{Motif, Held, held_as, bytes_held}
use Rattle.key.specs.Keys.{key_of, IsName}
use Rattle.motif.specs.Held.{Rows, key_in, long_in}

-- the first n rows keep n motifs, as Rows says, but for where their bytes begin
pub data Named (t : List ℕ) : ℕ → List Motif → Type 0 where
  named_none : Named t 0 []
  named_more : {n : ℕ} {m : Motif} {ms : List Motif} → key_in t n ≡ key_of m.name → IsName m.name → long_in t n ≡ length m.bytes → m.number ≡ suc n
      → held_as m.name ms ≡ Held.none → Named t n ms → Named t (suc n) (m ∷ ms)

-- of the first i rows START is made anew, and the next bytes begin behind theirs; all else is as it was
pub record Laid (before t : List ℕ) (i start : ℕ) : Type 0 where
  pub sized : length t ≡ length before
  pub beside : (k c : ℕ) → c < 10 → (c ≡ 3 → i ≤ k) → get_or t (k * 10 + c) 0 ≡ get_or before (k * 10 + c) 0
  pub rows : (ms : List Motif) → length before ≡ 704 → Named before i ms → bytes_held ms ≤ 16384 → Rows t i ms × (start ≡ bytes_held ms)
