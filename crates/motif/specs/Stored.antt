-- What a session keeps of its motifs, in the table and in the work buffer.
-- Assumes nothing.
use Rattle.std.specs.Prelude.{ℕ, ◌≤◌, ◌≡◌, Bool, not, ◌&&◌, List, length, take, leb}
use Rattle.scope.specs.Setting.{Setting}
use Rattle.scope.specs.Motif.{Motif, held_as, is_held, bytes_held}
use Rattle.scope.specs.Sound.{Sound}
use Rattle.motif.specs.Held.{store_of}
use Rattle.motif.specs.Tables.{Tables}
use Rattle.motif.specs.declared.kept.Kept.{Kept}

-- the store has the bytes of the motifs
pub record Stores (work : List ℕ) (ms : List Motif) : Type 0 where
  pub within : bytes_held ms ≤ length work
  pub bytes : take (bytes_held ms) work ≡ store_of ms

-- the table and the work buffer keep these motifs, in a job of this setting
pub record Stored (set : Setting) (work t : List ℕ) (kept : Kept) (ms : List Motif) : Type 0 where
  pub tables : Tables t kept.held ms
  pub used : kept.used ≡ bytes_held ms
  pub stores : Stores work ms
  pub sound : Sound set ms

-- there is no row for one more, and the name is new
unfoldable pub full : List Motif → (name : List ℕ) → Bool
full ms name = leb 64 (length ms) && not (is_held (held_as name ms))
