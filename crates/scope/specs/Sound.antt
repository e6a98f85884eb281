-- What is held is sound: each motif is what reading its bytes gives, and its number is its place.
-- Assumes nothing.
use Rattle.std.specs.Prelude.{suc, ◌≡◌, List, [], ◌∷◌, length}
use Rattle.scope.specs.Setting.{Setting}
use Rattle.scope.specs.Motif.{Motif, valid, motif_of}

-- what is held, in a job of this setting
pub data Sound (set : Setting) : List Motif → Type 0 where
  sound_none : Sound set []
  sound_more : {m : Motif} {ms : List Motif} → motif_of set m.bytes ≡ valid m.ops → m.number ≡ suc (length ms) → Sound set ms → Sound set (m ∷ ms)
