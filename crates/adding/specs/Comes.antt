-- A motif that comes to be held, and the table once its row is written.
-- Assumes nothing.
use Rattle.std.specs.Prelude.{ℕ, suc, ◌≡◌, List, ◌∷◌, length, take, drop}
use Rattle.scope.specs.Setting.{Setting}
use Rattle.scope.specs.Motif.{Own, Motif, Judged, motif_of}
use Rattle.summary.specs.Sums.{bit_of}
use Rattle.key.specs.Keys.{IsName}
use Rattle.motif.specs.Held.{Rows, Keeps, level_in, calls_in, missing_in}
use Rattle.motif.specs.Tables.{Noted, Settled}
use Rattle.motif.specs.Stored.{Stored}
use Rattle.motif.specs.declared.kept.Kept.{Kept}
use Rattle.within.specs.Judging.{Makes}
use Rattle.within.specs.declared.inside.Made.{Made}

-- a valid motif of this name, whose bytes stand in the work buffer behind those held
pub record Comes (set : Setting) (work t : List ℕ) (kept : Kept) (joined : ℕ) (name : List ℕ) (ms : List Motif) (bytes : List ℕ) (ops : List Own) : Type 0 where
  pub stored : Stored set work t kept ms
  pub long : joined ≡ length bytes
  pub behind : take joined (drop kept.used work) ≡ bytes
  pub named : IsName name
  pub valid : motif_of set bytes ≡ Judged.valid ops

-- the motif under a new name
abbrev pub new_of : (name bytes : List ℕ) → List Own → List Motif → Motif
new_of name bytes ops ms = record { name = name; bytes = bytes; number = suc (length ms); ops = ops }

-- the row of one more motif is written and in the column, and it has no level yet; what the table says of the motifs before it is as it was
pub record Fresh (t : List ℕ) (n : ℕ) (made : Made) (m : Motif) (ms : List Motif) : Type 0 where
  pub rows : Rows t n ms
  pub noted : Noted t n ms
  pub settled : Settled t ms 32
  pub keeps : Keeps t (suc n) (m ∷ ms)
  pub makes : Makes t ms made m.ops
  pub level : level_in t n ≡ 0
  pub whom : calls_in t n ≡ made.calls
  pub lacks : missing_in t n ≡ bit_of made.missing
