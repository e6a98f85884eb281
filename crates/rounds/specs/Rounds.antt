-- What the rounds compute.
-- Assumes nothing.
use Rattle.std.specs.Prelude.{ℕ, zero, suc, ◌≡◌, Bool, true, false, List, eqb, ltb, leb}
use Rattle.scope.specs.Choice.{pick}
use Rattle.scope.specs.Motif.{Motif}
use Rattle.key.specs.Mark.{mark}
use Rattle.motif.specs.Held.{InRow, level_in, calls_in, missing_in}
use Rattle.motif.specs.Tables.{level_of}

-- not called, or with a level from 1 to below t
unfoldable pub earlier_of : (called : Bool) → (level t : ℕ) → Bool
earlier_of called level t = pick called (pick (eqb level 0) false (ltb level t)) true

-- of the first n motifs each that motif i calls has a level from 1 to below t
unfoldable pub ready_of : (table : List ℕ) → (n i t : ℕ) → Bool
ready_of table zero i t = true
ready_of table (suc j) i t = pick (earlier_of (mark (calls_in table i) j) (level_in table j) t) (ready_of table j i t) false

-- motif i's level after round t
unfoldable pub next_of : (table : List ℕ) → (n i t : ℕ) → ℕ
next_of table n i t =
    pick (leb 64 i) 0
    (pick (eqb (level_in table i) 0) (pick (eqb (missing_in table i) 0) (pick (ready_of table n i t) t 0) 0) (level_in table i))

-- every motif but that of row i has its level
pub record LevelsBut (table : List ℕ) (ms : List Motif) (i : ℕ) : Type 0 where
  pub others : (k : ℕ) (m : Motif) → InRow ms k m → (k ≡ i → ⊥) → level_in table k ≡ level_of ms 32 m.name
