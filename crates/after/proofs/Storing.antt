-- The store of motifs where a session begins; and a name that a motif begins with is bytes, as a part of the job.
-- Assumes nothing.
use Prim.Native.Nat.{ℕ, zero, suc, ◌+◌, ◌<◌}
use mathlib.Core.Path.{◌≡◌, refl}
use mathlib.Core.List.{List, [], ◌∷◌}
use native.Mathlib.Omega.{arith}
use lib.ListN.{length, get_or, take, drop}
use lib.Seq.{get_or-drop}
use Rattle.scope.specs.Setting.{Setting}
use Rattle.scope.specs.Motif.{Motif, held_as, bytes_held}
use Rattle.scope.specs.Sound.{sound_none}
use Rattle.motif.specs.Held.{InRow, store_of}
use Rattle.motif.specs.Stored.{Stored}
use Rattle.motif.proofs.Rowed.{none_is, keeps-none}
use Rattle.pattern_rows.specs.Numbers.{Quiet}
use Rattle.patterns.specs.Selects.{Selects}

-- no motif is held
no_row : {A : Type 0} {i : ℕ} {m : Motif} → InRow [] i m → A
unfolding held_as
no_row r = none_is r.held

pub stored-none : (set : Setting) (work t : List ℕ) → length t ≡ 704 → Stored set work t (record { held = 0; used = 0 }) []
unfolding bytes_held store_of
stored-none set work t l =
    record {
      tables =
          record {
            keeps = keeps-none t l;
            noted = record { whom = λ i j m r h. no_row r; lacks = λ i m r. no_row r };
            settled = record { level = λ i m r. no_row r; summed = λ i m r. no_row r };
          };
      used = refl;
      stores = record { within = omega arith; bytes = refl };
      sound = sound_none;
    }

-- so nothing is to be known of what they select
pub selects-none : {p : List ℕ} → Quiet p → Selects p []
selects-none q = record { at = λ i m r. no_row r; quiet = q; known = λ i m r k. no_row r }

take-byte : (n : ℕ) (s : List ℕ) → ((i : ℕ) → get_or s i 0 < 256) → (i : ℕ) → get_or (take n s) i 0 < 256
take-byte zero s f i = omega arith
take-byte (suc n) [] f i = omega arith
take-byte (suc n) (x ∷ s) f zero = f 0
take-byte (suc n) (x ∷ s) f (suc i) = take-byte n s (λ j. f (suc j)) i

-- the bytes of a part of a job are bytes
pub part_bytes : (s : List ℕ) (first count : ℕ) → ((i : ℕ) → get_or s i 0 < 256) → (i : ℕ) → get_or (take count (drop first s)) i 0 < 256
part_bytes s first count f = take-byte count (drop first s) (λ i. rw (get_or-drop first s i 0) (f (first + i)))
