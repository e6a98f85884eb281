-- What is read of a motif in the store: its own bytes, which are valid.
-- Assumes nothing.
use Prim.Native.Nat.{ℕ, ◌+◌, ◌≤◌}
use mathlib.Core.Path.{◌≡◌, refl, sym, ap, ◌∙◌}
use mathlib.Core.Bool.{Bool, true, false}
use mathlib.Core.List.{List}
use native.Mathlib.Omega.{arith}
use lib.ListN.{length, take, drop}
use Rattle.scope.specs.Choice.{same}
use Rattle.scope.specs.Setting.{Setting}
use Rattle.scope.specs.Motif.{Own, Motif, Held, held_as, valid, motif_of}
use Rattle.scope.specs.Sound.{Sound, sound_none, sound_more}
use Rattle.motif.specs.Held.{Keeps, InRow, start_in, long_in}
use Rattle.motif.proofs.Rowed.{is_same, none_is, held-here, held_on}
use Rattle.motif.proofs.Stored.{row-start, row-long, stored_at}
use Rattle.within.specs.Judging.{Makes, Judges, judges_valid}
use Rattle.within.specs.declared.inside.Made.{Made}
use Rattle.refusal.specs.declared.refusal.Refusal.{Refusal}
use Rattle.std.specs.Prelude.{Result, Ok, Err}
use Rattle.std.specs.Result.{result_unwrap_or}
use Rattle.settling.specs.Making.{InStore}

-- what is noted of a motif that is judged valid, which it is, whatever is noted of another
pub valid-makes : {t : List ℕ} {ms : List Motif} {ops : List Own} (j : Result Made Refusal) (other : Made) → Judges t ms j (valid ops) → Makes t ms (result_unwrap_or j other) ops
valid-makes (Ok made) other (judges_valid k) = k
valid-makes (Err r) other h = elim h [ ]

-- what is held is what its bytes say
pub sound-at : {set : Setting} {ms : List Motif} {m : Motif} (name : List ℕ) → Sound set ms → held_as name ms ≡ Held.is m → motif_of set m.bytes ≡ valid m.ops
unfolding held_as
sound-at name sound_none h = none_is h
sound-at {set} {m = m} name (sound_more {m = x} {ms = xs} e f k) h = by (same x.name name) refl (λ y. sound-at name k y)
  where
    by : (b : Bool) → same x.name name ≡ b → (held_as name xs ≡ Held.is m → motif_of set m.bytes ≡ valid m.ops) → motif_of set m.bytes ≡ valid m.ops
    by true b ih = rw (← is_same (sym (held-here x xs name b) ∙ h)) e
    by false b ih = ih (sym (held_on x xs name b) ∙ h)

module _ {t work : List ℕ} {n i : ℕ} {set : Setting} {ms : List Motif} {m : Motif} (keeps : Keeps t n ms) (lies : InStore set work ms) (r : InRow ms i m) where
  -- its bytes lie in the store, and are judged valid
  pub lies_within : start_in t i + long_in t i ≤ length work
  lies_within = omega (arith, row-start keeps.rows r, row-long keeps.rows r, lies.stores.within)

  pub reads-valid : motif_of set (take (long_in t i) (drop (start_in t i) work)) ≡ valid m.ops
  reads-valid =
      ap (motif_of set) (stored_at keeps.rows r work lies.stores.within lies.stores.bytes) ∙ sound-at m.name lies.sound r.held
