-- Where none of the rules of motifs is broken the others decide; and whether there is a row for one motif more.
-- Assumes nothing.
use Rattle.std.specs.Prelude.{Ok}
use Prim.Native.Nat.{ℕ, ◌≤◌, ◌<◌}
use mathlib.Core.Path.{◌≡◌, refl, ap, ◌∙◌}
use mathlib.Core.Bool.{Bool, true, false, ◌&&◌, ◌||◌}
use mathlib.Core.List.{List}
use lib.ListN.{length}
use lib.Dec.{leb}
use borrow.Author.Tests.{le-leb, lt-leb}
use Rattle.scope.specs.Motif as scope_motif
use Rattle.scope.specs.Motif.{Motif, held_as, is_held}
use Rattle.scope.specs.Choice.{pick}
use Rattle.scope.specs.Calls.{Met, nothing}
use Rattle.scope.specs.Judge.{Case, Rule, Refusal, refused, outer, first_broken, name_missing, calls_itself, too_deep, early}
use Rattle.motif.specs.Stored.{full}
use Rattle.scope.specs.Verdict.{every}
use Rattle.early.specs.Earlier.{before, Unbroken, Earlies, early_fine, early_call, early_held}
use Rattle.early.specs.declared.early.Early.{Early}

-- where a call meets nothing, the three rules of calls are not broken
quiet : (c : Case) → c.met ≡ nothing → (r : Refusal)
    → pick (name_missing c) (refused 21 outer) (pick (calls_itself c) (refused 32 outer) (pick (too_deep c) (refused 22 outer) r)) ≡ r
unfolding name_missing calls_itself too_deep
quiet c e r = ap (λ (m : Met). pick m.missing (refused 21 outer) (pick m.again (refused 32 outer) (pick m.deep (refused 22 outer) r))) e

-- where none of these rules is broken, the first broken is the first of the others
pub unbroken_first : {c : Case} → Unbroken c → (rest : List Rule) → first_broken every c (before rest) ≡ first_broken every c rest
unfolding first_broken early name_missing calls_itself too_deep
unbroken_first {c = c} u rest = rw (u.room, u.place) (u.sound _ ∙ quiet c u.met _)

-- what passes is not broken
pub passes-unbroken : {t p : List ℕ} {c : Case} {e : Early} → Earlies t p c (Ok e) → Unbroken c
passes-unbroken (early_fine a b u) = u
passes-unbroken (early_call a b d u) = u
passes-unbroken (early_held a m k n u) = u

pub first-not : (t : Bool) → t || false ≡ false → t ≡ false
first-not true e = e
first-not false e = refl

-- there is a row for one more, the name is held, or neither
pub few-full : (ms : List Motif) (name : List ℕ) → length ms < 64 → full ms name ≡ false
unfolding full
few-full ms name h = rw (lt-leb 64 (length ms) h)

pub held-full : (ms : List Motif) (name : List ℕ) {m : Motif} → held_as name ms ≡ scope_motif.Held.is m → full ms name ≡ false
unfolding full is_held
held-full ms name e = rw e (last (leb 64 (length ms)))
  where
    last : (b : Bool) → b && false ≡ false
    last true = refl
    last false = refl

pub new-full : (ms : List Motif) (name : List ℕ) → 64 ≤ length ms → held_as name ms ≡ scope_motif.Held.none → full ms name ≡ true
unfolding full is_held
new-full ms name h e = rw (le-leb 64 (length ms) h, e)
