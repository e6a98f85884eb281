-- What the plain arm is at where a session stands, and the row of an operator: a first, and no other or no turn.
-- Assumes nothing.
use Prim.Native.Nat.{ℕ}
use mathlib.Core.Path.{◌≡◌, refl, subst, subst⁻¹}
use mathlib.Core.Bool.{Bool, true}
use mathlib.Core.List.{List, [], ◌∷◌}
use borrow.Author.Tests.{eqb-true}
use lib.Dec.{eqb}
use Rattle.scope.specs.Attributes.{bytes_in}
use Rattle.scope.specs.Reading.{Operator}
use Rattle.scope.specs.Arm.{Stroke}
use Rattle.scope.specs.Motif.{Motif}
use Rattle.scope.specs.Calls.{unfolded}
use Rattle.scope.specs.Setting.{Setting}
use Rattle.scope.specs.Session.{Busy, resting, reading, drawing, Place, outside, inside, row_for}
use Rattle.scope.specs.Plain.{Turn, stays, Doing, turn_of}
use Rattle.scope.proofs.Ends.{pick_all}
use Rattle.scope.proofs.Rows.{Fits, alone, staying}

-- what the arm is at, where the session stands
abbrev pub doing_busy : Busy → Doing
doing_busy resting = Doing.resting
doing_busy (reading n j) = Doing.reading n j
doing_busy (drawing p ns i) = Doing.drawing i

abbrev pub doing_of : Place → Doing
doing_of (outside b) = Doing.outside
doing_of (inside x) = doing_busy x.busy

-- the row of an operator has a first, and no other or no turn
pub data Shaped (t : Turn) : List Stroke → Type 0 where
  shaped : {a : Stroke} {l : List Stroke} → Fits t l → Shaped t (a ∷ l)

call_stays : (gray : Bool) (d : Doing) (tag : ℕ) → eqb tag 0x5e ≡ true → turn_of gray d tag ≡ stays
unfolding turn_of
call_stays gray d tag e = rw (eqb-true tag 0x5e e) refl

pub row-shaped : (set : Setting) (s : List ℕ) (d : Doing) (held : List Motif) (o : Operator) → Shaped (turn_of set.gray d o.tag) (row_for set s held o)
unfolding row_for
row-shaped set s d held o =
    pick_all (Shaped (turn_of set.gray d o.tag)) (eqb o.tag 0x5e)
    (λ e. shaped (subst⁻¹ (λ t. Fits t (unfolded held 32 [] (bytes_in s o.attrs 139))) (call_stays set.gray d o.tag e) staying)) (λ _. shaped alone)
