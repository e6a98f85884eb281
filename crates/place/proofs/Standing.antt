-- What the place that the code keeps says of the place of the definitions: its phase, and the motif that is being read.
-- Assumes nothing.
use Prim.Native.Nat.{ℕ, ◌+◌, ◌≤◌}
use mathlib.Core.Path.{◌≡◌, refl, ap}
use mathlib.Core.Bool.{Bool}
use mathlib.Core.List.{List}
use lib.ListN.{length, take, drop}
use Rattle.scope.specs.Order as order
use Rattle.scope.specs.Setting.{Setting}
use Rattle.scope.specs.Motif.{Motif}
use Rattle.scope.specs.Session as scope
use Rattle.scope.specs.Session.{phase_drawing, phase_busy, phase_of, joined_of}
use Rattle.page.specs.declared.page.Page.{Page}
use Rattle.page.proofs.Stacks.{depth-saved}
use Rattle.order.specs.declared.picture.Picture.TheVariants.{Nothing}
use Rattle.order.specs.declared.picture.Picture.{Picture}
use Rattle.motif.specs.declared.kept.Kept.{Kept}
use Rattle.place.specs.Places.{Drawn, drawn_so, BusyHolds, resting_holds, reading_holds, drawing_holds, PlaceHolds, inside_holds}
use Rattle.place.specs.declared.place.Busy.TheVariants.{Resting, Reading, Drawing}
use Rattle.place.specs.declared.place.Place.TheVariants.{Inside}

module _ {job work r : List ℕ} {kept : Kept} {ms : List Motif} where
  page-phase : {p : Page} {q : scope.Busy} → BusyHolds job work r kept ms (Drawing p Nothing) q → order.in_page p.depth ≡ phase_busy q
  unfolding phase_busy phase_drawing
  page-phase {p} (drawing_holds {q = q} {v = v} h e n f z) = rw (← e) (ap order.in_page (depth-saved p q h.same))

  pub rest-phase : {q : scope.Busy} → BusyHolds job work r kept ms Resting q → order.in_session ≡ phase_busy q
  unfolding phase_busy
  rest-phase resting_holds = refl

  pub stream_phase : {a l j : ℕ} {q : scope.Busy} → BusyHolds job work r kept ms (Reading a l j) q → order.in_stream ≡ phase_busy q
  unfolding phase_busy
  stream_phase (reading_holds m n j t u r) = refl

  -- the bytes of the motif that is being read
  pub read-long : {a l j : ℕ} {q : scope.Busy} → BusyHolds job work r kept ms (Reading a l j) q → j ≡ length (joined_of q)
  read-long (reading_holds m n j t u r) = j

  pub read-bytes : {a l j : ℕ} {q : scope.Busy} → BusyHolds job work r kept ms (Reading a l j) q → take j (drop kept.used work) ≡ joined_of q
  read-bytes (reading_holds m n j t u r) = t

  pub read-within : {a l j : ℕ} {q : scope.Busy} → BusyHolds job work r kept ms (Reading a l j) q → kept.used + j ≤ 16384
  read-within (reading_holds m n j t u r) = u

  pub is-drawn : {p : Page} {i : Picture} {q : scope.Busy} → BusyHolds job work r kept ms (Drawing p i) q → Drawn q
  is-drawn (drawing_holds h e n f z) = drawn_so

-- in a page with nothing open as many states are saved as the code counts
pub page_place : {set : Setting} {job work t u : List ℕ} {o : Bool} {kept : Kept} {p : Page} {q : scope.Place}
    → PlaceHolds set job work t u (Inside o kept (Drawing p Nothing)) q → order.in_page p.depth ≡ phase_of q
unfolding phase_of
page_place (inside_holds e l s h y) = page-phase y
