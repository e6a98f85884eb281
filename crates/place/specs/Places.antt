-- What the code keeps of a place of the definitions. While a motif is read its name lies in the job, and its bytes in the work buffer behind those held.
-- Assumes nothing.
use Rattle.std.specs.Prelude.{ℕ, ◌+◌, ◌≤◌, ◌<◌, ◌≡◌, Bool, false, List, length, take, drop}
use Rattle.scope.specs.Choice.{pick}
use Rattle.scope.specs.Data.{Image}
use Rattle.scope.specs.Setting.{Setting}
use Rattle.scope.specs.Arm as arm
use Rattle.scope.specs.Motif as motif
use Rattle.scope.specs.Session as scope
use Rattle.page.specs.Holds.{PageHolds}
use Rattle.page.specs.declared.page.Page.{Page}
use Rattle.key.specs.Keys.{IsName}
use Rattle.motif.specs.Stored.{Stored, full}
use Rattle.motif.specs.declared.kept.Kept.{Kept}
use Rattle.order.specs.Pictures.{picture_as}
use Rattle.pattern_rows.specs.Numbers.{OfPage, OfSession, numbers_in, selecting_in, known_in, Quiet}
use Rattle.patterns.specs.Selects.{missing_of, Selects}
use Rattle.order.specs.declared.picture.Picture.{Picture}
use Rattle.place.specs.declared.place.Busy.{Busy}
use Rattle.place.specs.declared.place.Busy.TheVariants.{Resting, Reading, Drawing}
use Rattle.place.specs.declared.place.Place.{Place}
use Rattle.place.specs.declared.place.Place.TheVariants.{Outside, Inside}

-- a name is so many bytes of the job from a place on, and they lie within it
pub record Named (job : List ℕ) (first count : ℕ) (name : List ℕ) : Type 0 where
  pub within : first + count ≤ length job
  pub same : take count (drop first job) ≡ name

-- what is kept of the patterns that motifs select is as it was; what is known of a call was known before, and then nothing is missing that was defined
pub record Beside (p p₁ : List ℕ) : Type 0 where
  pub long : length p₁ ≡ length p
  pub rows : (r : ℕ) → r < 64 → numbers_in p₁ r ≡ numbers_in p r
  pub selecting : selecting_in p₁ ≡ selecting_in p
  pub known : (i : ℕ) → i < 64 → (known_in p₁ i ≡ 0 → ⊥) → known_in p i ≡ 0 → ⊥
  pub still : (i : ℕ) → i < 64 → (known_in p₁ i ≡ 0 → ⊥) → (ns : List ℕ) → missing_of p ns ≡ false → missing_of p₁ ns ≡ false

-- what is kept of patterns, p: what each of these motifs selects, and the numbers that are defined for the session
pub record Hatches (p : List ℕ) (ms : List motif.Motif) (ns : List ℕ) : Type 0 where
  pub selects : Selects p ms
  pub session : numbers_in p OfSession ≡ ns
  pub few : length ns ≤ 32

-- a pattern that is open has its place: with its number no more than 32 are defined of its persistence, for the page or for the session
pub data HasPlace (of_page of_session : List ℕ) : motif.Picture → Type 0 where
  none_place : HasPlace of_page of_session motif.Picture.none
  image_place : {i : Image} → HasPlace of_page of_session (motif.Picture.being i)
  hatch_place : {h : motif.Hatch} {i : Image} → length (scope.defined h.number (pick h.session of_session of_page)) ≤ 32
      → HasPlace of_page of_session (motif.Picture.hatching h i)

-- what a session is at that keeps these motifs; while one more is read, there is room for it; in a page, p has the numbers that are defined for it
pub data BusyHolds (job work p : List ℕ) (kept : Kept) (ms : List motif.Motif) : Busy → scope.Busy → Type 0 where
  resting_holds : BusyHolds job work p kept ms Resting scope.resting
  reading_holds : {a l j : ℕ} {name joined : List ℕ} → Named job a l name → IsName name → j ≡ length joined → take j (drop kept.used work) ≡ joined
      → kept.used + j ≤ 16384 → full ms name ≡ false → BusyHolds job work p kept ms (Reading a l j) (scope.reading name joined)
  drawing_holds : {page : Page} {q : arm.Page} {ns : List ℕ} {i : Picture} {v : motif.Picture} → PageHolds page q → picture_as i ≡ v
      → numbers_in p OfPage ≡ ns → length ns ≤ 32
      → HasPlace ns (numbers_in p OfSession) v → BusyHolds job work p kept ms (Drawing page i) (scope.drawing q ns v)

-- where a job with this setting stands; the work buffer and the table t keep its motifs, p its patterns
pub data PlaceHolds (set : Setting) (job work t p : List ℕ) : Place → scope.Place → Type 0 where
  outside_holds : {b : Bool} → Quiet p → PlaceHolds set job work t p (Outside b) (scope.outside b)
  inside_holds : {o : Bool} {kept : Kept} {b : Busy} {x : scope.Session} → o ≡ x.opened → kept.used ≤ 16384 → Stored set work t kept x.held
      → Hatches p x.held x.patterns → BusyHolds job work p kept x.held b x.busy → PlaceHolds set job work t p (Inside o kept b) (scope.inside x)

-- the session is in a page
pub data Drawn : scope.Busy → Type 0 where
  drawn_so : {p : arm.Page} {ns : List ℕ} {i : motif.Picture} → Drawn (scope.drawing p ns i)
