-- Where the code stands after an operator, and where the definitions stand.
-- Assumes nothing.
use Rattle.std.specs.Prelude.{ℕ, ◌+◌, ◌≤◌, ◌≡◌, true, List, length, drop, Ok}
use Rattle.items.specs.Rows.{rows_of, Sized}
use Rattle.scope.specs.Names.{BeginStream, StreamName}
use Rattle.scope.specs.Setting.{Setting}
use Rattle.scope.specs.Attributes.{bytes_in}
use Rattle.scope.specs.Order.{may_come, rows_fit, image_of}
use Rattle.scope.specs.Session as scope
use Rattle.scope.specs.Session.{phase_of, session_of, place_after}
use Rattle.scope.specs.Judge.{State, case_of}
use Rattle.reader.specs.Reads.{operator_as}
use Rattle.reader.specs.declared.reading.Operator.{Operator}
use Rattle.page.specs.Holds.{PageHolds}
use Rattle.page.specs.declared.page.Page.{Page}
use Rattle.place.specs.Places.{PlaceHolds}
use Rattle.early.specs.Earlier.{Earlies}
use Rattle.early.specs.declared.early.Early.{Early}
use Rattle.place.specs.declared.place.Place.{Place}

-- what an operator leaves as it is: the lengths of work buffer, table and patterns, and the work buffer from byte 16,384 on
pub record Stays (work t p work₁ t₁ p₁ : List ℕ) : Type 0 where
  pub work_long : length work₁ ≡ length work
  pub table_long : length t₁ ≡ length t
  pub patterns_long : length p₁ ≡ length p
  pub rest : drop 16384 work₁ ≡ drop 16384 work

-- an operator that was read and is not refused by these rules, where the code's place keeps q and the code's page is the one after it
pub record Comes (job attrs : List ℕ) (set : Setting) (o : Operator) (early : Early) (page : Page) (work t p : List ℕ) (place : Place)
    (q : scope.Place) (st : State) : Type 0 where
  pub holds : PlaceHolds set job work t p place q
  pub sized : Sized attrs o.count
  pub table_long : length t ≡ 704
  pub room : 16384 ≤ length work
  pub within : o.first + o.length ≤ length job
  pub may : may_come (phase_of q) (session_of q).opened o.tag ≡ true
  pub fits : rows_fit set.high job (image_of (phase_of q)) o.tag (rows_of attrs o.count) ≡ true
  pub short : o.tag ≡ BeginStream → length (bytes_in job (rows_of attrs o.count) StreamName) ≤ 16
  pub earlier : Earlies t p (case_of set job st (session_of q) (operator_as o attrs)) (Ok early)
  pub drawn : PageHolds page (case_of set job st (session_of q) (operator_as o attrs)).seen.page

-- the code's place r, with this work buffer, table and patterns, keeps the definitions' place after the operator
pub record After (job attrs : List ℕ) (set : Setting) (o : Operator) (early : Early) (page : Page) (work t p : List ℕ) (place : Place)
    (work₁ t₁ p₁ : List ℕ) (r : Place) : Type 0 where
  pub keeps : (q : scope.Place) (st : State) → Comes job attrs set o early page work t p place q st
      → PlaceHolds set job work₁ t₁ p₁ r (place_after set job (operator_as o attrs) (case_of set job st (session_of q) (operator_as o attrs)).seen.page q)
