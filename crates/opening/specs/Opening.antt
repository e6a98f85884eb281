-- Where operators lead that begin and end sessions and open and close their sources, while no pattern is defined for the session.
-- Assumes nothing.
use Rattle.std.specs.Prelude.{ℕ, ◌*◌, ◌≤◌, max, ◌≡◌, Bool, List, [], length}
use Rattle.scope.specs.Names.{BeginSession, EndSession, OpenDataSource, CloseDataSource}
use Rattle.scope.specs.Setting.{Setting}
use Rattle.scope.specs.Reading.{Operator, Read, operator_at}
use Rattle.scope.specs.Arm.{Page}
use Rattle.scope.specs.Session as session
use Rattle.scope.specs.Judge as scope
use Rattle.scope.specs.Verdict.{every}
use Rattle.motif.specs.declared.kept.Kept.{Kept}
use Rattle.pattern_rows.specs.Numbers.{OfSession, numbers_in}
use Rattle.place.specs.Places.{PlaceHolds}
use Rattle.place.specs.declared.place.Busy.TheVariants.{Resting}
use Rattle.place.specs.declared.place.Place.{Place}
use Rattle.place.specs.declared.place.Place.TheVariants.{Outside, Inside}
use Rattle.state.specs.Standing.{Lent, Stands}
use Rattle.state.specs.declared.state.State.{State}
use Rattle.running.specs.Running.{Reaches}

-- the tags of the four operators
pub data Edge : ℕ → Type 0 where
  begins : Edge BeginSession
  ends : Edge EndSession
  opens : Edge OpenDataSource
  closes : Edge CloseDataSource

-- outside a session, or in one with no page open and no motif being read
pub data Rests : Place → Type 0 where
  rests_outside : {b : Bool} → Rests (Outside b)
  rests_inside : {opened : Bool} {kept : Kept} → Rests (Inside opened kept Resting)

-- the code's place after an operator of this tag keeps the definitions' place after it; the tables stay as they are
pub record Past (place : Place) (tag : ℕ) (next : Place) : Type 0 where
  pub keeps : (set : Setting) (job work t p : List ℕ) (o : Operator) (page : Page) (q : session.Place) → o.tag ≡ tag
      → numbers_in p OfSession ≡ [] → length t ≡ 704
      → PlaceHolds set job work t p place q → PlaceHolds set job work t p next (session.place_after set job o page q)

-- the definition reads this operator where the code stands
abbrev pub Reads : (job : List ℕ) → Setting → State → Operator → Type 0
Reads job set st o =
    (list₀ : List ℕ) (l : Lent) (d : scope.State) → Stands set job list₀ l st d → operator_at (scope.context_of every set d.place) job d.at ≡ Read.operator o

-- from one state to another by operators that are not refused: at most 17 records for each byte passed, and the definition goes as far, whatever the tables are
-- that have no pattern of the session
pub record Opens (job : List ℕ) (set : Setting) (list list₁ : List ℕ) (st t : State) : Type 0 where
  pub long : length list₁ ≡ length list
  pub on : st.at ≤ t.at
  pub within : t.at ≤ max st.at (length job)
  pub counted : st.records ≤ st.at * 17 → t.records ≤ t.at * 17
  pub leads : (list₀ table patterns work : List ℕ) (d : scope.State) → numbers_in patterns OfSession ≡ [] → length list₀ ≡ length list
      → Stands set job list₀ (record { table = table; patterns = patterns; work = work; list = list }) st d
      → Reaches job list₀ table patterns work list₁ set t d
