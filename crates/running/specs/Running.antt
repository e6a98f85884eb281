-- Where a run of operators leads that are their tag alone, or a line by its end point.
-- Assumes nothing.
use Rattle.std.specs.Prelude.{ℕ, ◌+◌, ◌≤◌, ◌<◌, ◌≡◌, Bool, List, length, Option, IfSome}
use Rattle.scope.specs.Setting.{Setting}
use Rattle.scope.specs.Judge as scope
use Rattle.scope.specs.Judge.{judged_from}
use Rattle.scope.specs.Verdict.{every}
use Rattle.motif.specs.declared.kept.Kept.{Kept}
use Rattle.order.specs.declared.picture.Picture.TheVariants.{Nothing}
use Rattle.place.specs.declared.place.Busy.TheVariants.{Drawing}
use Rattle.place.specs.declared.place.Place.TheVariants.{Inside}
use Rattle.state.specs.Standing.{Stands}
use Rattle.running.specs.declared.running.Run.{Run}
use Rattle.state.specs.declared.state.State.{State}

-- a run in a session, in a page with no image and no pattern open
abbrev pub in_session : (opened : Bool) (kept : Kept) → Run → State
in_session opened kept r =
    record { at = r.at; place = Inside opened kept (Drawing r.page Nothing); performed = r.performed; records = r.records }

-- one operator more lies further on in the job
abbrev pub Further : (len : ℕ) → Run → Option Run → Type 0
Further len r more = IfSome more (λ t. (r.at < t.at) × (t.at ≤ len))

-- the code stands where the definition comes to from d, and is judged from there as from d
pub record Reaches (job list₀ table patterns work list : List ℕ) (set : Setting) (st : State) (d : scope.State) : Type 0 where
  pub there : scope.State
  pub stands : Stands set job list₀ (record { table = table; patterns = patterns; work = work; list = list }) st there
  pub judged : judged_from every set job (length list₀) there ≡ judged_from every set job (length list₀) d

-- from one state to another by operators that are not refused: no more records than bytes, and the definition goes as far
pub record Runs (job : List ℕ) (high : Bool) (list list₁ : List ℕ) (st t : State) : Type 0 where
  pub long : length list₁ ≡ length list
  pub on : st.at ≤ t.at
  pub within : st.at ≤ length job → t.at ≤ length job
  pub counted : t.records + st.at ≤ st.records + t.at
  pub leads : (list₀ table patterns work : List ℕ) (set : Setting) (d : scope.State) → set.high ≡ high → length list₀ ≡ length list
      → Stands set job list₀ (record { table = table; patterns = patterns; work = work; list = list }) st d
      → Reaches job list₀ table patterns work list₁ set t d
