-- What the code keeps of the definition's state, and one step of both.
-- Assumes nothing.
use Rattle.std.specs.Prelude.{ℕ, ◌*◌, ◌≤◌, ◌<◌, ◌≡◌, List, [], ◌++◌, length, drop, true, false, Ok}
use Rattle.scope.specs.Setting.{Setting}
use Rattle.scope.specs.Iterate.{Next, go, stop}
use Rattle.scope.specs.Choice.{pick}
use Rattle.scope.specs.Reading.{Operator, Read, operator_at}
use Rattle.scope.specs.Session as session
use Rattle.scope.specs.Judge as scope
use Rattle.scope.specs.Verdict as verdict
use Rattle.page.specs.Holds.{PageHolds}
use Rattle.page.specs.declared.page.Page.{Page}
use Rattle.place.specs.Places.{PlaceHolds}
use Rattle.early.specs.Earlier.{Earlies}
use Rattle.early.specs.declared.early.Early.{Early}
use Rattle.state.specs.Views.{verdict_as}
use Rattle.state.specs.declared.verdict.Verdict.{Verdict}
use Rattle.state.specs.declared.state.State.{State}
use Rattle.std.specs.declared.ops.ControlFlow.{ControlFlow}
use Rattle.std.specs.declared.ops.ControlFlow.TheVariants.{Continue, Break}

-- the list, which was list₀ when it was lent, has the records of these operators, and behind them what stood there
pub record Listed (list₀ : List ℕ) (past : List Operator) (list : List ℕ) : Type 0 where
  pub is : list ≡ verdict.records_before past [] ++ drop (length (verdict.records_before past [])) list₀

-- the lists that are lent for the length of a job: the table of motifs, the numbers of patterns, the work buffer and the list
pub record Lent : Type 0 where
  pub table : List ℕ
  pub patterns : List ℕ
  pub work : List ℕ
  pub list : List ℕ

-- the code stands where the definition stands, in a job of this setting
pub record Stands (set : Setting) (job list₀ : List ℕ) (l : Lent) (st : State) (d : scope.State) : Type 0 where
  pub at : st.at ≡ d.at
  pub place : PlaceHolds set job l.work l.table l.patterns st.place d.place
  pub performed : st.performed ≡ d.performed
  pub records : st.records ≡ d.records
  pub counted : length (verdict.records_before d.past []) ≡ d.records * 16
  pub listed : Listed list₀ d.past l.list
  pub table_long : length l.table ≡ 704

-- after a step the code stands where the definition goes on, or both have ended with the same verdict and list
pub data Steps (set : Setting) (job list₀ : List ℕ) (l : Lent) : ControlFlow Verdict State → Next scope.State scope.Outcome → Type 0 where
  steps_go : {t : State} {d : scope.State} → Stands set job list₀ l t d → Steps set job list₀ l (Continue t) (go d)
  steps_stop : {v : Verdict} {e : scope.Outcome} → verdict_as v ≡ verdict.told e → Listed list₀ e.state.past l.list → Steps set job list₀ l (Break v) (stop e)

-- the four lists, each by its name
abbrev pub lent : (table patterns work list : List ℕ) → Lent
lent table patterns work list = record { table = table; patterns = patterns; work = work; list = list }

-- before, after, one step: wherever the code stands as the definition does, with these lists lent, and what is asked there holds, one step brings both on alike
abbrev pub StepsOn : (set : Setting) (job : List ℕ) (before after : Lent) → State → (asks : List ℕ → scope.State → Type 0) → ControlFlow Verdict State
    → (next : (room : ℕ) → scope.State → Next scope.State scope.Outcome) → Type 0
StepsOn set job before after st asks r next =
    (d : scope.State) (list₀ : List ℕ) → length list₀ ≡ length before.list → Stands set job list₀ before st d → asks list₀ d
    → Steps set job list₀ after r (next (length list₀) d)

-- the verdict and the list of a job that is judged to its end from there
abbrev pub JudgedTo : (set : Setting) (job list₀ : List ℕ) → scope.State → Verdict → (list : List ℕ) → Type 0
JudgedTo set job list₀ d r list =
    (verdict_as r ≡ verdict.told (scope.judged_from verdict.every set job (length list₀) d))
    × Listed list₀ (scope.judged_from verdict.every set job (length list₀) d).state.past list

-- the place of the next item lies within the job, and there are at most 17 records for each byte passed
abbrev pub Ready : (len : ℕ) → State → Type 0
Ready len st = (st.at ≤ len) × (st.records ≤ st.at * 17)

-- a step goes on further on
abbrev pub Goes : (len at : ℕ) → ControlFlow Verdict State → Type 0
Goes len at (Continue t) = (at < t.at) × (t.at ≤ len) × (t.records ≤ t.at * 17)
Goes len at (Break v) = Unit {0}

-- what a step leaves as it is: the lengths of the two lent buffers, and the work buffer from byte 16,384 on
pub record Lasts (work list work₁ list₁ : List ℕ) : Type 0 where
  pub work_long : length work₁ ≡ length work
  pub list_long : length list₁ ≡ length list
  pub rest : drop 16384 work₁ ≡ drop 16384 work

-- the code at the end of a job: pass between sessions, after one at least; else 27
abbrev pub end_code : session.Place → ℕ
end_code (session.outside true) = 0
end_code (session.outside false) = 27
end_code (session.inside x) = 27

-- an operator that was read where the definition stands, breaks no rule but perhaps that of the room, and leaves this page and number performed; the table is that
-- of the motifs held there, and p has what a motif that ends selects
pub record Comes (t p job list₀ : List ℕ) (set : Setting) (d : scope.State) (o : Operator) (early : Early) (page : Page) (performed : ℕ) : Type 0 where
  pub read : operator_at (scope.context_of verdict.every set d.place) job d.at ≡ Read.operator o
  pub earlier : Earlies t p (scope.case_of set job d (session.session_of d.place) o) (Ok early)
  pub drawn : PageHolds page (scope.case_of set job d (session.session_of d.place) o).seen.page
  pub counts : performed ≡ (scope.case_of set job d (session.session_of d.place) o).seen.count
  pub rules : scope.first_broken verdict.every (scope.case_of set job d (session.session_of d.place) o) (scope.rules (length list₀))
      ≡ pick (scope.room_over (length list₀) (scope.case_of set job d (session.session_of d.place) o)) (scope.refused 28 scope.outer) scope.Refusal.none
