-- What a job lists is a run: a job that lists something was let in and has a header, and what it lists in parts is a run in parts. Two sessions that stand next to
-- each other in it stand one behind the other in the bytes.
-- Assumes nothing.
use Prim.Native.Nat.{ℕ, ◌+◌, ◌-◌, ◌≤◌}
use mathlib.Core.Path.{◌≡◌, refl, ap, ◌∙◌, subst}
use mathlib.Core.Bool.{Bool, true, false}
use mathlib.Core.List.{List, [], ◌∷◌, ◌++◌}
use native.Mathlib.Omega.{arith}
use borrow.Author.Tests.{ltb-false}
use lib.ListN.{length, length-append}
use lib.Dec.{ltb}
use Rattle.scope.specs.Choice.{pick}
use Rattle.scope.specs.Header.{Class, Header, header_of}
use Rattle.scope.specs.Reading.{Operator}
use Rattle.scope.specs.Setting.{Setting}
use Rattle.scope.specs.Judge.{State, judged_from, starting}
use Rattle.scope.specs.Verdict.{every, judged_after, Entry, entry_of, outcome_at, outcome_of}
use Rattle.scope.specs.Runs.{Runs, here, Comes, onto}
use Rattle.scope.specs.Claims.{Reached}
use Rattle.scope.specs.Exchange.{Lists, WholeSession, operators, starts, stops}
use Rattle.scope.proofs.Runs.{onto-back, runs-split, runs_on}
use Rattle.scope.proofs.Sessions.{reached-judged}
use Rattle.scope.proofs.Places.{all-ops, ops-are}
use Rattle.scope.proofs.White.{header-within}
use Rattle.scope.proofs.ExchangeEdges.{session-performed, session-within}

-- a job that lists something was let in, and has a header
pub record LetIn (job : List ℕ) (work : ℕ) : Type 0 where
  pub enough : 16384 ≤ work
  pub short : length job ≤ 61440
  pub class : Class
  pub high : Bool
  pub next : ℕ
  pub header : header_of job ≡ Header.is class high next

nothing-listed : {A : Type 0} (o : Operator) (front back : List Operator) → [] ≡ onto (front ++ (o ∷ back)) [] → A
unfolding onto
nothing-listed o front back e =
    let k : 0 ≡ length (front ++ (o ∷ back)) = ap (λ l. length (onto l [])) e ∙ ap length (onto-back (front ++ (o ∷ back))) in
    let l = length-append front (o ∷ back) in
    absurd (omega arith)

pub let_in : (gray : Bool) (job : List ℕ) (work room : ℕ) (o : Operator) (front back : List Operator) → Lists gray job work room (front ++ (o ∷ back)) → LetIn job work
unfolding outcome_of entry_of outcome_at judged_after
let_in gray job work room o front back f = by (ltb work 16384) (ltb 61440 (length job)) refl refl f
  where
    by-header : 16384 ≤ work → length job ≤ 61440 → (h : Header) → header_of job ≡ h → (judged_after gray every job room h).state.past ≡ onto (front ++ (o ∷ back)) [] → LetIn job work
    by-header a b (Header.is class high next) e k = record { enough = a; short = b; class = class; high = high; next = next; header = e }
    by-header a b (Header.no code place) e k = nothing-listed o front back k

    by : (a b : Bool) → ltb work 16384 ≡ a → ltb 61440 (length job) ≡ b
        → (outcome_at gray every job room (pick a (Entry.refused 29 0) (pick b (Entry.refused 1 61440) Entry.admitted))).state.past ≡ onto (front ++ (o ∷ back)) [] → LetIn job work
    by true b e h k = nothing-listed o front back k
    by false true e h k = nothing-listed o front back k
    by false false e h k = by-header (ltb-false work 16384 e) (ltb-false 61440 (length job) h) (header_of job) refl k

-- what a job lists in parts is a run in parts
module _ (gray : Bool) (job : List ℕ) (work room : ℕ) (I : LetIn job work) where
  abbrev pub setting : Setting
  setting = record { class = I.class; high = I.high; gray = gray }

  abbrev pub whole : Comes every setting job room (starting I.next) (judged_from every setting job room (starting I.next))
  whole = all-ops setting job work room I.next I.enough I.short I.header

  pub run_of : (ops : List Operator) → Lists gray job work room ops → Runs every setting job room (starting I.next) ops whole.last
  run_of ops f = subst (λ l. Runs every setting job room (starting I.next) l whole.last) (ops-are setting job work room I.next I.enough I.short I.header ops f) whole.runs

  pub from-header : I.next ≤ length job
  from-header = header-within job I.class I.high I.next I.header

  start-reached : Reached setting job room (starting I.next)
  start-reached = record { next = I.next; header = I.header; before = []; runs = here }

  pub outcome-is : outcome_of gray every job work room ≡ judged_from every setting job room (starting I.next)
  outcome-is = reached-judged setting job work room (starting I.next) I.enough I.short start-reached

-- two sessions that stand next to each other in what a job lists
module _ (gray : Bool) (job : List ℕ) (work room : ℕ) (before : List Operator) (first second : WholeSession) (later : List Operator)
    (listed : Lists gray job work room (before ++ (operators first ++ (operators second ++ later)))) where
  pub entered : LetIn job work
  entered = let_in gray job work room first.begin before ((first.middle ++ (first.end ∷ [])) ++ (operators second ++ later)) listed

  abbrev set : Setting
  set = setting gray job work room entered

  abbrev start : State
  start = starting entered.next

  abbrev last : State
  last = (whole gray job work room entered).last

  pub record Two : Type 0 where
    pub from : State
    pub mid : State
    pub to : State
    pub run_before : Runs every set job room start before from
    pub one : Runs every set job room from (operators first) mid
    pub two : Runs every set job room mid (operators second) to
    pub run_later : Runs every set job room to later last

  pub two_runs : Two
  two_runs =
      let p = runs-split every set job room before (operators first ++ (operators second ++ later)) (run_of gray job work room entered (before ++ (operators first ++ (operators second ++ later))) listed) in
      let q = runs-split every set job room (operators first) (operators second ++ later) p.second in
      let r = runs-split every set job room (operators second) later q.second in
      record { from = p.mid; mid = q.mid; to = r.mid; run_before = p.first; one = q.first; two = r.first; run_later = r.second }

  -- the two stand one behind the other
  pub record InOrder : Type 0 where
    pub first_runs : starts first ≤ stops first
    pub then_second : stops first ≤ starts second
    pub second_runs : starts second ≤ stops second
    pub within : stops second ≤ length job

  pub in_order : InOrder
  in_order =
      let r = two_runs in
      let h = runs_on every set job room r.run_before (from-header gray job work room entered) in
      let a = session-within set job room first r.one h.1 in
      let p = (session-performed set job room first r.one).to_place in
      let b = session-within set job room second r.two (let l = a.2 in omega arith) in
      record { first_runs = a.1; then_second = (let l = b.0 in omega arith); second_runs = b.1; within = b.2 }
