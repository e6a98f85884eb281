-- A job that passes lists whole sessions and nothing else: outside a session only a BeginSession may come; inside one it goes on, operator by operator, up to an
-- EndSession; and judging that ends with a pass ends outside a session.
-- Assumes nothing.
use Prim.Native.Nat.{ℕ}
use mathlib.Core.Path.{◌≡◌, refl, sym, ap, ◌∙◌, subst, subst⁻¹}
use mathlib.Core.Bool.{Bool, true, false}
use mathlib.Core.List.{List, [], ◌∷◌, ◌++◌, append_assoc}
use native.Mathlib.Omega.{arith}
use borrow.Author.Tests.{eqb-true}
use lib.ListN.{length}
use lib.Dec.{ltb, eqb}
use Rattle.scope.specs.Choice.{pick}
use Rattle.scope.specs.Header.{Header}
use Rattle.scope.specs.Order.{may_come}
use Rattle.scope.specs.Reading.{Operator, Read}
use Rattle.scope.specs.Setting.{Setting}
use Rattle.scope.specs.Session.{Place, outside, inside, session_of, phase_of, place_after, Session}
use Rattle.scope.specs.Judge.{State, Outcome, Refusal, case_of, after, end_at, context_of, starting, judged_from}
use Rattle.scope.specs.Verdict.{every, judged_after, Entry, entry_of, outcome_at, outcome_of, verdict_of}
use Rattle.scope.specs.Runs.{case_at, next, Runs, here, then, Ends, ended, unread, refused, onto}
use Rattle.scope.specs.Exchange.{no_end, WholeSession, all_operators, AllSessions}
use Rattle.scope.proofs.Ends.{GoodRead, read-good}
use Rattle.scope.proofs.Codes.{GoodHeader, header-good, judged-good, Refuses, so, broken-coded, not-coded}
use Rattle.scope.proofs.Runs.{runs_of, performs-may, runs_past, ends-state}

-- operators from outside a session on, and from inside one on
record Closed (ops : List Operator) : Type 0 where
  sessions : List WholeSession
  all : ops ≡ all_operators sessions

record Open (ops : List Operator) : Type 0 where
  middle : List Operator
  end : Operator
  sessions : List WholeSession
  all : ops ≡ middle ++ (end ∷ all_operators sessions)
  goes_on : no_end middle ≡ true
  ends : end.tag ≡ 0x42

abbrev From : Place → List Operator → Type 0
From (outside v) ops = Closed ops
From (inside x) ops = Open ops

-- a BeginSession before what is open, any other operator, an EndSession
begun : (o : Operator) (os : List Operator) → o.tag ≡ 0x41 → Open os → Closed (o ∷ os)
unfolding all_operators
begun o os e h =
    let w : WholeSession = record { begin = o; middle = h.middle; end = h.end; begins = e; goes_on = h.goes_on; ends = h.ends } in
    record { sessions = w ∷ h.sessions; all = ap (λ l. o ∷ l) (h.all ∙ sym (append_assoc h.middle (h.end ∷ []) (all_operators h.sessions))) }

continued : (o : Operator) (os : List Operator) → eqb o.tag 0x42 ≡ false → Open os → Open (o ∷ os)
unfolding no_end
continued o os e h =
    record {
      middle = o ∷ h.middle;
      end = h.end;
      sessions = h.sessions;
      all = ap (λ l. o ∷ l) h.all;
      goes_on = (λ i. elim (e i) as (λ _. Bool) [ true ↦ false | false ↦ no_end h.middle ]) ∙ h.goes_on;
      ends = h.ends;
    }

over : (o : Operator) (os : List Operator) → o.tag ≡ 0x42 → Closed os → Open (o ∷ os)
unfolding no_end
over o os e h = record { middle = []; end = o; sessions = h.sessions; all = ap (λ l. o ∷ l) h.all; goes_on = refl; ends = e }

-- these sessions are all that an outcome lists
abbrev Found : Outcome → Type 0
Found e = (sessions : List WholeSession) × (e.state.past ≡ onto (all_operators sessions) [])

module _ (set : Setting) (s : List ℕ) (room : ℕ) where
  in_sessions : {a b : State} {os : List Operator} → Runs every set s room a os b → (v : Bool) → b.place ≡ outside v → From a.place os
  unfolding after case_of place_after phase_of may_come all_operators
  in_sessions here v e = subst⁻¹ (λ w. From w []) e (record { sessions = []; all = refl })
  in_sessions (then {a = a} {o = o} {os = os} p r) v e = by a.place (performs-may every set s room p) (in_sessions r v e)
    where
      within : (c : Bool) → eqb o.tag 0x42 ≡ c → (x : Session) → From (pick c (outside true) (inside x)) os → Open (o ∷ os)
      within true f x h = over o os (eqb-true o.tag 0x42 f) h
      within false f x h = continued o os f h

      by : (w : Place) → may_come (phase_of w) (session_of w).opened o.tag ≡ true → From (place_after set s o (case_at set s a o).seen.page w) os → From w (o ∷ os)
      by (outside u) m h = begun o os (eqb-true o.tag 0x41 m) h
      by (inside x) m h = within (eqb o.tag 0x42) refl _ h

  -- with a pass judging ends outside a session
  ended-outside : (st : State) (w : Place) → (end_at s st w).code ≡ 0 → w ≡ outside true
  unfolding end_at
  ended-outside st (outside true) e = refl
  ended-outside st (outside false) e = absurd (omega arith)
  ended-outside st (inside x) e = absurd (omega arith)

  pass_outside : {st : State} {e : Outcome} → Ends every set s room st e → e.code ≡ 0 → st.place ≡ outside true
  unfolding context_of case_of
  pass_outside {st} (ended r) e = ended-outside st st.place e
  pass_outside {st} (unread {code = code} {place = place} r) e =
      by (subst (GoodRead (length s) st.at (may_come (phase_of st.place) (session_of st.place).opened)) r (read-good (context_of every set st.place) s st.at))
    where
      by : {may : ℕ → Bool} → GoodRead (length s) st.at may (Read.no code place) → st.place ≡ outside true
      by (GoodRead.no k) = not-coded code k e
  pass_outside {st} (refused {code = code} {inner = inner} {o = o} r b) e =
      by (subst Refuses b (broken-coded every room (case_at set s st o) (judged-good set _ o.tag)))
    where
      by : Refuses (Refusal.refused code inner) → st.place ≡ outside true
      by (so k) = not-coded code k e

  pass_sessions : (start : ℕ) → (judged_from every set s room (starting start)).code ≡ 0
      → Found (judged_from every set s room (starting start))
  pass_sessions start e =
      let c = runs_of every set s room (starting start) in
      let h = in_sessions c.runs true (pass_outside c.ends e) in
      (h.sessions, ap (λ z. z.past) (ends-state every set s room c.ends) ∙ runs_past every set s room c.runs ∙ ap (λ l. onto l []) h.all)

pub all-sessions : AllSessions
unfolding verdict_of outcome_of entry_of outcome_at judged_after
all-sessions gray job work room e = by (ltb work 16384) (ltb 61440 (length job)) e
  where
    by-header : {h : Header} → GoodHeader h → (judged_after gray every job room h).code ≡ 0 → Found (judged_after gray every job room h)
    by-header (GoodHeader.good {class = class} {high = high} {next = next}) k = pass_sessions (record { class = class; high = high; gray = gray }) job room next k
    by-header (GoodHeader.ill {code = code} c) k = not-coded code c k

    by : (a b : Bool) → (outcome_at gray every job room (pick a (Entry.refused 29 0) (pick b (Entry.refused 1 61440) Entry.admitted))).code ≡ 0
        → Found (outcome_at gray every job room (pick a (Entry.refused 29 0) (pick b (Entry.refused 1 61440) Entry.admitted)))
    by true b k = absurd (omega arith)
    by false true k = absurd (omega arith)
    by false false k = by-header (header-good job) k
