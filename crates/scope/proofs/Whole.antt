-- Of a whole job: the position of its verdict lies within it or right behind it; and what passes keeps the layout rules and has room for its list, so that
-- demand 3 leaves out no job that passes.
-- Assumes nothing.
use Prim.Native.Nat.{ℕ, zero, suc, ◌-◌, ◌*◌, ◌≤◌, ◌<◌}
use mathlib.Core.Path.{◌≡◌, refl, sym, ap, ◌∙◌, subst⁻¹}
use mathlib.Core.Bool.{Bool, true, false}
use mathlib.Core.List.{List}
use native.Mathlib.Omega.{arith}
use lib.ListN.{length}
use lib.Dec.{ltb}
use borrow.Author.Tests.{ltb-true}
use Rattle.scope.specs.Choice.{pick, among}
use Rattle.scope.specs.Iterate.{onward}
use Rattle.scope.specs.Header.{Header}
use Rattle.scope.specs.Order.{may_come}
use Rattle.scope.specs.Reading.{Operator, Read}
use Rattle.scope.specs.Setting.{Setting}
use Rattle.scope.specs.Session.{Place, outside, inside, session_of, phase_of}
use Rattle.scope.specs.Judge.{State, Outcome, refused_at, outer, Case, Refusal, starting, case_of, after, end_at, rules, first_broken, on_refusal, on_case, on_read, context_of, job_step, judged_from}
use Rattle.scope.specs.Verdict.{every, layout, judged_after, Entry, entry_of, outcome_at, outcome_of, verdict_of}
use Rattle.scope.specs.Claims.{Keeps, HasRoom, PassesExactly, Within}
use Rattle.scope.proofs.Ends.{pick_all, Kept, kept_go, kept_stop, iterate-holds, GoodRead, read-good}
use Rattle.scope.proofs.Falls.{judged-step}
use Rattle.scope.proofs.Placed.{ReadIn, read-in, HeaderIn, header-in}
use Rattle.scope.proofs.Asks.{Asks, alike, failed, closed, read-asks}
use Rattle.scope.proofs.Codes.{end-state, not-coded, GoodHeader, header-good, judged-good, Refuses, not_so, so, broken-coded, none-layout, none-fits}
use Rattle.scope.proofs.Demand.{demand_3}

-- the position of an outcome
abbrev AtMost : List ℕ → Outcome → Type 0
AtMost s e = e.position ≤ length s

abbrev Any : State → Type 0
Any st = Unit {0}

module _ (given : ℕ → Bool) (set : Setting) (s : List ℕ) (room : ℕ) where
  end-placed : (st : State) (p : Place) → AtMost s (end_at s st p)
  unfolding end_at
  end-placed st (outside true) = omega arith
  end-placed st (outside false) = omega arith
  end-placed st (inside x) = omega arith

  refusal_placed : (st : State) (c : Case) → c.op.at ≤ length s → (f : Refusal) → Kept Any (AtMost s) (on_refusal set s st c f)
  unfolding on_refusal
  refusal_placed st c h Refusal.none = kept_go tt
  refusal_placed st c h (Refusal.refused code inner) = kept_stop h

  on-read_placed : (st : State) {r : Read} → ReadIn (length s) r → Kept Any (AtMost s) (on_read given set s room st r)
  unfolding on_read on_case case_of
  on-read_placed st (ReadIn.operator h) = refusal_placed st _ h _
  on-read_placed st ReadIn.ended = kept_stop (end-placed st st.place)
  on-read_placed st (ReadIn.no h) = kept_stop h

  step-placed : (st : State) → Any st → Kept Any (AtMost s) (job_step given set s room st)
  unfolding job_step
  step-placed st u = on-read_placed st (read-in (context_of given set st.place) s st.at)

  judged-placed : (st : State) → AtMost s (judged_from given set s room st)
  unfolding judged_from
  judged-placed st =
      let k : 0 ≤ length s = omega arith in
      iterate-holds (job_step given set s room) (refused_at 5 0 outer (starting 0)) Any (AtMost s) k step-placed (λ t. length s - t.at) st tt

header-outcome : (gray : Bool) (job : List ℕ) (room : ℕ) {r : Header} → HeaderIn (length job) r → AtMost job (judged_after gray every job room r)
unfolding judged_after
header-outcome gray job room (HeaderIn.good {class = class} {high = high} {next = next} l) = judged-placed every (record { class = class; high = high; gray = gray }) job room (starting next)
header-outcome gray job room (HeaderIn.ill h) = h

-- the position of a verdict is a place of the job, or its end
pub verdict-placed : Within
unfolding verdict_of outcome_of entry_of outcome_at
verdict-placed gray job work room =
    pick_all (λ e. AtMost job (outcome_at gray every job room e)) (ltb work 16384) (λ _. let k : 0 ≤ length job = omega arith in k)
    (λ _. pick_all (λ e. AtMost job (outcome_at gray every job room e)) (ltb 61440 (length job))
    (λ t. let k = ltb-true 61440 (length job) t in let l : 61440 ≤ length job = omega arith in l) (λ _. header-outcome gray job room (header-in job)))

-- what passes, operator by operator: no layout rule is broken, and the records fit
module _ (set : Setting) (s : List ℕ) (room : ℕ) where
  abbrev full : State → Outcome
  full = judged_from every set s room

  abbrev lay : State → Outcome
  lay = judged_from layout set s 0

  abbrev Fine : Outcome → Type 0
  Fine e = (e.code ≡ 0) × (e.state.records * 16 ≤ room)

  abbrev Shown : ℕ → Type 0
  Shown n = (st : State) → length s - st.at < n → st.records * 16 ≤ room → (full st).code ≡ 0 → Fine (lay st)

  module _ (n : ℕ) (ih : Shown n) (st : State) (h : length s - st.at < suc n) (fits : st.records * 16 ≤ room) where
    module _ (o : Operator) (less : length s - o.next < n) where
      abbrev c : Case
      c = case_of set s st (session_of st.place) o

      on-refusal : (f : Refusal) → first_broken every c (rules room) ≡ f → Refuses f → (onward full (on_refusal set s st c f)).code ≡ 0
          → Fine (onward lay (on_refusal set s st c (first_broken layout c (rules 0))))
      unfolding on_refusal after case_of
      on-refusal Refusal.none e not_so l =
          subst⁻¹ (λ f. Fine (onward lay (on_refusal set s st c f))) (none-layout room c e) (ih (after set s st c) less (none-fits room c e) l)
      on-refusal (Refusal.refused code inner) e (so k) l = not-coded code k l

      on-operator : (onward full (on_read every set s room st (Read.operator o))).code ≡ 0 → Fine (onward lay (on_read layout set s 0 st (Read.operator o)))
      unfolding on_read on_case case_of
      on-operator l = on-refusal (first_broken every c (rules room)) refl (broken-coded every room c (judged-good set _ o.tag)) l

    on_both : {r q : Read} → Asks (session_of st.place).opened r q
        → GoodRead (length s) st.at (may_come (phase_of st.place) (session_of st.place).opened) r
        → GoodRead (length s) st.at (may_come (phase_of st.place) (session_of st.place).opened) q
        → (onward full (on_read every set s room st q)).code ≡ 0 → Fine (onward lay (on_read layout set s 0 st r))
    unfolding on_read
    on_both alike (GoodRead.operator {o = o} a b m) g l = let k : length s - o.next < n = omega arith in on-operator o k l
    on_both alike GoodRead.ended g l = (l, rw (end-state s st st.place) fits)
    on_both alike (GoodRead.no {code = code} k) g l = not-coded code k l
    on_both failed g (GoodRead.no {code = code} k) l = not-coded code k l
    on_both (closed x y z) g (GoodRead.no {code = code} k) l = not-coded code k l

  shown : (n : ℕ) → Shown n
  unfolding job_step context_of layout among
  shown zero st h fits l = absurd (omega arith)
  shown (suc n) st h fits l =
      let x = session_of st.place in
      subst⁻¹ Fine (judged-step layout set s 0 st)
      (on_both n (shown n) st h fits (read-asks set (phase_of st.place) s x.opened st.at)
      (read-good (context_of layout set st.place) s st.at) (read-good (context_of every set st.place) s st.at)
      (ap (λ z. z.code) (sym (judged-step every set s room st)) ∙ l))

after-header : (gray : Bool) (job : List ℕ) (room : ℕ) {r : Header} → GoodHeader r → (judged_after gray every job room r).code ≡ 0
    → ((judged_after gray layout job 0 r).code ≡ 0) × ((judged_after gray layout job 0 r).state.records * 16 ≤ room)
unfolding judged_after
after-header gray job room (GoodHeader.good {class = class} {high = high} {next = next}) l =
    shown (record { class = class; high = high; gray = gray }) job room (suc (length job - next)) (starting next) (omega arith) (omega arith) l
after-header gray job room (GoodHeader.ill {code = code} k) l = not-coded code k l

-- a job that passes keeps the layout rules and has room for its list
module _ (gray : Bool) (job : List ℕ) (room : ℕ) where
  abbrev Meets : Entry → Type 0
  Meets e = ((outcome_at gray layout job 0 e).code ≡ 0) × ((outcome_at gray layout job 0 e).state.records * 16 ≤ room)

  let_in : (short long : Bool) → (outcome_at gray every job room (pick short (Entry.refused 29 0) (pick long (Entry.refused 1 61440) Entry.admitted))).code ≡ 0
      → Meets (pick long (Entry.refused 1 61440) Entry.admitted)
  unfolding outcome_at
  let_in true long l = absurd (omega (arith, l))
  let_in false true l = absurd (omega (arith, l))
  let_in false false l = after-header gray job room (header-good job) l

  pub passes_kept : (work : ℕ) → (verdict_of gray job work room).code ≡ 0 → Keeps gray job × HasRoom gray job room
  unfolding verdict_of outcome_of entry_of
  passes_kept work l = let m = let_in (ltb work 16384) (ltb 61440 (length job)) l in (record { passes = m.0 }, record { fits = m.1 })

-- so demand 3 leaves out no job that passes
pub passes-exactly : PassesExactly
passes-exactly gray job work room h =
    (λ e. let k = passes_kept gray job room work e in (k.0, k.1, (demand_3 gray job work room h k.0 k.1).0.0 e), λ k. (demand_3 gray job work room h k.0 k.1).0.1 k.2)
