-- Demand 3: a job that keeps the layout rules, with room for its list, passes exactly if the plain arm comes to its end with no rule broken; and the number
-- reported with a pass is the number of operators that arm performs. The reason: both go operator by operator over the same states; of one operator the judge's
-- notes at the end of its row say what the plain arm meets on the way (Rows), and after it the arm stands where the state says (Stands).
-- Assumes nothing.
use Prim.Native.Nat.{ℕ, zero, suc, ◌+◌, ◌-◌, ◌*◌, ◌≤◌, ◌<◌}
use mathlib.Core.Path.{◌≡◌, refl, sym, ap, ◌∙◌, subst, subst⁻¹}
use mathlib.Core.Bool.{Bool, true, false, not, ◌&&◌}
use mathlib.Core.List.{List, [], ◌++◌}
use native.Mathlib.Omega.{arith}
use lib.ListN.{length, length-append}
use lib.Dec.{eqb, ltb}
use borrow.Author.Tests.{le-ltb}
use Rattle.scope.specs.Choice.{pick, among}
use Rattle.scope.specs.Iterate.{onward}
use Rattle.scope.specs.Header.{Header}
use Rattle.scope.specs.Order.{may_come}
use Rattle.scope.specs.Reading.{Operator, Read, operator_at}
use Rattle.scope.specs.Arm.{Page, Seen, act_of, step, walk, from, Stroke}
use Rattle.scope.specs.Motif.{Motif}
use Rattle.scope.specs.Setting.{Setting}
use Rattle.scope.specs.Session.{session_of, phase_of, page_of, row_for}
use Rattle.scope.specs.Judge.{State, Outcome, refused_at, outer, Case, Refusal, starting, case_of, after, end_at, rules, first_broken, some_missing, on_refusal, on_case, on_read, context_of, job_step, judged_from}
use Rattle.scope.specs.Verdict.{every, layout, judged_after, Entry, entry_of, outcome_at, outcome_of, verdict_of}
use Rattle.scope.specs.Plain.{Turn, Deed, comes, deeds, turn_of, performed, context_at, on_operator, on_next, unroll_step, unfolded_after, unfolding_of, at_start}
use Rattle.scope.specs.Claims.{Demand3}
use Rattle.scope.proofs.Ends.{pick_all, Coded, GoodRead, read-good}
use Rattle.scope.proofs.Apart.{is_none}
use native.Mathlib.Nat.{zero-add}
use mathlib.Core.Logic.{◌↔◌}
use Rattle.scope.proofs.Falls.{judged-step}
use Rattle.scope.proofs.Asks.{Asks, alike, failed, closed, read-asks}
use Rattle.scope.proofs.Rows.{Around, Clean, arm_of, row-clean, clean_row, comes-append, deeds-length, walk-count}
use Rattle.scope.proofs.Codes.{end-state, not-coded, GoodJudged, judged-good, Refuses, not_so, so, broken-coded, state_code, around, Laid, laid, layout-none, clean_none, none-clean, GoodHeader, header-good}
use Rattle.scope.proofs.Stands.{standing, stands}
use Rattle.scope.proofs.Shaped.{doing_of, Shaped, shaped, row-shaped}
use Rattle.scope.specs.Sound.{Sound, sound_none}
use Rattle.scope.proofs.Sound.{known_of}
use Rattle.scope.proofs.Runs.{runs_of, ends-state, runs_grow}
use Rattle.scope.proofs.Gathered.{unrolled, unrolled-step, gathered}
use Rattle.scope.proofs.Follows.{sound-after, at-state, phase-same, operator-on}

module _ (set : Setting) (s : List ℕ) where
  abbrev lay : State → Outcome
  lay = judged_from layout set s 0

  -- the state after an operator
  abbrev next : State → Operator → State
  next st o = after set s st (case_of set s st (session_of st.place) o)

  -- the row of an operator
  abbrev row_of : State → Operator → List Stroke
  row_of st o = row_for set s (session_of st.place).held o

  -- records only grow
  grows : (st : State) → st.records ≤ (lay st).state.records
  grows st =
      let c = runs_of layout set s 0 st in
      subst⁻¹ (λ w. st.records ≤ w.records) (ends-state layout set s 0 c.ends) (runs_grow layout set s 0 c.runs).1

-- what an operator's row says of the plain arm, for rows of either shape
shaped-clean : (o : Around) {t : Turn} {r : List Stroke} (w : Seen) → Shaped t r → Clean o w → comes (deeds t r) (arm_of o w) ≡ true → Clean o (walk r w)
shaped-clean o {t} w (shaped {a = a} {l = l} f) h e = row-clean o t a l w f h e

clean_shaped : (o : Around) {t : Turn} {r : List Stroke} (w : Seen) → Shaped t r → Clean o (walk r w) → comes (deeds t r) (arm_of o w) ≡ true
clean_shaped o {t} w (shaped {a = a} {l = l} f) h = clean_row o t a l w f h

start-clean : (o : Around) (p : Page) (n : ℕ) → n ≤ 1_000_000 → Clean o (from p n)
unfolding from some_missing
start-clean o p n h = record { source = refl; most = omega arith; lost = refl; wrong = refl; there = refl; count = h }

both_true : (a b : Bool) → pick a b false ≡ true → a ≡ true
both_true true b e = refl
both_true false b e = e

no_source : (a b : Bool) → (a && not b) ≡ false → b ≡ false → a ≡ true → ◌≡◌ {A = ℕ} 0 1
no_source a b e f g = cc

read-source : (set : Setting) (s : List ℕ) (held : List Motif) (o : Operator) (p : Page) (n : ℕ) → eqb o.tag 0x5e ≡ false → o.reads ≡ true
    → (walk (row_for set s held o) (from p n)).source ≡ true
unfolding row_for walk step from act_of
read-source set s held o p n e f = rw (e, f) refl

module _ (set : Setting) (s : List ℕ) (room : ℕ) where
  abbrev full : State → Outcome
  full = judged_from every set s room

  -- what is to be shown of an outcome and a row of operators, from a state on
  record Result (e : Outcome) (row : List Deed) (st : State) : Type 0 where
    passes : e.code ≡ 0 → comes row (standing st) ≡ true
    back : comes row (standing st) ≡ true → e.code ≡ 0
    count : e.code ≡ 0 → e.state.performed ≡ st.performed + length row

  abbrev Shown : ℕ → Type 0
  Shown n =
      (st : State) → Sound set (session_of st.place).held → length s - st.at < n → st.performed ≤ 1_000_000 → (lay set s st).code ≡ 0 → (lay set s st).state.records * 16 ≤ room
      → Result (full st) (unrolled set s (at-state st [])) st

  module _ (st : State) (o : Operator) (may : may_come (phase_of st.place) (session_of st.place).opened o.tag ≡ true) where
    abbrev the_case : Case
    the_case = case_of set s st (session_of st.place) o

    abbrev st' : State
    st' = next set s st o

    abbrev own : List Deed
    own = deeds (turn_of set.gray (doing_of st.place) o.tag) (row_of set s st o)

    abbrev later : List Deed
    later = unrolled set s (at-state st' [])

    abbrev all : List Deed
    all = unrolled set s (at-state st' own)

    all-is : all ≡ own ++ later
    all-is = gathered set s (suc (length s - st'.at)) (at-state st' []) own (omega arith)

    comes-all : comes all (standing st) ≡ pick (comes own (standing st)) (comes later (standing st')) false
    comes-all =
        ap (λ l. comes l (standing st)) all-is ∙ comes-append own later (standing st)
        ∙ ap (λ w. pick (comes own (standing st)) (comes later w) false) (stands set s st o may)

    own-clean : st.performed ≤ 1_000_000 → comes all (standing st) ≡ true → Clean (around the_case.session) the_case.seen
    unfolding case_of from
    own-clean h e =
        let x = session_of st.place in
        shaped-clean (around x) (from (page_of x.busy) st.performed) (row-shaped set s (doing_of st.place) x.held o) (start-clean (around x) (page_of x.busy) st.performed h)
        (both_true (comes own (standing st)) (comes later (standing st')) (sym comes-all ∙ e))

    clean_own : Clean (around the_case.session) the_case.seen → comes own (standing st) ≡ true
    unfolding case_of from
    clean_own h =
        let x = session_of st.place in
        clean_shaped (around x) (from (page_of x.busy) st.performed) (row-shaped set s (doing_of st.place) x.held o) h

    counted : st'.performed ≡ st.performed + length (row_of set s st o)
    unfolding after case_of from
    counted = walk-count (row_of set s st o) (from (page_of (session_of st.place).busy) st.performed)

    all-length : length all ≡ length (row_of set s st o) + length later
    all-length = ap length all-is ∙ length-append own later ∙ ap (λ k. k + length later) (deeds-length (turn_of set.gray (doing_of st.place) o.tag) (row_of set s st o))

    -- the operator is refused: the plain arm breaks a rule in its row
    stopped : (code place inner : ℕ) → Coded code → (Clean (around the_case.session) the_case.seen → ⊥) → st.performed ≤ 1_000_000
        → Result (refused_at code place inner st) all st
    stopped code place inner k d h =
        record { passes = λ e. not-coded code k e; back = λ e. absurd (d (own-clean h e)); count = λ e. not-coded code k e }

    -- it is performed
    performed-on : Clean (around the_case.session) the_case.seen → Result (full st') later st' → Result (full st') all st
    performed-on h r =
        let e = comes-all ∙ ap (λ b. pick b (comes later (standing st')) false) (clean_own h) in
        record {
          passes = λ k. e ∙ r.passes k;
          back = λ k. r.back (sym e ∙ k);
          count = λ k. let a = r.count k in let b = counted in let c = all-length in omega arith;
        }

  module _ (n : ℕ) (ih : Shown n) (st : State) (sound : Sound set (session_of st.place).held) (h : length s - st.at < suc n) (few : st.performed ≤ 1_000_000) where
    module _ (o : Operator) (less : length s - o.next < n) (may : may_come (phase_of st.place) (session_of st.place).opened o.tag ≡ true) where
      abbrev c : Case
      c = case_of set s st (session_of st.place) o

      fits-here : (lay set s (next set s st o)).state.records * 16 ≤ room → c.records * 16 ≤ room
      unfolding after case_of
      fits-here r =
          let g = grows set s (next set s st o) in
          omega arith

      by_state : Laid c → (f : Refusal) → state_code room c ≡ f → Refuses f → (lay set s (next set s st o)).code ≡ 0
          → (lay set s (next set s st o)).state.records * 16 ≤ room
          → Result (onward full (on_refusal set s st c f)) (all st o may) st
      unfolding on_refusal after case_of
      by_state d Refusal.none e not_so l r =
          let k = none-clean room c e in
          performed-on st o may k (ih (next set s st o) (sound-after set s st o sound may d) less k.count l r)
      by_state d (Refusal.refused code inner) e (so k) l r =
          stopped st o may code o.at inner k (λ q. absurd (is_none (sym e ∙ clean_none room c q (fits-here r)))) few

      made-good : GoodJudged c.made
      unfolding case_of
      made-good = judged-good set _ o.tag

      -- the row that the plain arm performs from here on, where no layout rule is broken
      all_here : Laid c → unrolled set s (on_operator set s (at-state st []) o) ≡ all st o may
      all_here d = ap (unrolled set s) (operator-on set s st o sound may d [])

      by_layout : (f : Refusal) → first_broken layout c (rules 0) ≡ f → Refuses f → (onward (lay set s) (on_refusal set s st c f)).code ≡ 0
          → (onward (lay set s) (on_refusal set s st c f)).state.records * 16 ≤ room
          → Result (onward full (on_refusal set s st c (first_broken every c (rules room)))) (unrolled set s (on_operator set s (at-state st []) o)) st
      unfolding on_refusal
      by_layout Refusal.none e not_so l r =
          let j = layout-none room c e in
          let d = laid c e in
          let g = subst Refuses j (broken-coded every room c made-good) in
          subst⁻¹ (λ z. Result (onward full (on_refusal set s st c (first_broken every c (rules room)))) z st) (all_here d)
          (subst⁻¹ (λ f. Result (onward full (on_refusal set s st c f)) (all st o may) st) j (by_state d (state_code room c) refl g l r))
      by_layout (Refusal.refused code inner) e (so k) l r = not-coded code k l

      -- an operator that both readings give
      on-operator : (onward (lay set s) (on_read layout set s 0 st (Read.operator o))).code ≡ 0
          → (onward (lay set s) (on_read layout set s 0 st (Read.operator o))).state.records * 16 ≤ room
          → Result (onward full (on_read every set s room st (Read.operator o)))
          (onward (unrolled set s) (on_next set s (at-state st []) (Read.operator o))) st
      unfolding on_read on_case on_next
      on-operator l r = by_layout (first_broken layout c (rules 0)) refl (broken-coded layout 0 c made-good) l r

      -- one that only the reading that asks for no open source gives
      closed-by : (place : ℕ) → o.reads ≡ true → (session_of st.place).opened ≡ false → eqb o.tag 0x5e ≡ false
          → (f : Refusal) → first_broken layout c (rules 0) ≡ f → Refuses f → (onward (lay set s) (on_refusal set s st c f)).code ≡ 0
          → Result (refused_at 17 place outer st) (unrolled set s (on_operator set s (at-state st []) o)) st
      unfolding on_refusal case_of
      closed-by place a b d Refusal.none e not_so l =
          subst⁻¹ (λ z. Result (refused_at 17 place outer st) z st) (all_here (laid c e))
          (stopped st o may 17 place outer tt
          (λ q. let z = no_source c.seen.source (session_of st.place).opened q.source b
          (read-source set s (session_of st.place).held o (page_of (session_of st.place).busy) st.performed d a) in omega arith) few)
      closed-by place a b d (Refusal.refused code inner) e (so k) l = not-coded code k l

      on-closed : (place : ℕ) → o.reads ≡ true → (session_of st.place).opened ≡ false → eqb o.tag 0x5e ≡ false
          → (onward (lay set s) (on_read layout set s 0 st (Read.operator o))).code ≡ 0
          → Result (onward full (on_read every set s room st (Read.no 17 place)))
          (onward (unrolled set s) (on_next set s (at-state st []) (Read.operator o))) st
      unfolding on_read on_case on_next
      on-closed place a b d l = closed-by place a b d (first_broken layout c (rules 0)) refl (broken-coded layout 0 c made-good) l

    on-end : (end_at s st st.place).code ≡ 0 → Result (end_at s st st.place) [] st
    unfolding comes
    on-end l = record { passes = λ _. refl; back = λ _. l; count = λ _. rw (end-state s st st.place) (omega arith) }

    on_both : {r q : Read} → Asks (session_of st.place).opened r q
        → GoodRead (length s) st.at (may_come (phase_of st.place) (session_of st.place).opened) r
        → (onward (lay set s) (on_read layout set s 0 st r)).code ≡ 0
        → (onward (lay set s) (on_read layout set s 0 st r)).state.records * 16 ≤ room
        → Result (onward full (on_read every set s room st q)) (onward (unrolled set s) (on_next set s (at-state st []) r)) st
    unfolding on_read on_next
    on_both alike (GoodRead.operator {o = o} a b m) l r = let k : length s - o.next < n = omega arith in on-operator o k m l r
    on_both alike GoodRead.ended l r = on-end l
    on_both alike (GoodRead.no {code = code} k) l r = not-coded code k l
    on_both failed (GoodRead.no {code = code} k) l r = not-coded code k l
    on_both (closed {o = o} {place = p} x y z) (GoodRead.operator a b m) l r =
        let k : length s - o.next < n = omega arith in on-closed o k m p x y z l

  shown : (n : ℕ) → Shown n
  unfolding job_step unroll_step context_of context_at layout among
  shown zero st sound h few l r = absurd (omega arith)
  shown (suc n) st sound h few l r =
      let a = judged-step layout set s 0 st in
      let x = session_of st.place in
      let g = on_both n (shown n) st sound h few (read-asks set (phase_of st.place) s x.opened st.at)
      (read-good (context_of layout set st.place) s st.at) (ap (λ z. z.code) (sym a) ∙ l) (subst (λ z. z.state.records * 16 ≤ room) a r) in
      let p : unroll_step set s (at-state st []) ≡ on_next set s (at-state st []) (operator_at (context_of layout set st.place) s st.at) =
      ap (λ f. on_next set s (at-state st []) (operator_at (record { set = set; phase = f; opened = x.opened; asked = false }) s st.at)) (phase-same st.place) in
      subst⁻¹ (λ z. Result z (unrolled set s (at-state st [])) st) (judged-step every set s room st)
      (subst⁻¹ (λ z. Result (onward full (job_step every set s room st)) z st) (unrolled-step set s (at-state st []) ∙ ap (onward (unrolled set s)) p) g)

-- what is to be shown of an outcome and of the row that the plain arm performs
abbrev Meets : Outcome → List Deed → Type 0
Meets e row = ((e.code ≡ 0) ↔ (comes row at_start ≡ true)) × (e.code ≡ 0 → e.state.performed ≡ length row)

at-header : (gray : Bool) (job : List ℕ) (room : ℕ) {r : Header} → GoodHeader r → (judged_after gray layout job 0 r).code ≡ 0
    → (judged_after gray layout job 0 r).state.records * 16 ≤ room → Meets (judged_after gray every job room r) (unfolded_after gray job r)
unfolding judged_after unfolded_after known_of
at-header gray job room (GoodHeader.good {class = class} {high = high} {next = next}) l r =
    let k = shown (record { class = class; high = high; gray = gray }) job room (suc (length job - next)) (starting next) sound_none (omega arith) (omega arith) l r in
    ((k.passes, k.back), λ e. k.count e ∙ zero-add _)
at-header gray job room (GoodHeader.ill {code = code} k) l r = not-coded code k l

data GoodEntry : Entry → Type 0 where
  fine : GoodEntry Entry.admitted
  early : {code position : ℕ} → (code ≡ 0 → ⊥) → GoodEntry (Entry.refused code position)

one-is_not : ◌≡◌ {A = ℕ} 1 0 → ⊥
one-is_not e = omega arith

entry_good : (n : ℕ) → GoodEntry (entry_of n 16384)
unfolding entry_of
entry_good n = pick_all GoodEntry (ltb 61440 n) (λ _. early one-is_not) (λ _. fine)

at_entry : (gray : Bool) (job : List ℕ) (room : ℕ) {e : Entry} → GoodEntry e → (outcome_at gray layout job 0 e).code ≡ 0
    → (outcome_at gray layout job 0 e).state.records * 16 ≤ room → Meets (outcome_at gray every job room e) (unfolding_of gray job)
unfolding outcome_at unfolding_of
at_entry gray job room fine l r = at-header gray job room (header-good job) l r
at_entry gray job room (early k) l r = absurd (k l)

entry_same : (n work : ℕ) → 16384 ≤ work → entry_of n work ≡ entry_of n 16384
unfolding entry_of
entry_same n work h = rw (le-ltb work 16384 h) refl

pub demand_3 : Demand3
unfolding verdict_of outcome_of
demand_3 gray job work room h keeps fits =
    subst⁻¹ (λ e. Meets (outcome_at gray every job room e) (unfolding_of gray job)) (entry_same (length job) work h)
    (at_entry gray job room (entry_good (length job)) keeps.passes fits.fits)
