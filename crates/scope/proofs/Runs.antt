-- Laws of runs: an outcome is a run and an end; runs append; what a run adds to the numbers and to the operators before.
-- Assumes nothing.
use Prim.Native.Nat.{ℕ, zero, suc, ◌+◌, ◌-◌, ◌≤◌, ◌<◌}
use mathlib.Core.Path.{◌≡◌, refl, ap, ◌∙◌, subst, subst⁻¹}
use mathlib.Core.Bool.{Bool, true}
use mathlib.Core.List.{List, [], ◌∷◌, ◌++◌, append-nil}
use native.Mathlib.Omega.{arith}
use lib.ListN.{length}
use Rattle.scope.specs.Iterate.{Next, go, stop, onward}
use Rattle.scope.specs.Order.{may_come}
use Rattle.scope.specs.Reading.{Operator, Read}
use Rattle.scope.specs.Arm.{from}
use Rattle.scope.specs.Setting.{Setting}
use Rattle.scope.specs.Session.{session_of, phase_of, page_of, row_for}
use Rattle.scope.specs.Judge.{State, Refusal, Outcome, case_of, rules, first_broken, after, on_refusal, on_case, on_read, context_of, job_step, judged_from}
use Rattle.scope.specs.Runs.{read_at, case_at, next, Performs, Runs, here, then, Ends, ended, unread, refused, Comes, onto}
use Rattle.scope.proofs.Ends.{GoodRead, read-good}
use Rattle.scope.proofs.Falls.{judged-step}
use Rattle.scope.proofs.Rows.{walk-count}
use Rattle.scope.proofs.Codes.{end-state}

pub onto-append : (os ps before : List Operator) → onto (os ++ ps) before ≡ onto ps (onto os before)
unfolding onto
onto-append [] ps before = refl
onto-append (o ∷ os) ps before = onto-append os ps (o ∷ before)

pub onto-onto : (os before later : List Operator) → onto (onto os before) later ≡ onto before (os ++ later)
unfolding onto
onto-onto [] before later = refl
onto-onto (o ∷ os) before later = onto-onto os (o ∷ before) later

-- turned twice is as it was
pub onto-back : (os : List Operator) → onto (onto os []) [] ≡ os
unfolding onto
onto-back os = onto-onto os [] [] ∙ append-nil os

module _ (given : ℕ → Bool) (set : Setting) (s : List ℕ) (room : ℕ) where
  -- an operator that is performed is one step
  pub performs-step : {st : State} {o : Operator} → Performs given set s room st o → job_step given set s room st ≡ go (next set s st o)
  unfolding job_step on_read on_case on_refusal
  performs-step {st} {o} p =
      ap (on_read given set s room st) p.reads ∙ ap (on_refusal set s st (case_at set s st o)) p.kept

  -- so is an end
  pub ends-step : {st : State} {e : Outcome} → Ends given set s room st e → job_step given set s room st ≡ stop e
  unfolding job_step on_read on_case on_refusal case_of
  ends-step {st} (ended r) = ap (on_read given set s room st) r
  ends-step {st} (unread r) = ap (on_read given set s room st) r
  ends-step {st} (refused {o = o} r b) = ap (on_read given set s room st) r ∙ ap (on_refusal set s st (case_at set s st o)) b

  -- the outcome of a state is that of the state that a run comes to
  pub runs-judged : {a b : State} {os : List Operator} → Runs given set s room a os b → judged_from given set s room a ≡ judged_from given set s room b
  runs-judged here = refl
  runs-judged (then {a = a} p r) =
      judged-step given set s room a ∙ ap (onward (judged_from given set s room)) (performs-step p) ∙ runs-judged r

  -- what comes to an outcome is judged so: there is no other outcome
  pub comes-judged : {a : State} {e : Outcome} → Comes given set s room a e → judged_from given set s room a ≡ e
  comes-judged c =
      runs-judged c.runs ∙ judged-step given set s room c.last ∙ ap (onward (judged_from given set s room)) (ends-step c.ends)

  pub runs_append : {a b c : State} {os ps : List Operator} → Runs given set s room a os b → Runs given set s room b ps c
      → Runs given set s room a (os ++ ps) c
  runs_append here q = q
  runs_append (then p r) q = then p (runs_append r q)

  -- a run of two parts comes through a state between them
  pub record Halves (a c : State) (os ps : List Operator) : Type 0 where
    pub mid : State
    pub first : Runs given set s room a os mid
    pub second : Runs given set s room mid ps c

  pub runs-split : {a c : State} (os ps : List Operator) → Runs given set s room a (os ++ ps) c → Halves a c os ps
  runs-split {a = a} {c = c} [] ps r = record { mid = a; first = here; second = r }
  runs-split {a = a} {c = c} (o ∷ os) ps (then p r) = let h = runs-split {a = next set s a o} {c = c} os ps r in record { mid = h.mid; first = then p h.first; second = h.second }

  pub runs_past : {a b : State} {os : List Operator} → Runs given set s room a os b → b.past ≡ onto os a.past
  unfolding onto after case_of
  runs_past here = refl
  runs_past (then p r) = runs_past r

  -- the state in which judging ends is the outcome's
  pub ends-state : {st : State} {e : Outcome} → Ends given set s room st e → e.state ≡ st
  ends-state {st} (ended r) = end-state s st st.place
  ends-state (unread r) = refl
  ends-state (refused r b) = refl

  -- numbers only grow along a run
  pub next-performed : (st : State) (o : Operator) → (next set s st o).performed ≡ st.performed + length (row_for set s (session_of st.place).held o)
  unfolding after case_of from
  next-performed st o = walk-count (row_for set s (session_of st.place).held o) (from (page_of (session_of st.place).busy) st.performed)

  pub next-records : (st : State) (o : Operator) → (next set s st o).records ≡ st.records + suc (length o.attrs)
  unfolding after case_of
  next-records st o = refl

  pub runs_grow : {a b : State} {os : List Operator} → Runs given set s room a os b → (a.performed ≤ b.performed) × (a.records ≤ b.records)
  runs_grow here = omega arith
  runs_grow (then {a = a} {o = o} p r) =
      let h = runs_grow r in let k = next-performed a o in let l = next-records a o in omega arith

  -- a place only grows too
  pub reads_on : (st : State) (o : Operator) → read_at given set s st ≡ Read.operator o → (st.at < o.next) × (o.next ≤ length s)
  reads_on st o e =
      of (subst (GoodRead (length s) st.at (may_come (phase_of st.place) (session_of st.place).opened)) e
      (unfold context_of in read-good (context_of given set st.place) s st.at))
    where
      of : {may : ℕ → Bool} → GoodRead (length s) st.at may (Read.operator o) → (st.at < o.next) × (o.next ≤ length s)
      of (GoodRead.operator h k m) = (h, k)

  -- an operator that is performed may come
  pub performs-may : {st : State} {o : Operator} → Performs given set s room st o → may_come (phase_of st.place) (session_of st.place).opened o.tag ≡ true
  unfolding context_of
  performs-may {st} {o} p =
      of (subst (GoodRead (length s) st.at (may_come (phase_of st.place) (session_of st.place).opened)) p.reads
      (read-good (context_of given set st.place) s st.at))
    where
      of : {may : ℕ → Bool} → GoodRead (length s) st.at may (Read.operator o) → may o.tag ≡ true
      of (GoodRead.operator x y z) = z

  pub performs-on : {st : State} {o : Operator} → Performs given set s room st o → (st.at < o.next) × (o.next ≤ length s)
  performs-on {st} {o} p = reads_on st o p.reads

  pub runs_on : {a b : State} {os : List Operator} → Runs given set s room a os b → a.at ≤ length s → (a.at ≤ b.at) × (b.at ≤ length s)
  unfolding after case_of
  runs_on here h = (omega arith, h)
  runs_on (then p r) h = let k = performs-on p in let l = runs_on r k.1 in (omega arith, l.1)

  pub runs_up : {a b : State} {os : List Operator} → Runs given set s room a os b → a.at ≤ b.at
  unfolding after case_of
  runs_up here = omega arith
  runs_up (then p r) = let k = performs-on p in let l = runs_up r in omega arith

  -- every judging is a run and then an end
  module _ (n : ℕ) (ih : (st : State) → length s - st.at < n → Comes given set s room st (judged_from given set s room st)) where
    by-rule : (st : State) (o : Operator) → read_at given set s st ≡ Read.operator o → length s - o.next < n → (f : Refusal)
        → first_broken given (case_at set s st o) (rules room) ≡ f
        → Comes given set s room st (onward (judged_from given set s room) (on_refusal set s st (case_at set s st o) f))
    unfolding on_refusal after case_of
    by-rule st o r h Refusal.none e =
        let c = ih (next set s st o) h in
        record { ops = o ∷ c.ops; last = c.last; runs = then (record { reads = r; kept = e }) c.runs; ends = c.ends }
    by-rule st o r h (Refusal.refused code inner) e = record { ops = []; last = st; runs = here; ends = refused r e }

    by_read : (st : State) → length s - st.at < suc n → (r : Read) → read_at given set s st ≡ r → {may : ℕ → Bool} → GoodRead (length s) st.at may r
        → Comes given set s room st (onward (judged_from given set s room) (on_read given set s room st r))
    unfolding on_read on_case
    by_read st h (Read.operator o) e (GoodRead.operator x y m) =
        let k : length s - o.next < n = omega arith in
        by-rule st o e k (first_broken given (case_at set s st o) (rules room)) refl
    by_read st h Read.ended e g = record { ops = []; last = st; runs = here; ends = ended e }
    by_read st h (Read.no code place) e g = record { ops = []; last = st; runs = here; ends = unread e }

  all_runs : (n : ℕ) (st : State) → length s - st.at < n → Comes given set s room st (judged_from given set s room st)
  unfolding job_step
  all_runs zero st h = absurd (omega arith)
  all_runs (suc n) st h =
      subst⁻¹ (Comes given set s room st) (judged-step given set s room st)
      (by_read n (all_runs n) st h (read_at given set s st) refl (read-good (context_of given set st.place) s st.at))

  pub runs_of : (st : State) → Comes given set s room st (judged_from given set s room st)
  runs_of st = all_runs (suc (length s - st.at)) st (omega arith)

-- a computed step is an operator performed; so a run of a job at hand is found by computing
abbrev state_of : State → Next State Outcome → State
state_of d (go t) = t
state_of d (stop e) = d

abbrev Goes : Next State Outcome → Type 0
Goes (go t) = Unit {0}
Goes (stop e) = ⊥

abbrev forth : (State → Next State Outcome) → Next State Outcome → Next State Outcome
forth k (go t) = k t
forth k (stop e) = stop e

-- so many steps
unfoldable pub steps : (ℕ → Bool) → Setting → List ℕ → ℕ → ℕ → State → Next State Outcome
steps given set s room zero st = go st
steps given set s room (suc n) st = forth (steps given set s room n) (job_step given set s room st)

module _ (given : ℕ → Bool) (set : Setting) (s : List ℕ) (room : ℕ) where
  pub record Reaches (a b : State) : Type 0 where
    pub ops : List Operator
    pub runs : Runs given set s room a ops b

  by-refusal : (a b : State) (o : Operator) → read_at given set s a ≡ Read.operator o → (f : Refusal) → first_broken given (case_at set s a o) (rules room) ≡ f
      → on_refusal set s a (case_at set s a o) f ≡ go b → Reaches a b
  unfolding on_refusal
  by-refusal a b o r Refusal.none e k =
      record { ops = o ∷ []; runs = subst (Runs given set s room a (o ∷ [])) (ap (state_of a) k) (then (record { reads = r; kept = e }) here) }
  by-refusal a b o r (Refusal.refused code inner) e k = absurd (subst⁻¹ Goes k tt)

  by-reading : (a b : State) (r : Read) → read_at given set s a ≡ r → on_read given set s room a r ≡ go b → Reaches a b
  unfolding on_read on_case
  by-reading a b (Read.operator o) e k = by-refusal a b o e (first_broken given (case_at set s a o) (rules room)) refl k
  by-reading a b Read.ended e k = absurd (subst⁻¹ Goes k tt)
  by-reading a b (Read.no code place) e k = absurd (subst⁻¹ Goes k tt)

  step-reaches : (a b : State) → job_step given set s room a ≡ go b → Reaches a b
  unfolding job_step
  step-reaches a b k = by-reading a b (read_at given set s a) refl k

  module _ (n : ℕ) (ih : (a b : State) → steps given set s room n a ≡ go b → Reaches a b) where
    by-step : (a b : State) (x : Next State Outcome) → job_step given set s room a ≡ x → forth (steps given set s room n) x ≡ go b → Reaches a b
    by-step a b (go c) e k =
        let u = step-reaches a c e in
        let v = ih c b k in
        record { ops = u.ops ++ v.ops; runs = runs_append given set s room u.runs v.runs }
    by-step a b (stop f) e k = absurd (subst⁻¹ Goes k tt)

  -- what so many steps come to is reached by a run
  pub steps-reach : (n : ℕ) (a b : State) → steps given set s room n a ≡ go b → Reaches a b
  unfolding steps
  steps-reach zero a b e = record { ops = []; runs = subst (Runs given set s room a []) (ap (state_of a) e) here }
  steps-reach (suc n) a b e = by-step n (steps-reach n) a b (job_step given set s room a) refl e
