-- Where a job stands outside a session: before its first item, and behind each EndSession that it performs.
-- Assumes nothing.
use Prim.Native.Nat.{ℕ, ◌+◌, ◌-◌, ◌≤◌}
use mathlib.Core.Path.{◌≡◌, refl, sym, ap, ◌∙◌, subst}
use mathlib.Core.Bool.{Bool, true, false}
use mathlib.Core.List.{List, [], ◌∷◌, ◌++◌}
use lib.ListN.{length}
use Rattle.scope.specs.Header.{header_of}
use Rattle.scope.specs.Order.{may_come}
use Rattle.scope.specs.Reading.{Operator}
use Rattle.scope.specs.Setting.{Setting, headed}
use Rattle.scope.specs.Session.{Place, outside, inside, session_of, phase_of, place_after}
use Rattle.scope.specs.Judge.{State, case_of, after, judged_from, starting}
use Rattle.scope.specs.Verdict.{every, outcome_of}
use Rattle.scope.specs.Runs.{case_at, next, Performs, Runs, here, then, Comes, onto}
use Rattle.scope.specs.Claims.{Between}
use Rattle.scope.proofs.Runs.{performs-may, runs_of, runs_append, runs_past, ends-state, onto-append, onto-onto, onto-back, Halves, runs-split}
use Rattle.scope.proofs.Apart.{clash-of}
use Rattle.scope.proofs.Sessions.{reached-judged}

module _ (given : ℕ → Bool) (set : Setting) (s : List ℕ) (room : ℕ) where
  -- behind an EndSession the job stands outside a session
  pub end-outside : (st : State) (o : Operator) → Performs given set s room st o → o.tag ≡ 0x42 → (next set s st o).place ≡ outside true
  unfolding after case_of place_after phase_of may_come
  end-outside st o p e = by st.place (ap (may_come (phase_of st.place) (session_of st.place).opened) (sym e) ∙ performs-may given set s room p)
    where
      by : (w : Place) → may_come (phase_of w) (session_of w).opened 0x42 ≡ true → place_after set s o (case_at set s st o).seen.page w ≡ outside true
      by (outside v) g = clash-of (sym g)
      by (inside x) g = rw e refl

-- before the first item of a job it stands outside a session
pub between_start : (set : Setting) (job : List ℕ) (room next : ℕ) → header_of job ≡ headed set next → Between set job room (starting next)
between_start set job room next e = record { there = record { next = next; header = e; before = []; runs = here }; after_one = false; stands = refl }

-- behind each EndSession that a job performs it stands between two sessions
module _ (set : Setting) (job : List ℕ) (work room start : ℕ) (h : 16384 ≤ work) (k : length job ≤ 61440) (e : header_of job ≡ headed set start) where
  pub record Behind (o : Operator) (past : List Operator) : Type 0 where
    pub state : State
    pub stands : Between set job room state
    pub at : state.at ≡ o.next
    pub past_is : state.past ≡ o ∷ past

  pub all-ops : Comes every set job room (starting start) (judged_from every set job room (starting start))
  all-ops = runs_of every set job room (starting start)

  past-ops : (outcome_of set.gray every job work room).state.past ≡ onto all-ops.ops []
  past-ops =
      ap (λ z. z.state.past) (reached-judged set job work room (starting start) h k (between_start set job room start e).there)
      ∙ ap (λ z. z.past) (ends-state every set job room all-ops.ends) ∙ runs_past every set job room all-ops.runs

  pub ops-are : (ops : List Operator) → (outcome_of set.gray every job work room).state.past ≡ onto ops [] → all-ops.ops ≡ ops
  ops-are ops f = sym (onto-back all-ops.ops) ∙ ap (λ l. onto l []) (sym past-ops ∙ f) ∙ onto-back ops

  by-run : (front later : List Operator) (o : Operator) → Halves every set job room (starting start) all-ops.last front (o ∷ later) → o.tag ≡ 0x42 → Behind o (onto front [])
  unfolding after case_of
  by-run front later o r f = of r.mid r.first r.second
    where
      of : (w : State) → Runs every set job room (starting start) front w → Runs every set job room w (o ∷ later) all-ops.last → Behind o (onto front [])
      of w u (then p v) =
          record {
            state = next set job w o;
            stands = record {
              there = record { next = start; header = e; before = front ++ (o ∷ []); runs = runs_append every set job room u (then p here) };
              after_one = true;
              stands = end-outside every set job room w o p f;
            };
            at = refl;
            past_is = ap (λ l. o ∷ l) (runs_past every set job room u);
          }

  pub behind : (later past : List Operator) (o : Operator) → (outcome_of set.gray every job work room).state.past ≡ later ++ (o ∷ past) → o.tag ≡ 0x42 → Behind o past
  unfolding onto
  behind later past o f g =
      let turned : onto (onto past [] ++ (o ∷ onto later [])) [] ≡ later ++ (o ∷ past) =
      onto-append (onto past []) (o ∷ onto later []) [] ∙ ap (onto (o ∷ onto later [])) (onto-back past) ∙ onto-onto later [] (o ∷ past) in
      let r : Runs every set job room (starting start) (onto past [] ++ (o ∷ onto later [])) all-ops.last =
      subst (λ l. Runs every set job room (starting start) l all-ops.last) (ops-are (onto past [] ++ (o ∷ onto later [])) (f ∙ sym turned)) all-ops.runs in
      subst (Behind o) (onto-back past) (by-run (onto past []) (onto later []) o (runs-split every set job room (onto past []) (o ∷ onto later []) r) g)
