-- What a job performs, operator by operator, and how its judging ends: in words that a theorem can be read aloud with.
-- Assumes nothing.
use Rattle.std.specs.Prelude.{ℕ, ◌≡◌, Bool, List, [], ◌∷◌}
use Rattle.scope.specs.Reading.{Operator, Read, operator_at}
use Rattle.scope.specs.Setting.{Setting}
use Rattle.scope.specs.Session.{session_of}
use Rattle.scope.specs.Judge.{State, Case, Refusal, Outcome, case_of, rules, first_broken, after, end_at, refused_at, outer, context_of}

-- what is read next from a state
abbrev pub read_at : (ℕ → Bool) → Setting → List ℕ → State → Read
read_at given set s st = operator_at (context_of given set st.place) s st.at

-- what the rules look at for an operator in a state, and the state after it
abbrev pub case_at : Setting → List ℕ → State → Operator → Case
case_at set s st o = case_of set s st (session_of st.place) o

abbrev pub next : Setting → List ℕ → State → Operator → State
next set s st o = after set s st (case_at set s st o)

-- an operator is performed in a state: it is read next, and no rule refuses it
pub record Performs (given : ℕ → Bool) (set : Setting) (s : List ℕ) (room : ℕ) (st : State) (o : Operator) : Type 0 where
  pub reads : read_at given set s st ≡ Read.operator o
  pub kept : first_broken given (case_at set s st o) (rules room) ≡ Refusal.none

-- from a state these operators are performed, one after the other, to a state
pub data Runs (given : ℕ → Bool) (set : Setting) (s : List ℕ) (room : ℕ) : State → List Operator → State → Type 0 where
  here : {a : State} → Runs given set s room a [] a
  then : {a b : State} {o : Operator} {os : List Operator} → Performs given set s room a o → Runs given set s room (next set s a o) os b
      → Runs given set s room a (o ∷ os) b

-- judging ends in a state: at the end of the job, at what reading refuses, or at an operator that a rule refuses
pub data Ends (given : ℕ → Bool) (set : Setting) (s : List ℕ) (room : ℕ) (st : State) : Outcome → Type 0 where
  ended : read_at given set s st ≡ Read.ended → Ends given set s room st (end_at s st st.place)
  unread : {code place : ℕ} → read_at given set s st ≡ Read.no code place → Ends given set s room st (refused_at code place outer st)
  refused : {code inner : ℕ} {o : Operator} → read_at given set s st ≡ Read.operator o
      → first_broken given (case_at set s st o) (rules room) ≡ Refusal.refused code inner → Ends given set s room st (refused_at code o.at inner st)

-- an outcome, from a state on: some operators are performed, and there judging ends
pub record Comes (given : ℕ → Bool) (set : Setting) (s : List ℕ) (room : ℕ) (from : State) (e : Outcome) : Type 0 where
  pub ops : List Operator
  pub last : State
  pub runs : Runs given set s room from ops last
  pub ends : Ends given set s room last e

-- the operators of a run, put last one first before those already there, as a state keeps them
unfoldable pub onto : List Operator → List Operator → List Operator
onto [] before = before
onto (o ∷ os) before = onto os (o ∷ before)

-- two lists of operators, one by one
pub data Pairwise (Op : Operator → Operator → Type 0) : List Operator → List Operator → Type 0 where
  none : Pairwise Op [] []
  more : {a b : Operator} {l m : List Operator} → Op a b → Pairwise Op l m → Pairwise Op (a ∷ l) (b ∷ m)
