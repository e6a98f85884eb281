-- 02, item 14, "Order of pupils": what is proved of a job in which two neighbouring sessions change places. The theorems to prove, as types.
use Rattle.std.specs.Prelude.{ℕ, suc, ◌-◌, ◌≡◌, Bool, true, false, List, [], ◌∷◌, ◌++◌, length, take, drop, eqb}
use Rattle.scope.specs.Item.{Attribute}
use Rattle.scope.specs.Names.{BeginSession, EndSession}
use Rattle.scope.specs.Reading.{Operator}
use Rattle.scope.specs.Runs.{onto, Pairwise}
use Rattle.scope.specs.Verdict.{every, outcome_of, verdict_of, records_before, list_of}
use Rattle.scope.specs.Claims.{Further, OperatorMoved, RecordsMoved}

-- these are the operators that a job lists, the first one first
abbrev pub Lists : (gray : Bool) → (job : List ℕ) → (work room : ℕ) → List Operator → Type 0
Lists gray job work room ops = (outcome_of gray every job work room).state.past ≡ onto ops []

-- the records of some operators, 16 bytes each
abbrev pub records_of : List Operator → List ℕ
records_of ops = records_before (onto ops []) []

-- no EndSession is among them
unfoldable pub no_end : List Operator → Bool
no_end [] = true
no_end (o ∷ os) = elim (eqb o.tag EndSession) [ true ↦ false | false ↦ no_end os ]

-- a whole session: a BeginSession, operators among which no session ends, its EndSession
pub record WholeSession : Type 0 where
  pub begin : Operator
  pub middle : List Operator
  pub end : Operator
  pub begins : begin.tag ≡ BeginSession
  pub goes_on : no_end middle ≡ true
  pub ends : end.tag ≡ EndSession

abbrev pub operators : WholeSession → List Operator
operators a = a.begin ∷ (a.middle ++ (a.end ∷ []))

-- where an operator begins: at its first value tag, or at its own tag where it has no value; a BeginSession needs two
abbrev pub first_at : (at : ℕ) → List Attribute → ℕ
first_at at [] = at
first_at at (a ∷ l) = a.at

-- a session runs from its first value tag to the tag of its EndSession, and stops right behind that
abbrev pub starts : WholeSession → ℕ
starts a = first_at a.begin.at a.begin.attrs

abbrev pub stops : WholeSession → ℕ
stops a = suc a.end.at

-- the bytes of a job from one place up to another
abbrev pub part : (from to : ℕ) → List ℕ → List ℕ
part from to job = take (to - from) (drop from job)

-- a job in which the bytes from a to a' and those from b to b' have changed places; what stands before, between and behind them stays in its place
abbrev pub changed : (a a' b b' : ℕ) → List ℕ → List ℕ
changed a a' b b' job = take a job ++ (part b b' job ++ (part a' b job ++ (part a a' job ++ drop b' job)))

-- the job with two sessions exchanged
abbrev pub exchanged : (first second : WholeSession) → List ℕ → List ℕ
exchanged first second job = changed (starts first) (stops first) (starts second) (stops second) job

-- the second session moves to where the first started, the first to where the second stopped
abbrev pub second_moves : (first second : WholeSession) → ℕ → ℕ → Type 0
second_moves first second = Further (starts second) (starts first)

abbrev pub first_moves : (first second : WholeSession) → ℕ → ℕ → Type 0
first_moves first second = Further (stops first) (stops second)

-- what comes of it: a job as long, with the same verdict: if it passed, it passes, performs as many operators and lists as many records. It lists the same operators
-- before the two sessions and behind them, and each of the two with operators that are the same but for their places, which move by the change of place
pub record Exchange (gray : Bool) (job : List ℕ) (work room : ℕ) (before : List Operator) (first second : WholeSession) (rest : List Operator) : Type 0 where
  pub long : length (exchanged first second job) ≡ length job
  pub verdict : verdict_of gray (exchanged first second job) work room ≡ verdict_of gray job work room
  pub second' : WholeSession
  pub first' : WholeSession
  pub listed : Lists gray (exchanged first second job) work room (before ++ (operators second' ++ (operators first' ++ rest)))
  pub second_moved : Pairwise (OperatorMoved (second_moves first second)) (operators second) (operators second')
  pub first_moved : Pairwise (OperatorMoved (first_moves first second)) (operators first) (operators first')

-- request 14: two neighbouring whole sessions of a job may change places, with the same room for the list. What becomes of the job behind the two plays no part: 02
-- asks this of a job that passes
abbrev pub Exchanged : Type 0
Exchanged =
    (gray : Bool) (job : List ℕ) (work room : ℕ) (before : List Operator) (first second : WholeSession) (rest : List Operator)
    → Lists gray job work room (before ++ (operators first ++ (operators second ++ rest))) → Exchange gray job work room before first second rest

-- the same of the bytes of both lists: the records before the two sessions and behind them stay, byte for byte, and each session's records are, record by record,
-- the same but for the offsets, which move by the change of place; a 0 for no data stays
pub record ListExchange (gray : Bool) (job : List ℕ) (work room : ℕ) (before : List Operator) (first second : WholeSession) (rest : List Operator) : Type 0 where
  pub second' : List ℕ
  pub first' : List ℕ
  pub was : list_of gray job work room ≡ records_of before ++ (records_of (operators first) ++ (records_of (operators second) ++ records_of rest))
  pub is : list_of gray (exchanged first second job) work room ≡ records_of before ++ (second' ++ (first' ++ records_of rest))
  pub second_moved : RecordsMoved (second_moves first second) (records_of (operators second)) second'
  pub first_moved : RecordsMoved (first_moves first second) (records_of (operators first)) first'

abbrev pub ListsExchanged : Type 0
ListsExchanged =
    (gray : Bool) (job : List ℕ) (work room : ℕ) (before : List Operator) (first second : WholeSession) (rest : List Operator)
    → Lists gray job work room (before ++ (operators first ++ (operators second ++ rest))) → ListExchange gray job work room before first second rest

-- the operators of some sessions, one behind the other
unfoldable pub all_operators : List WholeSession → List Operator
all_operators [] = []
all_operators (a ∷ l) = operators a ++ all_operators l

-- the bytes of each
unfoldable pub bytes_of : List ℕ → List WholeSession → List (List ℕ)
bytes_of job [] = []
bytes_of job (a ∷ l) = part (starts a) (stops a) job ∷ bytes_of job l

-- what stands around them: before the first, from a place on, between two, and behind the last
unfoldable pub around : List ℕ → (from : ℕ) → List WholeSession → List (List ℕ)
around job from [] = drop from job ∷ []
around job from (a ∷ l) = part from (starts a) job ∷ around job (stops a) l

-- some stretches of bytes with others around them
unfoldable pub woven : (gaps stretches : List (List ℕ)) → List ℕ
woven [] xs = []
woven (g ∷ gs) [] = g
woven (g ∷ gs) (x ∷ xs) = g ++ (x ++ woven gs xs)

-- the same stretches in another order: two neighbours at the front are exchanged, or two behind the first ones, again and again
pub data Reordered : List (List ℕ) → List (List ℕ) → Type 0 where
  none : Reordered [] []
  behind : {x : List ℕ} {l m : List (List ℕ)} → Reordered l m → Reordered (x ∷ l) (x ∷ m)
  exchange : {x y : List ℕ} {l : List (List ℕ)} → Reordered (x ∷ y ∷ l) (y ∷ x ∷ l)
  again : {l m n : List (List ℕ)} → Reordered l m → Reordered m n → Reordered l n

-- a job that passes lists whole sessions, one behind the other, and nothing else
abbrev pub AllSessions : Type 0
AllSessions =
    (gray : Bool) (job : List ℕ) (work room : ℕ) → (verdict_of gray job work room).code ≡ 0
    → (sessions : List WholeSession) × Lists gray job work room (all_operators sessions)

-- and they may come in any order: with the bytes of its sessions in another order, and all that stands around them in its place, the job gets the same verdict
abbrev pub AnyOrder : Type 0
AnyOrder =
    (gray : Bool) (job : List ℕ) (work room : ℕ) (sessions : List WholeSession) (order : List (List ℕ)) → Lists gray job work room (all_operators sessions)
    → Reordered (bytes_of job sessions) order → verdict_of gray (woven (around job 0 sessions) order) work room ≡ verdict_of gray job work room
