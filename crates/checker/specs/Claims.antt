-- What is claimed of every answer of `check`: the demands, for all jobs and buffers.
-- Assumes nothing.
use Rattle.std.specs.Prelude.{ℕ, ◌+◌, ◌*◌, ◌≤◌, ◌<◌, ◌≡◌, ◌↔◌, Bool, true, false, List, [], ◌++◌, length, take, drop}
use Rattle.scope.specs.Header.{one, Header, header_of}
use Rattle.scope.specs.Setting.{Setting, headed}
use Rattle.scope.specs.Item.{spaces, after}
use Rattle.scope.specs.Reading.{Operator}
use Rattle.scope.specs.Judge.{State}
use Rattle.scope.specs.Before.{outcome_before, list_before}
use Rattle.scope.specs.Verdict.{every, told, zeros, verdict_of, list_after, work_after}
use Rattle.scope.specs.Plain.{unfolding_of, comes, at_start}
use Rattle.scope.specs.Claims.{Keeps, HasRoom, Reached, Between, limit, Further, Shifted, RecordsMoved, records_from, move_by, put_in, Gap, ItemFrom, SameItem}
use Rattle.scope.specs.Exchange.{Lists, records_of, WholeSession, operators, exchanged, second_moves, first_moves, all_operators, bytes_of, around, woven, Reordered}
use Rattle.state.specs.Views.{verdict_as}
use Rattle.state.specs.declared.verdict.Verdict.{Verdict}

-- an answer: the verdict, and both buffers afterwards
pub record Answer : Type 0 where
  pub verdict : Verdict
  pub work : List ℕ
  pub list : List ℕ

-- the answer of a verdict and two buffers
abbrev pub answer : Verdict → (work list : List ℕ) → Answer
answer v work list = record { verdict = v; work = work; list = list }

-- what `check` promises of its answer to a job, where these buffers are lent: the contract in src/entry.rt
pub record Promised (gray : Bool) (job work list : List ℕ) (a : Answer) : Type 0 where
  pub verdict : verdict_as a.verdict ≡ verdict_of gray job (length work) (length list)
  pub listed : a.list ≡ list_after gray job (length work) list
  pub worked : a.work ≡ work_after job work

-- demand 1: one answer only, in the verdict and in each byte of both buffers
abbrev pub OneAnswer : Type 0
OneAnswer = (gray : Bool) (job work list : List ℕ) (a b : Answer) → Promised gray job work list a → Promised gray job work list b → a ≡ b

-- demand 1: the position is a place of the job, or its end
abbrev pub PlaceInJob : Type 0
PlaceInJob = (gray : Bool) (job work list : List ℕ) (a : Answer) → Promised gray job work list a → a.verdict.position ≤ length job

-- demand 1: what the buffers held before plays no part in the verdict, only their lengths do
abbrev pub OldContents : Type 0
OldContents =
    (gray : Bool) (job work list work' list' : List ℕ) (a b : Answer) → length work ≡ length work' → length list ≡ length list' → Promised gray job work list a
    → Promised gray job work' list' b → a.verdict ≡ b.verdict

-- demand 1: no motif is left behind: afterwards the first 16,384 bytes of the work buffer are zero, and the rest is as it was
abbrev pub NoMotifBehind : Type 0
NoMotifBehind =
    (gray : Bool) (job work list : List ℕ) (a : Answer) → Promised gray job work list a → length job ≤ 61440 → 16384 ≤ length work → a.work ≡ zeros 16384 ++ drop 16384 work

-- demand 1: the work buffer afterwards carries nothing of the job: it is the same for any two jobs that are not too long
abbrev pub WorkCarriesNothing : Type 0
WorkCarriesNothing =
    (gray : Bool) (job other work list : List ℕ) (a b : Answer) → Promised gray job work list a → Promised gray other work list b → length job ≤ 61440 → length other ≤ 61440
    → a.work ≡ b.work

-- two answers are the same from a state of each job on: code, inner, what is performed and listed since; the position but for the change of place; and the bytes
-- of the records since, but for places
pub record AnswersAlike (p q : State) (a b : Answer) : Type 0 where
  pub code : a.verdict.code ≡ b.verdict.code
  pub position : a.verdict.position + q.at ≡ b.verdict.position + p.at
  pub inner : a.verdict.inner ≡ b.verdict.inner
  pub records : a.verdict.records + q.records ≡ b.verdict.records + p.records
  pub performed : a.verdict.performed + q.performed ≡ b.verdict.performed + p.performed
  pub listed : RecordsMoved (Further p.at q.at) (records_from p.records a.verdict.records a.list) (records_from q.records b.verdict.records b.list)

-- demand 2: sessions are isolated: two jobs of one class, byte order and start, each standing outside a session, whose bytes from there on are the same and not all white, get the
-- same answer from there on, whatever each has performed and listed before, unless one of them gets 26 or 28
abbrev pub SessionsIsolated : Type 0
SessionsIsolated =
    (set : Setting) (job other work work' list list' : List ℕ) (a b : Answer) (p q : State) → Promised set.gray job work list a → Promised set.gray other work' list' b
    → length job ≤ 61440 → length other ≤ 61440 → 16384 ≤ length work → 16384 ≤ length work' → Between set job (length list) p → Between set other (length list') q
    → drop p.at job ≡ drop q.at other → after job p.at < length job → limit a.verdict.code ≡ false → limit b.verdict.code ≡ false
    → AnswersAlike p q a b

-- white space between operators plays no part: a job, and the job with white bytes put in where its judging stands, get the same answer from there on, so many bytes
-- further on
abbrev pub WhiteIgnored : Type 0
WhiteIgnored =
    (set : Setting) (job blank work list : List ℕ) (a b : Answer) (st : State) → Promised set.gray job work list a → Promised set.gray (put_in st.at blank job) work list b
    → 16384 ≤ length work → length (put_in st.at blank job) ≤ 61440 → spaces blank ≡ length blank → Reached set job (length list) st
    → AnswersAlike st (move_by (length blank) st) a b

-- two answers, to a job and to the job with so many bytes put in at p, are the same: code, inner, what is performed and listed; the position but for the shift; the
-- bytes of the records up to a state; and those since, but for places
pub record AnswersShifted (p many : ℕ) (st : State) (a b : Answer) : Type 0 where
  pub code : a.verdict.code ≡ b.verdict.code
  pub position : Shifted p many a.verdict.position b.verdict.position
  pub inner : a.verdict.inner ≡ b.verdict.inner
  pub records : a.verdict.records ≡ b.verdict.records
  pub performed : a.verdict.performed ≡ b.verdict.performed
  pub front : take (st.records * 16) a.list ≡ take (st.records * 16) b.list
  pub listed : RecordsMoved (Shifted p many) (records_from st.records a.verdict.records a.list) (records_from st.records b.verdict.records b.list)

-- nor does it between the items of an operator: a job, and the job with white bytes put in at a place between two items that judging reads, get the same answer, but
-- for places behind the white bytes
abbrev pub WhiteIgnoredInside : Type 0
WhiteIgnoredInside =
    (set : Setting) (job blank work list : List ℕ) (a b : Answer) (p : ℕ) (st : State) → Promised set.gray job work list a → Promised set.gray (put_in p blank job) work list b
    → 16384 ≤ length work → length (put_in p blank job) ≤ 61440 → spaces blank ≡ length blank → Reached set job (length list) st
    → Gap set.high job p (record { at = st.at; attrs = [] }) → AnswersShifted p (length blank) st a b

-- the byte order plays no part: two jobs of the same length, class and start, each with a header of its own byte order that ends at the same place, whose items from
-- there on are the same, each number in the byte order of its job, get the same answer, the verdict and each byte of both buffers
abbrev pub OrderIgnored : Type 0
OrderIgnored =
    (set other : Setting) (job turned work list : List ℕ) (next : ℕ) (a b : Answer) → Promised set.gray job work list a → Promised other.gray turned work list b
    → 16384 ≤ length work → length job ≤ 61440 → length job ≡ length turned → set.class ≡ other.class → set.gray ≡ other.gray → header_of job ≡ headed set next
    → header_of turned ≡ headed other next → ((at : ℕ) → ItemFrom set.high job next at → SameItem set.high other.high job turned at) → a ≡ b

-- request 6: a job of class 1;1 gets the answer that it got before: the five numbers, and in the list the records, behind them what stood there
abbrev pub AnsweredAsBefore : Type 0
AnsweredAsBefore =
    (gray : Bool) (job work list : List ℕ) (a : Answer) (high : Bool) (next : ℕ) → Promised gray job work list a → header_of job ≡ Header.is one high next
    → (verdict_as a.verdict ≡ told (outcome_before gray every job (length work) (length list)))
    × (a.list ≡ list_before gray job (length work) (length list) ++ drop (length (list_before gray job (length work) (length list))) list)

-- two answers, to a job and to the job with two sessions exchanged, have the same verdict and the same work buffer; in the list the records before the two sessions
-- stay, and so does all that stands behind the two; and each session's records are, record by record, the same but for the offsets
pub record AnswersExchanged (before : List Operator) (first second : WholeSession) (a b : Answer) : Type 0 where
  pub verdict : b.verdict ≡ a.verdict
  pub work : b.work ≡ a.work
  pub second' : List ℕ
  pub first' : List ℕ
  pub behind : List ℕ
  pub was : a.list ≡ records_of before ++ (records_of (operators first) ++ (records_of (operators second) ++ behind))
  pub is : b.list ≡ records_of before ++ (second' ++ (first' ++ behind))
  pub second_moved : RecordsMoved (second_moves first second) (records_of (operators second)) second'
  pub first_moved : RecordsMoved (first_moves first second) (records_of (operators first)) first'

-- request 14: two neighbouring whole sessions of a job may change places, where the same buffers are lent
abbrev pub SessionsExchanged : Type 0
SessionsExchanged =
    (gray : Bool) (job work list : List ℕ) (before : List Operator) (first second : WholeSession) (rest : List Operator) (a b : Answer) → Promised gray job work list a
    → Promised gray (exchanged first second job) work list b → Lists gray job (length work) (length list) (before ++ (operators first ++ (operators second ++ rest)))
    → AnswersExchanged before first second a b

-- and the sessions of a job may come in any order: the verdict is the same
abbrev pub OrderOfPupils : Type 0
OrderOfPupils =
    (gray : Bool) (job work list : List ℕ) (sessions : List WholeSession) (order : List (List ℕ)) (a b : Answer) → Promised gray job work list a
    → Promised gray (woven (around job 0 sessions) order) work list b → Lists gray job (length work) (length list) (all_operators sessions)
    → Reordered (bytes_of job sessions) order → b.verdict ≡ a.verdict

-- demand 3: a job that keeps the layout rules, with room for its list, passes exactly if the plain arm comes to its end with no rule broken; and the number
-- reported with a pass is the number of operators that the arm performs
abbrev pub PassesAsDrawn : Type 0
PassesAsDrawn =
    (gray : Bool) (job work list : List ℕ) (a : Answer) → Promised gray job work list a → 16384 ≤ length work → Keeps gray job → HasRoom gray job (length list)
    → ((a.verdict.code ≡ 0) ↔ (comes (unfolding_of gray job) at_start ≡ true))
    × (a.verdict.code ≡ 0 → a.verdict.performed ≡ length (unfolding_of gray job))

-- demand 3, the other way round too: what passes keeps the layout rules and has room for its list
abbrev pub PassesOnly : Type 0
PassesOnly =
    (gray : Bool) (job work list : List ℕ) (a : Answer) → Promised gray job work list a → 16384 ≤ length work
    → (a.verdict.code ≡ 0) ↔ (Keeps gray job × HasRoom gray job (length list) × (comes (unfolding_of gray job) at_start ≡ true))
