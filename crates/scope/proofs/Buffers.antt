-- The work buffer afterwards is the same whatever the job was: no motif is left in it. It is untouched exactly with codes 1 and 29. Both buffers' old contents
-- play no part in the verdict, as `verdict_of` is not given them.
-- Assumes nothing.
use Prim.Native.Nat.{ℕ, ◌-◌, ◌≤◌}
use mathlib.Core.Path.{◌≡◌, refl, sym, ap, ◌∙◌, subst}
use mathlib.Core.Bool.{Bool, true, false, ◌||◌}
use mathlib.Core.List.{List, ◌++◌}
use borrow.Author.Tests.{le-ltb, ne_eqb}
use lib.ListN.{length, drop}
use lib.Dec.{ltb, eqb}
use Rattle.scope.specs.Choice.{pick}
use Rattle.scope.specs.Header.{Header, header_of}
use Rattle.scope.specs.Reading.{Read}
use Rattle.scope.specs.Setting.{Setting}
use Rattle.scope.specs.Session.{Place, outside, inside as within, session_of}
use Rattle.scope.specs.Judge.{State, Outcome, Case, Refusal, starting, outer, refused_at, case_of, end_at, on_refusal, on_case, on_read, context_of, job_step, judged_from}
use Rattle.scope.specs.Verdict.{every, Entry, refused, admitted, entry_of, judged_after, outcome_at, outcome_of, verdict_of, zeros, cleared_by, work_after}
use Rattle.scope.specs.Claims.{NoMotifLeft, Zeroed}
use Rattle.scope.proofs.Ends.{pick_all, Kept, kept_go, kept_stop, iterate-holds, Coded, ZeroOr, none_given, given, GoodRead, read-good}
use Rattle.scope.proofs.Codes.{judged-good, Refuses, not_so, so, broken-coded, GoodHeader, header-good}

short : (n work : ℕ) → n ≤ 61440 → entry_of n work ≡ entry_of 0 work
unfolding entry_of
short n work h = rw (le-ltb 61440 n h)

pub no-motif_left : NoMotifLeft
unfolding work_after
no-motif_left job other work h k =
    ap (λ e. cleared_by e work) (short (length job) (length work) h ∙ sym (short (length other) (length work) k))

pub zeroed : Zeroed
unfolding work_after cleared_by entry_of
zeroed job work h k = rw (le-ltb (length work) 16384 k, le-ltb 61440 (length job) h)

-- an outcome of judging passes, or has a code that is neither 1 nor 29
pub data Late : Outcome → Type 0 where
  late : {e : Outcome} → ZeroOr e.code → Late e

abbrev Any : State → Type 0
Any st = Unit {0}

module _ (set : Setting) (s : List ℕ) (room : ℕ) where
  refusal_late : (st : State) (c : Case) {f : Refusal} → Refuses f → Kept Any Late (on_refusal set s st c f)
  unfolding on_refusal
  refusal_late st c not_so = kept_go tt
  refusal_late st c (so k) = kept_stop (late (given k))

  end-late : (st : State) (w : Place) → Late (end_at s st w)
  unfolding end_at
  end-late st (outside true) = late none_given
  end-late st (outside false) = late (given tt)
  end-late st (within x) = late (given tt)

  read-late : (st : State) {at len : ℕ} {may : ℕ → Bool} {r : Read} → GoodRead len at may r → Kept Any Late (on_read every set s room st r)
  unfolding on_read on_case case_of
  read-late st (GoodRead.operator {o = o} x y z) =
      refusal_late st _ (broken-coded every room (case_of set s st (session_of st.place) o) (judged-good set _ o.tag))
  read-late st GoodRead.ended = kept_stop (end-late st st.place)
  read-late st (GoodRead.no k) = kept_stop (late (given k))

  step-late : (st : State) → Any st → Kept Any Late (job_step every set s room st)
  unfolding job_step
  step-late st u = read-late st (read-good (context_of every set st.place) s st.at)

  judged-late : (st : State) → Late (judged_from every set s room st)
  unfolding judged_from
  judged-late st =
      iterate-holds (job_step every set s room) (refused_at 5 0 outer (starting 0)) Any Late (late (given tt)) step-late (λ x. length s - x.at) st tt

pub header-late : (gray : Bool) (job : List ℕ) (room : ℕ) {r : Header} → GoodHeader r → Late (judged_after gray every job room r)
unfolding judged_after
header-late gray job room (GoodHeader.good {class = class} {high = high} {next = next}) = judged-late (record { class = class; high = high; gray = gray }) job room (starting next)
header-late gray job room (GoodHeader.ill k) = late (given k)

neither : (k : ℕ) → ZeroOr k → (eqb k 1 || eqb k 29) ≡ false
neither k none_given = refl
neither k (given c) = rw (ne_eqb k 1 (λ e. subst Coded e c), ne_eqb k 29 (λ e. subst Coded e c)) refl

-- what the entry may say
pub data Entered : Entry → Type 0 where
  short_work : Entered (refused 29 0)
  long_job : Entered (refused 1 61440)
  inside : Entered admitted

pub entered : (n work : ℕ) → Entered (entry_of n work)
unfolding entry_of
entered n work = pick_all Entered (ltb work 16384) (λ _. short_work) (λ _. pick_all Entered (ltb 61440 n) (λ _. long_job) (λ _. inside))

pub late-code : {e : Outcome} → Late e → ZeroOr e.code
late-code (late z) = z

by-entry : (gray : Bool) (job work : List ℕ) (room : ℕ) {e : Entry} → Entered e
    → cleared_by e work
    ≡ pick (eqb (outcome_at gray every job room e).code 1 || eqb (outcome_at gray every job room e).code 29) work (zeros 16384 ++ drop 16384 work)
unfolding cleared_by outcome_at
by-entry gray job work room short_work = refl
by-entry gray job work room long_job = refl
by-entry gray job work room inside =
    rw (neither (judged_after gray every job room (header_of job)).code (late-code (header-late gray job room (header-good job)))) refl

-- untouched with codes 1 and 29; with all others the first 16,384 bytes are zero and the rest untouched
pub work-by_code : (gray : Bool) (job work : List ℕ) (room : ℕ)
    → work_after job work
    ≡ pick (eqb (verdict_of gray job (length work) room).code 1 || eqb (verdict_of gray job (length work) room).code 29) work (zeros 16384 ++ drop 16384 work)
unfolding work_after verdict_of outcome_of
work-by_code gray job work room = by-entry gray job work room (entered (length job) (length work))
