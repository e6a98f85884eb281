-- The entry: 29, 1, then the header, then the items; and both buffers afterwards.
-- Assumes nothing.
use Prim.Native.Nat.{ℕ, ◌≤◌, ◌<◌}
use mathlib.Core.Path.{◌≡◌, refl, sym, ap, ◌∙◌, subst}
use mathlib.Core.Bool.{Bool}
use mathlib.Core.List.{List, [], ◌++◌}
use borrow.Author.Tests.{lt-ltb, le-ltb}
use lib.ListN.{length, drop}
use Rattle.scope.specs.Header.{Class, Header, header_of}
use Rattle.scope.specs.Judge.{Outcome, refused_at, outer, starting, judged_from}
use Rattle.scope.specs.Verdict as verdict
use Rattle.scope.specs.Verdict.{every, refused, admitted, entry_of, judged_after, outcome_at, outcome_of, verdict_of, list_of, list_after, cleared_by, work_after}
use Rattle.state.specs.Views.{verdict_as}
use Rattle.state.specs.Standing.{Listed}
use Rattle.state.specs.declared.verdict.Verdict.{Verdict}
pub use Rattle.checker.specs.Claims.{answer, Promised}

pub short_work : (n w : ℕ) → w < 16384 → entry_of n w ≡ refused 29 0
unfolding entry_of
short_work n w h = rw (lt-ltb w 16384 h)

pub long_job : (n w : ℕ) → 16384 ≤ w → 61440 < n → entry_of n w ≡ refused 1 61440
unfolding entry_of
long_job n w h k = rw (le-ltb w 16384 h, lt-ltb 61440 n k)

pub lets_in : (n w : ℕ) → 16384 ≤ w → n ≤ 61440 → entry_of n w ≡ admitted
unfolding entry_of
lets_in n w h k = rw (le-ltb w 16384 h, le-ltb 61440 n k)

-- nothing was listed
pub unlisted : (list : List ℕ) → Listed list [] list
unfolding verdict.records_before
unlisted list = record { is = refl }

-- the list afterwards, from the operators that were listed
list-is : (gray : Bool) (job list list₁ : List ℕ) (w : ℕ) (e : Outcome) → outcome_of gray every job w (length list) ≡ e → Listed list e.state.past list₁ → list₁ ≡ list_after gray job w list
unfolding list_after list_of
list-is gray job list list₁ w e q h =
    h.is ∙ sym (ap (λ x. verdict.records_before x.state.past [] ++ drop (length (verdict.records_before x.state.past [])) list) q)

module _ (gray : Bool) (job work list : List ℕ) (v : Verdict) where
  -- refused before the job is looked at
  pub early : (code position : ℕ) → entry_of (length job) (length work) ≡ refused code position → verdict_as v ≡ verdict.told (refused_at code position outer (starting 0))
      → Promised gray job work list (answer v work list)
  unfolding verdict_of outcome_of outcome_at work_after cleared_by
  early code position e f =
      let o : outcome_of gray every job (length work) (length list) ≡ refused_at code position outer (starting 0) = rw e in
      record {
        verdict = f ∙ sym (ap verdict.told o);
        listed = list-is gray job list list (length work) (refused_at code position outer (starting 0)) o (unlisted list);
        worked = rw e;
      }

  pub whole : (work₁ list₁ : List ℕ) → entry_of (length job) (length work) ≡ admitted
      → verdict_as v ≡ verdict.told (judged_after gray every job (length list) (header_of job))
      → Listed list (judged_after gray every job (length list) (header_of job)).state.past list₁ → work₁ ≡ cleared_by admitted work → Promised gray job work list (answer v work₁ list₁)
  unfolding verdict_of outcome_of outcome_at work_after
  whole work₁ list₁ e f h k =
      let o : outcome_of gray every job (length work) (length list) ≡ judged_after gray every job (length list) (header_of job) = rw e in
      record {
        verdict = f ∙ sym (ap verdict.told o);
        listed = list-is gray job list list₁ (length work) (judged_after gray every job (length list) (header_of job)) o h;
        worked = k ∙ sym (ap (λ x. cleared_by x work) e);
      }

-- the header decides
pub header-no : (gray : Bool) (job list : List ℕ) (v : Verdict) (code place : ℕ) → Header.no code place ≡ header_of job → verdict_as v ≡ verdict.told (refused_at code place outer (starting 0))
    → (verdict_as v ≡ verdict.told (judged_after gray every job (length list) (header_of job))) × Listed list (judged_after gray every job (length list) (header_of job)).state.past list
unfolding judged_after
header-no gray job list v code place e f =
    let o : refused_at code place outer (starting 0) ≡ judged_after gray every job (length list) (header_of job) = rw (← e) in
    (f ∙ ap verdict.told o, subst (λ x. Listed list x.state.past list) o (unlisted list))

pub header_is : (gray : Bool) (job list list₁ : List ℕ) (v : Verdict) (class : Class) (high : Bool) (next : ℕ) → Header.is class high next ≡ header_of job
    → (verdict_as v ≡ verdict.told (judged_from every (record { class = class; high = high; gray = gray }) job (length list) (starting next)))
    × Listed list (judged_from every (record { class = class; high = high; gray = gray }) job (length list) (starting next)).state.past list₁
    → (verdict_as v ≡ verdict.told (judged_after gray every job (length list) (header_of job))) × Listed list (judged_after gray every job (length list) (header_of job)).state.past list₁
unfolding judged_after
header_is gray job list list₁ v class high next e f =
    let o : judged_from every (record { class = class; high = high; gray = gray }) job (length list) (starting next) ≡ judged_after gray every job (length list) (header_of job) = rw (← e) in
    (f.0 ∙ ap verdict.told o, subst (λ x. Listed list x.state.past list₁) o f.1)
