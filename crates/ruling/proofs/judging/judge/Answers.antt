-- `judging::judge` meets its contract: an earlier rule that is broken, a call, or any other operator, of which none of the earlier rules is broken.
-- Assumes nothing.
use Rattle.std.proofs.Common.{◌≡◌, ℕ, Bool, false, List, refl, eqb, Result, Ok}
use Rattle.setting.specs.Views.{setting_as}
use Rattle.reader.specs.Reads.{operator_as}
use Rattle.scope.specs.Judge.{Case, case_of, outer}
use Rattle.scope.specs.Session.{session_of}
use Rattle.arm.specs.declared.moved.Moved.{Moved}
use Rattle.refusal.specs.declared.code.Code.{Code}
use Rattle.early.specs.Earlier.{Earlies, Unbroken, early_fine, early_call, early_held}
use Rattle.early.specs.declared.early.Early.{Early}
use Rattle.early.specs.declared.early.Early.TheVariants as early_is
use Rattle.ruling.specs.Judged.{Judgement}
use Rattle.ruling.proofs.Ruling.{early-judged, held-call}
use Rattle.ruling.proofs.judging.judge.Goals as goal

pub returns-in-Err : goal.returns-in-Err
returns-in-Err c = λ q st work t h z e y f. rw c.in-Err.is (early-judged (rw c.in-Err.is at f))

pub returns-in-Call : goal.returns-in-Call
returns-in-Call c = let a = c.args in
    λ q st work t h z e y f. rw c.in-Ok.is (c.call.ensures q st (setting_as a.set) a.job.now work t _ (operator_as a.o a.attrs.now) h e (rw (c.in-Ok.is, c.in-Call.is) at f))

-- none of the earlier rules is broken, and it is no call
others-judged : (t p : List ℕ) (c : Case) {m : Result Moved Code} {early : Early} → ((v : ℕ) (b : Bool) → early ≡ early_is.Call v b → ⊥) → Earlies t p c (Ok early)
    → (eqb c.op.tag 0x5e ≡ false → Unbroken c → Judgement c outer m) → Judgement c outer m
others-judged t p c n (early_fine a b u) k = k a u
others-judged t p c n (early_call {v = v} {b = b} a d e u) k = absurd (n v b refl)
others-judged t p c n (early_held a b m w u) k = k (held-call c.op.tag a) u

pub returns-in_default : goal.returns-in_default
unfolding case_of
returns-in_default c = let a = c.args in
    λ q st work t h z e y f. rw c.in-Ok.is (
    others-judged t _ (case_of (setting_as a.set) a.job.now st (session_of q) (operator_as a.o a.attrs.now)) c.in_default.not-Call (rw c.in-Ok.is at f)
    (λ x u. c.perform.ensures q st work t h z e y x u))
