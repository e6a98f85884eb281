-- What a judgement says of the rules, the page and the number performed.
-- Assumes nothing.
use Prim.Native.Nat.{ℕ}
use mathlib.Core.Path.{◌≡◌}
use Rattle.std.specs.Prelude.{Ok, Err}
use Rattle.refusal.specs.declared.code.Code.{Code}
use Rattle.refusal.specs.Codes.{number_of}
use Rattle.page.specs.Holds.{PageHolds}
use Rattle.arm.specs.declared.moved.Moved.{Moved}
use Rattle.ruling.specs.Judged.{Judgement, judged_to, judged_no}
use Rattle.scope.specs.Choice.{pick}
use Rattle.scope.specs.Judge.{Case, Refusal, refused, outer, first_broken, rules, room_over}
use Rattle.scope.specs.Verdict.{every}

-- what a judgement says
pub judged-refused : {c : Case} {inner : ℕ} {code : Code} → Judgement c inner (Err code) → (room : ℕ) → first_broken every c (rules room) ≡ refused (number_of code) inner
judged-refused (judged_no f) = f

pub judged-rules : {c : Case} {inner : ℕ} {m : Moved} → Judgement c inner (Ok m) → (room : ℕ)
    → first_broken every c (rules room) ≡ pick (room_over room c) (refused 28 outer) Refusal.none
judged-rules (judged_to f a b e) = f

pub judged-page : {c : Case} {inner : ℕ} {m : Moved} → Judgement c inner (Ok m) → PageHolds m.page c.seen.page
judged-page (judged_to f a b e) = a

pub judged-count : {c : Case} {inner : ℕ} {m : Moved} → Judgement c inner (Ok m) → m.performed ≡ c.seen.count
judged-count (judged_to f a b e) = b
