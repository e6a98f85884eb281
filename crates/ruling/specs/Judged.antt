-- What the rules after reading come to, but for the list.
-- Assumes nothing.
use Rattle.std.specs.Prelude.{ℕ, ◌≤◌, ◌≡◌, Result, Ok, Err}
use Rattle.scope.specs.Choice.{pick}
use Rattle.scope.specs.Judge.{Case, Refusal, refused, outer, first_broken, rules, room_over}
use Rattle.scope.specs.Verdict.{every}
use Rattle.page.specs.Holds.{PageHolds}
use Rattle.refusal.specs.declared.code.Code.{Code}
use Rattle.refusal.specs.Codes.{number_of}
use Rattle.refusal.specs.declared.refusal.Refusal.{Refusal as CodeRefusal}
use Rattle.arm.specs.declared.moved.Moved.{Moved}
use Rattle.early.specs.declared.early.Early.{Early}

-- the inner position of a refusal
abbrev pub inner_of : Result Early CodeRefusal → ℕ
inner_of (Ok early) = outer
inner_of (Err r) = r.place

-- no rule but that of the room can be broken, and the page and the number performed are those after the operator; or the first rule broken has this code
-- and this inner position
pub data Judgement (c : Case) (inner : ℕ) : Result Moved Code → Type 0 where
  judged_to : {m : Moved} → ((room : ℕ) → first_broken every c (rules room) ≡ pick (room_over room c) (refused 28 outer) Refusal.none)
      → PageHolds m.page c.seen.page → m.performed ≡ c.seen.count → c.seen.count ≤ 1_000_000 → Judgement c inner (Ok m)
  judged_no : {code : Code} → ((room : ℕ) → first_broken every c (rules room) ≡ refused (number_of code) inner) → Judgement c inner (Err code)
