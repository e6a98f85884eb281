-- What the code keeps of an arm on its way. Past 24 saved states, and past 1,000,000 operators, it keeps only that it is past.
-- Assumes nothing.
use Rattle.std.specs.Prelude.{◌≤◌, min, ◌≡◌, Bool, Result, Ok, Err}
use Rattle.scope.specs.Arm as scope
use Rattle.refusal.specs.declared.code.Code.{Code}
use Rattle.refusal.specs.Codes.{number_of}
use Rattle.arm.specs.declared.seen.Seen.{Seen}
use Rattle.arm.specs.declared.moved.Moved.{Moved}
use Rattle.page.specs.Views.{page_as}
use Rattle.page.specs.Holds.{PageHolds}
use Rattle.arm.specs.Codes.{code_of}

-- the part that is exact while no more than 24 were saved
pub record Exact (s : Seen) (w : scope.Seen) : Type 0 where
  pub page : page_as s.page ≡ w.page
  pub lost : s.lost ≡ w.lost
  pub wrong : s.wrong ≡ w.wrong

-- the code's s keeps what the arm w has seen, but for the patterns selected
pub record Holds (s : Seen) (w : scope.Seen) : Type 0 where
  pub count : s.count ≡ min w.count 1_000_001
  pub most : s.most ≡ min w.most 25
  pub source : s.source ≡ w.source
  pub exact : w.most ≤ 24 → Exact s w

-- the answer to operators that take the arm to w: the page after them and the number performed, where no rule is broken; or the code of the first rule
-- that is
pub data Moves (opened bare : Bool) : Result Moved Code → scope.Seen → Type 0 where
  moves_to : {m : Moved} {w : scope.Seen} → code_of opened bare w ≡ 0 → PageHolds m.page w.page → m.performed ≡ w.count → Moves opened bare (Ok m) w
  moves_no : {k : Code} {w : scope.Seen} → number_of k ≡ code_of opened bare w → Moves opened bare (Err k) w
