-- What an operator leaves of the patterns: the numbers that are defined.
-- Assumes nothing.
use Rattle.std.specs.Prelude.{ℕ, ◌≤◌, ◌≡◌, true, false, List, length}
use Rattle.scope.specs.Motif.{Picture}
use Rattle.scope.specs.Session.{defined_after}
use Rattle.pattern_rows.specs.Numbers.{OfPage, OfSession, numbers_in}
use Rattle.place.specs.Places.{Beside}

-- p₁ has what p has, and what an operator of this tag defines, where this picture is open and there is room
pub record Defines (p : List ℕ) (tag : ℕ) (v : Picture) (p₁ : List ℕ) : Type 0 where
  pub beside : Beside p p₁
  pub page : length (numbers_in p OfPage) ≤ 32 → numbers_in p₁ OfPage ≡ defined_after false tag v (numbers_in p OfPage)
  pub session : length (numbers_in p OfSession) ≤ 32 → numbers_in p₁ OfSession ≡ defined_after true tag v (numbers_in p OfSession)
