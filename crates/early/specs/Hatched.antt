-- 02, item 10: the patterns that are defined where a session stands in a page, and what the code keeps of them.
-- Assumes nothing.
use Rattle.std.specs.Prelude.{◌≡◌, List, ℕ}
use Rattle.scope.specs.Session.{Session, page_patterns}
use Rattle.pattern_rows.specs.Numbers.{OfPage, OfSession, numbers_in, Few}

-- p has the numbers that are defined for the page and for the session, and no more than there are places for
pub record Hatched (p : List ℕ) (x : Session) : Type 0 where
  pub page : numbers_in p OfPage ≡ page_patterns x.busy
  pub session : numbers_in p OfSession ≡ x.patterns
  pub few : Few p
