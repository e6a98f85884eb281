-- What the code keeps of a page: all of it, while at most 24 states are saved.
-- Assumes nothing.
use Rattle.std.specs.Prelude.{◌≤◌, ◌≡◌, length}
use Rattle.scope.specs.Arm as scope
use Rattle.page.specs.declared.page.Page.{Page}
use Rattle.page.specs.Views.{page_as}

-- the code's page p is read as q, and at most 24 states are saved
pub record PageHolds (p : Page) (q : scope.Page) : Type 0 where
  pub same : page_as p ≡ q
  pub few : length q.saved ≤ 24
