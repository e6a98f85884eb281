-- The page after a row with these endings, and rows that leave the page as it is.
-- Assumes nothing.
use Rattle.std.specs.Prelude.{◌≡◌, Bool, false, ◌||◌, List, [], ◌∷◌, ◌++◌}
use Rattle.scope.specs.Choice.{pick}
use Rattle.scope.specs.Arm as scope
use Rattle.page.specs.declared.page.Page.{Page}
use Rattle.summary.specs.declared.summary.Ending.{Ending}
use Rattle.page.specs.Views.{keeping}

-- the page after a row with these endings from the two starts
abbrev pub ends_at : Page → Ending → Ending → Page
ends_at p a b = record { cursor = pick p.cursor a.cursor b.cursor; gray = pick p.gray a.gray b.gray; depth = p.depth; saved = p.saved }

-- a row of operators that leave the page as it is and need no source; whether one of them needs the cursor set
pub data Kept : (cursor : Bool) → List scope.Stroke → Type 0 where
  kept_none : Kept false []
  kept_more : {c d : Bool} {row : List scope.Stroke} (x : scope.Stroke) → Kept c row → x.act ≡ keeping false d → Kept (c || d) (row ++ (x ∷ []))
