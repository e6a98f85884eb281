-- `Page::put` meets its contract.
-- Assumes nothing.
use mathlib.Core.Path.{◌≡◌, refl}
use mathlib.Core.Bool.{Bool}
use Rattle.std.specs.Prelude.{Option, Some, None, unwrap_or}
use Rattle.scope.specs.Arm.{done, marked}
use Rattle.page.specs.Views.{mark_as}
use Rattle.page.proofs.page.Page.put.Goals as goal

-- what becomes of the cursor, or of the colour space
or_before : (mark : Option Bool) (before : Bool) → unwrap_or mark before ≡ marked (mark_as mark) before
or_before (Some b) before = refl
or_before None before = refl

pub returns : goal.returns
unfolding done
returns c = rw (c.unwrap_or.ensures, c.unwrap_or-2.ensures, or_before c.args.cursor c.args.self.cursor, or_before c.args.gray c.args.self.gray) refl
