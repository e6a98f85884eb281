-- What a call selects: what all that its motif unfolds to selects.
-- Assumes nothing.
use Prim.Native.Nat.{ℕ}
use mathlib.Core.Path.{◌≡◌, refl, ◌∙◌}
use mathlib.Core.List.{List, [], ◌∷◌}
use borrow.Author.Tests.{eq-eqb}
use Rattle.scope.specs.Setting.{Setting}
use Rattle.scope.specs.Reading.{Operator}
use Rattle.scope.specs.Attributes.{bytes_in}
use Rattle.scope.specs.Arm.{Page, Seen, Stroke, step, walk, from}
use Rattle.scope.specs.Motif.{Motif}
use Rattle.scope.specs.Calls.{unfolded}
use Rattle.scope.specs.Session.{row_for}
use Rattle.patterns.specs.Selects.{wants_from}

-- the arm notes each number that is selected
walk-wants : (row : List Stroke) (w : Seen) → (walk row w).wants ≡ wants_from row w.wants
unfolding walk wants_from step
walk-wants [] w = refl
walk-wants (x ∷ l) w = walk-wants l (step x.act w)

-- a call itself selects none
pub call-wants : (set : Setting) (s : List ℕ) (held : List Motif) (o : Operator) (p : Page) (n : ℕ) → o.tag ≡ 0x5e
    → (walk (row_for set s held o) (from p n)).wants ≡ wants_from (unfolded held 32 [] (bytes_in s o.attrs 139)) []
unfolding row_for from wants_from
call-wants set s held o p n e = walk-wants (row_for set s held o) (from p n) ∙ rw (eq-eqb o.tag 0x5e e)
