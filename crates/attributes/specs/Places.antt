-- Which of some attributes is the first of a number.
-- Assumes nothing.
use Rattle.std.specs.Prelude.{ℕ, suc, List, [], ◌∷◌, eqb, Option, Some, None}
use Rattle.scope.specs.Choice.{pick}
use Rattle.scope.specs.Item.{Attribute}

-- counted from i on
unfoldable pub place_from : ℕ → ℕ → List Attribute → Option ℕ
place_from i n [] = None
place_from i n (a ∷ l) = pick (eqb a.number n) (Some i) (place_from (suc i) n l)

unfoldable pub place_of : ℕ → List Attribute → Option ℕ
place_of n l = place_from 0 n l
