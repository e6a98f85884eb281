-- The order of names: byte by byte, a shorter name before one that it begins. Three numbers stand in it as lists of three.
-- Assumes nothing.
use Rattle.std.specs.Prelude.{ℕ, Bool, true, false, List, [], ◌∷◌, ltb, eqb}
use Rattle.scope.specs.Choice.{pick}

-- the first name stands before the second
unfoldable pub before : List ℕ → List ℕ → Bool
before [] [] = false
before [] (y ∷ ys) = true
before (x ∷ xs) [] = false
before (x ∷ xs) (y ∷ ys) = pick (ltb x y) true (pick (eqb x y) (before xs ys) false)
