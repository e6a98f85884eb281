-- How a write to a lent buffer is told.
-- Assumes nothing.
use Rattle.std.specs.Prelude.{ℕ, ◌+◌, Bool, true, false, List, ◌++◌, length, take, drop, ltb}
use Rattle.scope.specs.Choice.{pick}
use Rattle.scope.specs.Verdict.{zeros}

-- xs with vs in the place of what stood from a on
unfoldable pub over : List ℕ → ℕ → List ℕ → List ℕ
over xs a vs = take a xs ++ (vs ++ drop (a + length vs) xs)

-- xs with vs from a on if there was room for them, else as it was
abbrev pub joined_at : Bool → List ℕ → ℕ → List ℕ → List ℕ
joined_at true xs a vs = over xs a vs
joined_at false xs a vs = xs

-- a work buffer with its first 16,384 bytes zero; a shorter one as it was
unfoldable pub cleared : List ℕ → List ℕ
cleared w = pick (ltb (length w) 16384) w (zeros 16384 ++ drop 16384 w)
