-- The store with one motif replaced in its place.
-- Assumes nothing.
use Rattle.std.specs.Prelude.{ℕ, ◌+◌, ◌-◌, List, ◌++◌, reverse, length, take, drop, leb}
use Rattle.scope.specs.Choice.{pick}

-- the bytes w are those before the old ones, the old ones, those behind them up to used, and then the new ones: the new ones come in the place of the old ones,
-- and what is free now (the old ones from the last to the first) stands behind all; past that w is as it was, and so it is where the numbers do not say such parts
unfoldable pub replaced : List ℕ → (start old used new : ℕ) → List ℕ
replaced w start old used new =
    pick (leb (start + old) used)
    (pick (leb (used + new) (length w))
    (take start w
    ++ (take new (drop used w)
    ++ (take (used - (start + old)) (drop (start + old) w)
    ++ (reverse (take old (drop start w)) ++ drop (used + new) w))))
    w)
    w
