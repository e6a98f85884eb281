-- The bytes of a held motif.
-- Assumes nothing.
use Rattle.std.specs.Prelude.{ℕ, ◌+◌, List, [], length, slice_range, leb}
use Rattle.scope.specs.Choice.{pick}
use Rattle.motif.specs.Held.{start_in, long_in}

-- the bytes that row k of a table says, of a store; none where the table has no such row, or the store no such bytes
abbrev pub bytes_in : (table store : List ℕ) → ℕ → List ℕ
bytes_in t s k =
    pick (leb 64 k) [] (pick (leb (start_in t k + long_in t k) (length s)) (slice_range s (start_in t k) (start_in t k + long_in t k)) [])
