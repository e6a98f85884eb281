-- How many bytes the numbers of the code have: by a width, and by a value's tag.
-- Assumes nothing.
use Rattle.std.specs.Prelude.{ℕ, ◌%◌}
use Rattle.scope.specs.Item.{width_of}
use Rattle.number.specs.declared.number.Width.{Width}
use Rattle.number.specs.declared.number.Width.TheVariants.{One, Two, Four}

-- the bytes of a width
abbrev pub bytes_of : Width → ℕ
bytes_of One = 1
bytes_of Two = 2
bytes_of Four = 4

-- the bytes of a number of a value with tag t
unfoldable pub width_in : ℕ → ℕ
width_in t = width_of (t % 8)
