-- Marks as one number.
-- Assumes nothing.
use Rattle.std.specs.Prelude.{ℕ, ◌/◌, ◌%◌, ◌^◌, Bool, eqb}

-- mark j of a number of 64 marks
unfoldable pub mark : (marks j : ℕ) → Bool
mark marks j = eqb (marks / 2 ^ j % 2) 1
