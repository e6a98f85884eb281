-- White space that is passed by several bytes at once.
-- Assumes nothing.
use Rattle.std.specs.Prelude.{ℕ, ◌≤◌, ◌≡◌, List, length}
use Rattle.scope.specs.Item.{after}

-- from p to q there are bytes, and nothing but white space
pub record Passed (s : List ℕ) (p q : ℕ) : Type 0 where
  pub within : q ≤ length s
  pub white : after s p ≡ after s q
