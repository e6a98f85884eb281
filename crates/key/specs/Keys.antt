-- A name as three numbers: its first eight bytes and its next eight, the first byte the highest and 0 past the end, and its length.
-- Assumes nothing.
use Rattle.std.specs.Prelude.{ℕ, zero, suc, ◌+◌, ◌*◌, ◌≤◌, ◌<◌, List, [], ◌∷◌, length, get_or}

-- k bytes from a place on as one number
unfoldable pub packed : List ℕ → (from k : ℕ) → ℕ
packed s from zero = 0
packed s from (suc k) = packed s from k * 256 + get_or s (from + k) 0

-- the three numbers
unfoldable pub key_of : (name : List ℕ) → List ℕ
key_of name = packed name 0 8 ∷ packed name 8 8 ∷ length name ∷ []

-- a name that a motif may be held under: at most 16 bytes
pub record IsName (name : List ℕ) : Type 0 where
  pub short : length name ≤ 16
  pub bytes : (i : ℕ) → get_or name i 0 < 256
