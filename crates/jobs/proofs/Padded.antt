-- The proved jobs of request 1: zero bytes are white space. They are part of the table in Jobs.antt.
-- Assumes nothing.
use Prim.Native.Nat.{ℕ}
use mathlib.Core.List.{List, [], ◌∷◌}
use lib.ListN.{take, drop}
use Rattle.jobs.proofs.Parts.{all, H, S, P, O, CUR, LD, M, X, Tried, try}

-- J with a zero byte put in before the byte at a place
abbrev zero_at : ℕ → List (List ℕ)
zero_at k = take k (all (H ∷ S ∷ (0x42 ∷ []) ∷ [])) ∷ (0x00 ∷ []) ∷ drop k (all (H ∷ S ∷ (0x42 ∷ []) ∷ [])) ∷ []

abbrev pub padded : List Tried
padded =
    -- behind the header
    try (zero_at 16) 16384 65536 0 30 4294967295 4 2
    ∷  -- behind a value
    try (zero_at 18) 16384 65536 0 30 4294967295 4 2
    ∷  -- behind an attribute's number
    try (zero_at 20) 16384 65536 0 30 4294967295 4 2
    ∷  -- behind a value of two numbers
    try (zero_at 25) 16384 65536 0 30 4294967295 4 2
    ∷  -- before an operator's tag
    try (zero_at 27) 16384 65536 0 30 4294967295 4 2
    ∷  -- between operators
    try (zero_at 28) 16384 65536 0 30 4294967295 4 2
    ∷  -- behind the last
    try (zero_at 29) 16384 65536 0 30 4294967295 4 2
    ∷  -- at all these places, among other white bytes too
    try (H ∷ (0x00 ∷ 0x20 ∷ 0x00 ∷ 0xc0 ∷ 0x00 ∷ 0x00 ∷ 0xf8 ∷ 0x86 ∷ 0x00 ∷ 0xd1 ∷ 0x58 ∷ 0x02 ∷ 0x58 ∷ 0x02 ∷ 0x00 ∷ 0xf8 ∷ 0x89 ∷ 0x00 ∷ 0x0a ∷ 0x41 ∷ 0x00 ∷ 0x42 ∷ 0x00 ∷ 0x00 ∷ []) ∷ []) 16384 65536 0 40 4294967295 4 2
    ∷  -- before the header
    try (zero_at 0) 16384 65536 2 0 4294967295 0 0
    ∷  -- for a fixed byte of the header
    try ((0x29 ∷ 0x00 ∷ []) ∷ drop 2 H ∷ S ∷ (0x42 ∷ []) ∷ []) 16384 65536 2 1 4294967295 0 0
    ∷  -- inside an attribute number's item: the number is 0, and PaintPath follows before a session
    try (zero_at 19) 16384 65536 10 20 4294967295 0 0
    ∷  -- inside a value: its bytes are then others, and 0x02 is left over
    try (zero_at 21) 16384 65536 6 25 4294967295 0 0
    ∷  -- for an array's length tag
    try (H ∷ (0xc8 ∷ 0x00 ∷ 0xc0 ∷ 0x00 ∷ []) ∷ []) 16384 65536 6 17 4294967295 0 0
    ∷  -- nothing but zeros behind the header
    try (H ∷ (0x00 ∷ 0x00 ∷ []) ∷ []) 16384 65536 27 18 4294967295 0 0
    ∷  -- zeros behind a value that waits
    try (H ∷ S ∷ (0x42 ∷ []) ∷ (0xc0 ∷ 0x00 ∷ 0x00 ∷ 0x00 ∷ []) ∷ []) 16384 65536 27 33 4294967295 4 2
    ∷  -- before and behind data
    try (H ∷ S ∷ O ∷ P ∷ CUR ∷ LD ∷ (0x00 ∷ 0x00 ∷ 0xfb ∷ 0x02 ∷ 0x00 ∷ 0x00 ∷ 0x00 ∷ 0x00 ∷ []) ∷ (0x44 ∷ 0x49 ∷ 0x42 ∷ []) ∷ []) 16384 65536 0 72 4294967295 17 8
    ∷  -- zeros alone where data is due
    try (H ∷ S ∷ O ∷ P ∷ CUR ∷ LD ∷ (0x00 ∷ 0x00 ∷ []) ∷ []) 16384 65536 27 63 4294967295 11 4
    ∷  -- a padded motif: behind its header, between its operators, behind its last
    try (H ∷ S ∷ O ∷ (M 0x61 (0x00 ∷ 0x00 ∷ 0x61 ∷ 0x00 ∷ 0x60 ∷ 0x00 ∷ [])) ∷ P ∷ (X 0x61) ∷ (0x44 ∷ 0x49 ∷ 0x42 ∷ []) ∷ []) 16384 65536 0 94 4294967295 19 12
    ∷  -- a motif with a zero before its header
    try (H ∷ S ∷ O ∷ (0xc8 ∷ 0xc0 ∷ 0x01 ∷ 0x61 ∷ 0xf8 ∷ 0x8b ∷ 0x5b ∷ 0xc1 ∷ 0x11 ∷ 0x00 ∷ 0xf8 ∷ 0x8c ∷ 0x5c ∷ 0xfb ∷ 0x11 ∷ 0x00 ∷ []) ∷ H ∷ (0x5d ∷ []) ∷ []) 16384 65536 2 69 0 10 4
    ∷ []
