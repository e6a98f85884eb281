-- The proved jobs of request 12: PageCopies is 1, or not there. They are part of the table in Jobs.antt.
-- Assumes nothing.
use Prim.Native.Nat.{ℕ}
use mathlib.Core.List.{List, [], ◌∷◌, ◌++◌}
use Rattle.jobs.proofs.Parts.{H, HB, S, SB, P, Tried, try}

-- EndPage with this value of PageCopies, and EndSession
abbrev ends : List ℕ → List ℕ
ends value = value ++ (0xf8 ∷ 0x31 ∷ 0x44 ∷ 0x42 ∷ [])

abbrev pub copies : List Tried
copies =
    -- 1 copy
    try (H ∷ S ∷ P ∷ ends (0xc0 ∷ 0x01 ∷ []) ∷ []) 16384 65536 0 43 4294967295 9 4
    ∷  -- 1 copy as uint16
    try (H ∷ S ∷ P ∷ ends (0xc1 ∷ 0x01 ∷ 0x00 ∷ []) ∷ []) 16384 65536 0 44 4294967295 9 4
    ∷  -- 1 copy as uint16, high byte first
    try (HB ∷ SB ∷ P ∷ ends (0xc1 ∷ 0x00 ∷ 0x01 ∷ []) ∷ []) 16384 65536 0 44 4294967295 9 4
    ∷  -- 0 copies
    try (H ∷ S ∷ P ∷ ends (0xc0 ∷ 0x00 ∷ []) ∷ []) 16384 65536 16 37 4294967295 6 2
    ∷  -- 2 copies
    try (H ∷ S ∷ P ∷ ends (0xc0 ∷ 0x02 ∷ []) ∷ []) 16384 65536 16 37 4294967295 6 2
    ∷  -- 256 copies
    try (HB ∷ SB ∷ P ∷ ends (0xc1 ∷ 0x01 ∷ 0x00 ∷ []) ∷ []) 16384 65536 16 37 4294967295 6 2
    ∷  -- 65,535 copies
    try (HB ∷ SB ∷ P ∷ ends (0xc1 ∷ 0xff ∷ 0xff ∷ []) ∷ []) 16384 65536 16 37 4294967295 6 2
    ∷  -- 1 copy as uint32 is 15
    try (H ∷ S ∷ P ∷ ends (0xc2 ∷ 0x01 ∷ 0x00 ∷ 0x00 ∷ 0x00 ∷ []) ∷ []) 16384 65536 15 37 4294967295 6 2
    ∷ []
