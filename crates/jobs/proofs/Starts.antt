-- The proved jobs of request 7: a page starts in gray, or in RGB where the caller asks for it. They are part of the table in Jobs.
-- Assumes nothing.
use mathlib.Core.List.{List, [], ◌∷◌}
use Prim.Native.Nat.{ℕ}
use Rattle.scope.specs.Names.{EndPage, PushGS, PopGS, EndImage}
use Rattle.jobs.proofs.Parts.{times, op, H, S, E, P, O, Z, CUR, D, GR, GL, RGB, IM, RI, M, X, Tried, ◌gets◌at◌listed◌performed◌, in_gray}

-- SetColorSpace RGB
abbrev CS : List ℕ
CS = 0xc0 ∷ 0x02 ∷ 0xf8 ∷ 0x03 ∷ 0x6a ∷ []

abbrev pub starts : List Tried
starts =
    -- RGBColor at once, RGB asked for
    (H ∷ S ∷ P ∷ RGB ∷ op EndPage ∷ E ∷ []) gets 0 at 48 listed 10 performed 5
    ∷  -- RGBColor at once
    in_gray ((H ∷ S ∷ P ∷ RGB ∷ op EndPage ∷ E ∷ []) gets 25 at 45 listed 6 performed 2)
    ∷  -- GrayLevel at once, RGB asked for
    (H ∷ S ∷ P ∷ GL ∷ op EndPage ∷ E ∷ []) gets 25 at 41 listed 6 performed 2
    ∷  -- GrayLevel at once
    in_gray ((H ∷ S ∷ P ∷ GL ∷ op EndPage ∷ E ∷ []) gets 0 at 44 listed 10 performed 5)
    ∷  -- an image at once, RGB asked for
    (H ∷ S ∷ O ∷ P ∷ CUR ∷ IM ∷ []) gets 25 at 75 listed 11 performed 4
    ∷  -- an image at once
    in_gray ((H ∷ S ∷ O ∷ P ∷ CUR ∷ IM ∷ RI 0 2 ∷ D (times 8 (0x00 ∷ [])) ∷ op EndImage ∷ Z ∷ []) gets 0 at 103 listed 25 performed 10)
    ∷  -- PopGS brings the start back, RGB asked for
    (H ∷ S ∷ P ∷ op PushGS ∷ GR ∷ op PopGS ∷ GL ∷ []) gets 25 at 48 listed 10 performed 5
    ∷  -- PopGS brings the start back
    in_gray ((H ∷ S ∷ P ∷ op PushGS ∷ CS ∷ op PopGS ∷ RGB ∷ []) gets 25 at 52 listed 10 performed 5)
    ∷  -- in a motif, RGB asked for
    (H ∷ S ∷ O ∷ M 0x61 GL ∷ P ∷ X 0x61 ∷ Z ∷ []) gets 25 at 89 listed 14 performed 6
    ∷  -- in a motif
    in_gray ((H ∷ S ∷ O ∷ M 0x61 GL ∷ P ∷ X 0x61 ∷ Z ∷ []) gets 0 at 93 listed 19 performed 11)
    ∷  -- a second page starts anew, RGB asked for
    (H ∷ S ∷ P ∷ GR ∷ op EndPage ∷ P ∷ GL ∷ []) gets 25 at 56 listed 12 performed 5
    ∷  -- a second page starts anew
    in_gray ((H ∷ S ∷ P ∷ CS ∷ op EndPage ∷ P ∷ GL ∷ op EndPage ∷ E ∷ []) gets 0 at 59 listed 16 performed 8)
    ∷ []
