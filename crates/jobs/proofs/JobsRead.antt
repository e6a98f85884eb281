-- Proved jobs that the header and reading decide: the jobs of 01, (a) to (h), and others, each for a rule that its comment names. They are part of the table
-- in Jobs.
-- Assumes nothing.
use mathlib.Core.List.{List, [], ◌∷◌}
use lib.ListN.{take}
use Rattle.scope.specs.Names.{EndPage, Comment, CloseDataSource, PushGS, LinePath, EndImage}
use Rattle.jobs.proofs.Parts.{times, op, ◌with◌at◌, H, S, E, J, P, O, Z, CUR, LD, D, GR, IM, RI, Tried, ◌gets◌at◌listed◌performed◌}

-- the jobs of 01; (i) is in Jobs
abbrev pub given : List Tried
given =
    -- a
    (J ∷ []) gets 0 at 29 listed 4 performed 2
    ∷  -- b
    ([]) gets 2 at 0 listed 0 performed 0
    ∷  -- c
    ((0x27 ∷ []) ∷ []) gets 3 at 0 listed 0 performed 0
    ∷  -- d
    (H ∷ []) gets 27 at 16 listed 0 performed 0
    ∷  -- e
    (H ∷ S ∷ []) gets 27 at 28 listed 3 performed 1
    ∷  -- f, since request 6
    ((H with 0x32 at 12) ∷ []) gets 27 at 16 listed 0 performed 0
    ∷  -- g
    ((J with 0xc6 at 16) ∷ []) gets 6 at 16 listed 0 performed 0
    ∷  -- h
    ((J with 0x03 at 17) ∷ []) gets 16 at 16 listed 0 performed 0
    ∷ []

-- 2 to 18 and 27 in a job, and what passes
abbrev pub read : List Tried
read =
    -- empty comment
    ((H with 0x3b at 15) ∷ (0x0a ∷ []) ∷ S ∷ E ∷ []) gets 0 at 30 listed 4 performed 2
    ∷  -- CR
    ((H with 0x0d at 15) ∷ (0x0a ∷ []) ∷ S ∷ E ∷ []) gets 2 at 15 listed 0 performed 0
    ∷  -- 2 before 4
    (((H with 0x33 at 12) with 0x58 at 15) ∷ []) gets 2 at 15 listed 0 performed 0
    ∷  -- value value
    (H ∷ (0xc0 ∷ 0x00 ∷ 0xc1 ∷ 0x05 ∷ []) ∷ []) gets 6 at 18 listed 0 performed 0
    ∷  -- c8 c2
    (H ∷ (0xc8 ∷ 0xc2 ∷ []) ∷ []) gets 6 at 17 listed 0 performed 0
    ∷  -- 8 before 5
    (H ∷ (0xc8 ∷ 0xc1 ∷ 0x01 ∷ 0x04 ∷ []) ∷ []) gets 8 at 16 listed 0 performed 0
    ∷  -- 7
    (H ∷ (times 16 (0xc0 ∷ 0x00 ∷ 0xf8 ∷ 0x86 ∷ [])) ∷ (0xc2 ∷ []) ∷ []) gets 7 at 80 listed 0 performed 0
    ∷  -- 6, not 7
    (H ∷ (times 16 (0xc0 ∷ 0x00 ∷ 0xf8 ∷ 0x86 ∷ [])) ∷ (0xff ∷ []) ∷ []) gets 6 at 80 listed 0 performed 0
    ∷  -- 15 and two values
    (H ∷ (times 15 (0xc0 ∷ 0x00 ∷ 0xf8 ∷ 0x86 ∷ [])) ∷ (0xc0 ∷ 0x00 ∷ 0xc0 ∷ 0x00 ∷ []) ∷ []) gets 6 at 78 listed 0 performed 0
    ∷  -- 6 before 9
    (H ∷ (0xc0 ∷ 0x00 ∷ 0x45 ∷ []) ∷ []) gets 6 at 18 listed 0 performed 0
    ∷  -- 0x40
    (H ∷ (0x40 ∷ []) ∷ []) gets 6 at 16 listed 0 performed 0
    ∷  -- twice
    (H ∷ (0xc0 ∷ 0x00 ∷ 0xf8 ∷ 0x86 ∷ 0xc0 ∷ 0x00 ∷ 0xf9 ∷ 0x86 ∷ 0x00 ∷ 0xd1 ∷ 0x58 ∷ 0x02 ∷ 0x58 ∷ 0x02 ∷ 0xf8 ∷ 0x89 ∷ 0x41 ∷ []) ∷ []) gets 12 at 20 listed 0 performed 0
    ∷  -- 390
    (H ∷ (0xc0 ∷ 0x00 ∷ 0xf9 ∷ 0x86 ∷ 0x01 ∷ 0xd1 ∷ 0x58 ∷ 0x02 ∷ 0x58 ∷ 0x02 ∷ 0xf8 ∷ 0x89 ∷ 0x41 ∷ []) ∷ []) gets 11 at 16 listed 0 performed 0
    ∷  -- 17 before 27
    (H ∷ S ∷ P ∷ CUR ∷ LD ∷ []) gets 17 at 51 listed 8 performed 3
    ∷  -- 18 before 24
    (H ∷ S ∷ O ∷ P ∷ LD ∷ (0xfb ∷ 0x01 ∷ 0x00 ∷ []) ∷ []) gets 18 at 54 listed 9 performed 3
    ∷  -- 18 for ff
    (H ∷ S ∷ O ∷ P ∷ CUR ∷ LD ∷ (0xff ∷ []) ∷ []) gets 18 at 60 listed 11 performed 4
    ∷  -- white before data
    (H ∷ S ∷ O ∷ P ∷ CUR ∷ LD ∷ (0x20 ∷ 0x0a ∷ 0xfb ∷ 0x02 ∷ 0x00 ∷ 0x00 ∷ []) ∷ Z ∷ []) gets 0 at 70 listed 17 performed 8
    ∷  -- second data
    (H ∷ S ∷ O ∷ P ∷ CUR ∷ LD ∷ (D (0x00 ∷ 0x00 ∷ [])) ∷ (0xfb ∷ 0x00 ∷ []) ∷ []) gets 6 at 65 listed 14 performed 5
    ∷  -- image
    (H ∷ S ∷ O ∷ P ∷ GR ∷ CUR ∷ IM ∷ (RI 0 1) ∷ (D (times 4 (0x00 ∷ []))) ∷ (RI 1 1) ∷ (D (times 4 (0x00 ∷ []))) ∷ (op EndImage) ∷ Z ∷ []) gets 0 at 123 listed 31 performed 12
    ∷  -- EndImage early
    (H ∷ S ∷ O ∷ P ∷ GR ∷ CUR ∷ IM ∷ (RI 0 1) ∷ (D (times 4 (0x00 ∷ []))) ∷ (op EndImage) ∷ []) gets 10 at 100 listed 23 performed 7
    ∷  -- length ffff0000
    (H ∷ S ∷ O ∷ P ∷ GR ∷ CUR ∷ (0xc0 ∷ 0x00 ∷ 0xf8 ∷ 0x64 ∷ 0xc0 ∷ 0x02 ∷ 0xf8 ∷ 0x62 ∷ 0xc1 ∷ 0xff ∷ 0xff ∷ 0xf8 ∷ 0x6c ∷ 0xc1 ∷ 0xff ∷ 0xff ∷ 0xf8 ∷ 0x6b ∷ 0xd1 ∷ 0x01 ∷ 0x00 ∷ 0x01 ∷ 0x00 ∷ 0xf8 ∷ 0x67 ∷ 0xb0 ∷ []) ∷ (0xc0 ∷ 0x00 ∷ 0xf8 ∷ 0x6d ∷ 0xc1 ∷ 0xff ∷ 0xff ∷ 0xf8 ∷ 0x63 ∷ 0xc0 ∷ 0x00 ∷ 0xf8 ∷ 0x65 ∷ 0xb1 ∷ []) ∷ (0xfa ∷ 0x00 ∷ 0x00 ∷ 0xff ∷ 0xff ∷ []) ∷ []) gets 5 at 97 listed 19 performed 6
    ∷  -- behind the last
    (J ∷ (0x20 ∷ 0xff ∷ []) ∷ []) gets 6 at 30 listed 4 performed 2
    ∷  -- MediaSize 13
    (H ∷ S ∷ (P with 0x0d at 5) ∷ []) gets 16 at 32 listed 3 performed 1
    ∷  -- 13
    (H ∷ S ∷ O ∷ P ∷ CUR ∷ (op LinePath) ∷ []) gets 13 at 52 listed 11 performed 4
    ∷  -- 14
    (H ∷ S ∷ O ∷ P ∷ CUR ∷ (0xc0 ∷ 0x01 ∷ 0xf8 ∷ 0x4d ∷ 0x9b ∷ []) ∷ []) gets 14 at 56 listed 11 performed 4
    ∷  -- high byte first
    ((H with 0x28 at 0) ∷ (0xc0 ∷ 0x00 ∷ 0xf8 ∷ 0x86 ∷ 0xd1 ∷ 0x02 ∷ 0x58 ∷ 0x02 ∷ 0x58 ∷ 0xf8 ∷ 0x89 ∷ 0x41 ∷ []) ∷ E ∷ []) gets 0 at 29 listed 4 performed 2
    ∷  -- 9: no operator of the table
    (H ∷ (0x45 ∷ []) ∷ []) gets 9 at 16 listed 0 performed 0
    ∷  -- 15: Measure as uint16
    (H ∷ (0xc1 ∷ 0x00 ∷ 0x00 ∷ 0xf8 ∷ 0x86 ∷ 0xd1 ∷ 0x58 ∷ 0x02 ∷ 0x58 ∷ 0x02 ∷ 0xf8 ∷ 0x89 ∷ 0x41 ∷ []) ∷ []) gets 15 at 16 listed 0 performed 0
    ∷  -- 5: an attribute number cut
    (H ∷ (0xc0 ∷ 0x00 ∷ 0xf8 ∷ []) ∷ []) gets 5 at 18 listed 0 performed 0
    ∷  -- 27: a value waits
    (J ∷ (0xc0 ∷ 0x00 ∷ []) ∷ []) gets 27 at 31 listed 4 performed 2
    ∷  -- 27: attributes wait
    (J ∷ (0xc0 ∷ 0x00 ∷ 0xf8 ∷ 0x86 ∷ []) ∷ []) gets 27 at 33 listed 4 performed 2
    ∷  -- 27: data due
    (H ∷ S ∷ O ∷ P ∷ CUR ∷ LD ∷ (0x20 ∷ 0x20 ∷ []) ∷ []) gets 27 at 63 listed 11 performed 4
    ∷  -- 14: StartLine wrong
    (H ∷ S ∷ O ∷ P ∷ GR ∷ CUR ∷ IM ∷ (RI 1 1) ∷ []) gets 14 at 93 listed 19 performed 6
    ∷  -- 10: EndSession with the source open
    (H ∷ S ∷ O ∷ E ∷ []) gets 10 at 37 listed 6 performed 2
    ∷  -- 10: EndPage with one saved
    (H ∷ S ∷ P ∷ (op PushGS) ∷ (op EndPage) ∷ []) gets 10 at 38 listed 7 performed 3
    ∷  -- a header of 256 bytes, the longest
    (take 15 H ∷ (0x3b ∷ []) ∷ (times 239 (0x20 ∷ [])) ∷ (0x0a ∷ []) ∷ S ∷ E ∷ []) gets 0 at 269 listed 4 performed 2
    ∷  -- and one that goes on past it
    (take 15 H ∷ (0x3b ∷ []) ∷ (times 240 (0x20 ∷ [])) ∷ (0x0a ∷ []) ∷ S ∷ E ∷ []) gets 2 at 255 listed 0 performed 0
    ∷  -- a real32 has four bytes
    (H ∷ (0xc5 ∷ 0x00 ∷ 0x00 ∷ 0x00 ∷ []) ∷ []) gets 5 at 16 listed 0 performed 0
    ∷  -- PointType 1: two bytes to a point
    (H ∷ S ∷ O ∷ P ∷ CUR ∷ (LD with 0x01 at 5) ∷ (D (0x00 ∷ 0x00 ∷ [])) ∷ Z ∷ []) gets 0 at 68 listed 17 performed 8
    ∷  -- NullPen for a pen
    (H ∷ S ∷ P ∷ (0xc0 ∷ 0x00 ∷ 0xf8 ∷ 0x05 ∷ 0x79 ∷ []) ∷ (op EndPage) ∷ E ∷ []) gets 0 at 44 listed 10 performed 5
    ∷  -- and not NullBrush
    (H ∷ S ∷ P ∷ (0xc0 ∷ 0x00 ∷ 0xf8 ∷ 0x04 ∷ 0x79 ∷ []) ∷ []) gets 11 at 37 listed 6 performed 2
    ∷  -- Comment in a page
    (H ∷ S ∷ P ∷ (op Comment) ∷ (op EndPage) ∷ E ∷ []) gets 0 at 40 listed 9 performed 5
    ∷  -- 10: CloseDataSource when it is closed
    (H ∷ S ∷ (op CloseDataSource) ∷ []) gets 10 at 28 listed 3 performed 1
    ∷ []
