-- Proved jobs that judging decides: motifs, the state of the arm, sessions, buffers, each for a rule that its comment names. They are part of the table in Jobs.
-- Assumes nothing.
use mathlib.Core.List.{List, [], ◌∷◌, ◌++◌}
use Rattle.scope.specs.Names.{EndPage, Comment, CloseDataSource, EndStream, PopGS, PushGS, NewPath}
use Rattle.jobs.proofs.Parts.{all, times, op, ◌with◌at◌, H, S, E, J, P, O, Z, CUR, LN, LD, PW, D, GR, GL, RGB, IM, N, M, X, Tried, ◌gets◌at◌listed◌performed◌, ◌gets◌at◌inside◌listed◌performed◌, lending}

-- 17, 21 to 26, 28 and 29, motifs judged at EndStream, and what passes
abbrev pub judged : List Tried
judged =
    -- empty motif
    (H ∷ S ∷ (N 0x61) ∷ (op EndStream) ∷ []) gets 2 at 35 inside 0 listed 5 performed 2
    ∷  -- header only
    (H ∷ S ∷ O ∷ (M 0x61 []) ∷ P ∷ (X 0x61) ∷ Z ∷ []) gets 0 at 88 listed 19 performed 10
    ∷  -- 27 inside
    (H ∷ S ∷ O ∷ (M 0x61 (times 3 (op PushGS))) ∷ []) gets 27 at 71 inside 19 listed 10 performed 4
    ∷  -- 24 at a call
    (H ∷ S ∷ O ∷ (M 0x61 (all ((op NewPath) ∷ LN ∷ []))) ∷ P ∷ CUR ∷ (X 0x61) ∷ []) gets 24 at 97 listed 16 performed 7
    ∷  -- sets later
    (H ∷ S ∷ O ∷ (M 0x61 (all (LN ∷ CUR ∷ []))) ∷ P ∷ (X 0x61) ∷ []) gets 24 at 96 listed 14 performed 6
    ∷  -- back by PopGS
    (H ∷ S ∷ O ∷ (M 0x61 (all ((op PushGS) ∷ CUR ∷ (op PopGS) ∷ LN ∷ []))) ∷ P ∷ (X 0x61) ∷ []) gets 24 at 98 listed 14 performed 6
    ∷  -- stays set
    (H ∷ S ∷ O ∷ (M 0x61 CUR) ∷ P ∷ (X 0x61) ∷ LN ∷ Z ∷ []) gets 0 at 100 listed 21 performed 12
    ∷  -- 17 before 23
    (H ∷ S ∷ O ∷ (M 0x61 (all ((op PushGS) ∷ CUR ∷ LD ∷ (D (0x00 ∷ 0x00 ∷ [])) ∷ (op PopGS) ∷ []))) ∷ (op CloseDataSource) ∷ P ∷ (times 24 (op PushGS)) ∷ (X 0x61) ∷ []) gets 17 at 130 listed 39 performed 31
    ∷  -- gray in push
    (H ∷ S ∷ O ∷ (M 0x61 (all ((op PushGS) ∷ GR ∷ GL ∷ (op PopGS) ∷ RGB ∷ []))) ∷ P ∷ (X 0x61) ∷ Z ∷ []) gets 0 at 109 listed 19 performed 15
    ∷  -- 23 saved
    (H ∷ S ∷ O ∷ (M 0x61 (all ((op PushGS) ∷ (op PopGS) ∷ []))) ∷ P ∷ (times 23 (op PushGS)) ∷ (X 0x61) ∷ (times 23 (op PopGS)) ∷ Z ∷ []) gets 0 at 136 listed 65 performed 58
    ∷  -- 24 saved
    (H ∷ S ∷ O ∷ (M 0x61 (all ((op PushGS) ∷ (op PopGS) ∷ []))) ∷ P ∷ (times 24 (op PushGS)) ∷ (X 0x61) ∷ []) gets 23 at 110 listed 38 performed 30
    ∷  -- not in the next session
    (H ∷ S ∷ O ∷ (M 0x61 []) ∷ (op CloseDataSource) ∷ E ∷ S ∷ P ∷ (X 0x61) ∷ []) gets 21 at 98 listed 19 performed 9
    ∷  -- 100 strokes
    (H ∷ S ∷ O ∷ (M 0x31 (times 10 PW)) ∷ (M 0x32 (times 10 (X 0x31))) ∷ P ∷ (X 0x32) ∷ Z ∷ []) gets 0 at 240 listed 24 performed 123
    ∷  -- 24 before 25
    (H ∷ S ∷ O ∷ P ∷ IM ∷ []) gets 24 at 69 listed 9 performed 3
    ∷  -- second session
    (J ∷ (S with 0x03 at 1) ∷ []) gets 16 at 29 listed 4 performed 2
    ∷  -- 47 bytes of list
    lending 16384 47 ((J ∷ []) gets 28 at 27 listed 0 performed 0)
    ∷  -- 63 bytes of list
    lending 16384 63 ((J ∷ []) gets 28 at 28 listed 3 performed 1)
    ∷  -- short work
    lending 16383 0 ((J ∷ []) gets 29 at 0 listed 0 performed 0)
    ∷  -- 25: GrayLevel in RGB
    (H ∷ S ∷ P ∷ GL ∷ []) gets 25 at 41 listed 6 performed 2
    ∷  -- 25: RGBColor in gray
    (H ∷ S ∷ P ∷ GR ∷ RGB ∷ []) gets 25 at 50 listed 8 performed 3
    ∷  -- 25 at a call
    (H ∷ S ∷ O ∷ (M 0x61 GL) ∷ P ∷ (X 0x61) ∷ []) gets 25 at 89 listed 14 performed 6
    ∷  -- 10 in a motif: PopGS below its start
    (H ∷ S ∷ O ∷ (M 0x61 (op PopGS)) ∷ []) gets 10 at 69 inside 16 listed 10 performed 4
    ∷  -- 10 in a motif: EndPage
    (H ∷ S ∷ O ∷ (M 0x61 (op EndPage)) ∷ []) gets 10 at 69 inside 16 listed 10 performed 4
    ∷  -- 5 in a motif: cut in an item
    (H ∷ S ∷ O ∷ (M 0x61 (0xc0 ∷ [])) ∷ []) gets 5 at 69 inside 16 listed 10 performed 4
    ∷  -- 27 in a motif: an image open
    (H ∷ S ∷ O ∷ (M 0x61 (all (CUR ∷ GR ∷ IM ∷ []))) ∷ []) gets 27 at 103 inside 51 listed 10 performed 4
    ∷  -- a motif of the other byte order
    (H ∷ S ∷ O ∷ (0xc8 ∷ 0xc0 ∷ 0x01 ∷ 0x61 ∷ 0xf8 ∷ 0x8b ∷ 0x5b ∷ 0xc1 ∷ 0x18 ∷ 0x00 ∷ 0xf8 ∷ 0x8c ∷ 0x5c ∷ 0xfb ∷ 0x18 ∷ 0x28 ∷ 0x20 ∷ 0x48 ∷ 0x50 ∷ 0x2d ∷ 0x50 ∷ 0x43 ∷ 0x4c ∷ 0x20 ∷ 0x58 ∷ 0x4c ∷ 0x3b ∷ 0x31 ∷ 0x3b ∷ 0x31 ∷ 0x0a ∷ 0xd1 ∷ 0x00 ∷ 0x01 ∷ 0x00 ∷ 0x02 ∷ 0xf8 ∷ 0x4c ∷ 0x6b ∷ 0x5d ∷ []) ∷ P ∷ (X 0x61) ∷ Z ∷ []) gets 0 at 96 listed 19 performed 11
    ∷  -- 24: SetCursorRel needs the cursor
    (H ∷ S ∷ P ∷ (CUR with 0x6c at 5) ∷ []) gets 24 at 42 listed 6 performed 2
    ∷  -- Rectangle does not
    (H ∷ S ∷ P ∷ (0xe0 ∷ 0x00 ∷ 0x00 ∷ 0x00 ∷ 0x00 ∷ 0xf8 ∷ 0x42 ∷ 0xa0 ∷ []) ∷ (op EndPage) ∷ E ∷ []) gets 0 at 47 listed 10 performed 5
    ∷  -- a call in a motif is performed where it stands
    (H ∷ S ∷ O ∷ (M 0x61 CUR) ∷ (M 0x62 (X 0x61 ++ LN)) ∷ P ∷ (X 0x62) ∷ Z ∷ []) gets 0 at 139 listed 24 performed 16
    ∷  -- and what it leaves stays
    (H ∷ S ∷ O ∷ (M 0x61 (op NewPath)) ∷ (M 0x62 (CUR ++ X 0x61)) ∷ P ∷ (X 0x62) ∷ LN ∷ []) gets 24 at 136 listed 21 performed 13
    ∷  -- every operator of a motif counts
    (H ∷ S ∷ O ∷ (M 0x61 (times 2 (op Comment))) ∷ P ∷ (X 0x61) ∷ Z ∷ []) gets 0 at 90 listed 19 performed 12
    ∷ []
