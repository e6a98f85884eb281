-- Proved jobs of request 8: motifs that are replaced, names held later, rings. They are part of the table in Jobs.
-- Assumes nothing.
use mathlib.Core.List.{List, [], ◌∷◌, ◌++◌}
use Rattle.scope.specs.Names.{EndPage, CloseDataSource, PopGS, PushGS}
use Rattle.jobs.proofs.Parts.{all, op, H, S, E, P, O, Z, CUR, LN, LD, PW, D, N, M, X, Tried, ◌gets◌at◌listed◌performed◌, ◌gets◌at◌inside◌listed◌performed◌}

-- 19, 21, 32 and what passes
abbrev pub replacements : List Tried
replacements =
    -- replaced between two pages: one operator performed, then two
    (H ∷ S ∷ O ∷ (M 0x61 PW) ∷ P ∷ (X 0x61) ∷ (op EndPage) ∷ (M 0x61 (PW ++ PW)) ∷ P ∷ (X 0x61) ∷ Z ∷ []) gets 0 at 152 listed 30 performed 19
    ∷  -- a caller means the new one: 24, where page one had a cursor
    (H ∷ S ∷ O ∷ (M 0x61 CUR) ∷ (M 0x62 (X 0x61 ++ LN)) ∷ P ∷ (X 0x62) ∷ (op EndPage) ∷ (M 0x61 []) ∷ P ∷ (X 0x62) ∷ []) gets 24 at 184 listed 30 performed 18
    ∷  -- a held name begins again, and the old motif stands until EndStream: 27, no 20
    (H ∷ S ∷ O ∷ (M 0x61 []) ∷ (N 0x61) ∷ []) gets 27 at 76 listed 13 performed 6
    ∷  -- a faulty replacement refuses the job
    (H ∷ S ∷ O ∷ (M 0x61 []) ∷ (M 0x61 (op PopGS)) ∷ []) gets 10 at 101 inside 16 listed 15 performed 7
    ∷  -- 32: a ring of one
    (H ∷ S ∷ O ∷ (M 0x61 (X 0x61)) ∷ P ∷ (X 0x61) ∷ []) gets 32 at 91 listed 14 performed 6
    ∷  -- never called, it passes
    (H ∷ S ∷ O ∷ (M 0x61 (X 0x61)) ∷ (op CloseDataSource) ∷ E ∷ []) gets 0 at 78 listed 13 performed 7
    ∷  -- also as a replacement
    (H ∷ S ∷ O ∷ (M 0x61 []) ∷ (M 0x61 (X 0x61)) ∷ (op CloseDataSource) ∷ E ∷ []) gets 0 at 110 listed 18 performed 10
    ∷  -- 32: a ring of two
    (H ∷ S ∷ O ∷ (M 0x61 (X 0x62)) ∷ (M 0x62 (X 0x61)) ∷ P ∷ (X 0x62) ∷ []) gets 32 at 130 listed 19 performed 9
    ∷  -- beside a call of another it passes
    (H ∷ S ∷ O ∷ (M 0x61 (X 0x62)) ∷ (M 0x62 (X 0x61)) ∷ (M 0x63 PW) ∷ P ∷ (X 0x63) ∷ Z ∷ []) gets 0 at 171 listed 29 performed 17
    ∷  -- 32: reached through one that is not of the ring
    (H ∷ S ∷ O ∷ (M 0x61 (X 0x62)) ∷ (M 0x62 (X 0x63)) ∷ (M 0x63 (X 0x62)) ∷ P ∷ (X 0x61) ∷ []) gets 32 at 169 listed 24 performed 12
    ∷  -- opened again by a replacement
    (H ∷ S ∷ O ∷ (M 0x61 (X 0x62)) ∷ (M 0x62 (X 0x61)) ∷ (M 0x62 PW) ∷ P ∷ (X 0x61) ∷ Z ∷ []) gets 0 at 171 listed 29 performed 18
    ∷  -- 32: closed by a replacement, after a page that passed
    (H ∷ S ∷ O ∷ (M 0x61 PW) ∷ (M 0x62 (X 0x61)) ∷ P ∷ (X 0x62) ∷ (op EndPage) ∷ (M 0x61 (X 0x62)) ∷ P ∷ (X 0x62) ∷ []) gets 32 at 184 listed 30 performed 17
    ∷  -- twice by two ways is no ring
    (H ∷ S ∷ O ∷ (M 0x61 (X 0x62 ++ X 0x63)) ∷ (M 0x62 (X 0x63)) ∷ (M 0x63 PW) ∷ P ∷ (X 0x61) ∷ Z ∷ []) gets 0 at 178 listed 29 performed 21
    ∷  -- no name is judged at EndStream: 9 behind one not held
    (H ∷ S ∷ O ∷ (M 0x61 (X 0x62 ++ op 0x45)) ∷ []) gets 9 at 76 inside 23 listed 10 performed 4
    ∷  -- a name not held, in a motif never called
    (H ∷ S ∷ O ∷ (M 0x61 (X 0x62)) ∷ (op CloseDataSource) ∷ E ∷ []) gets 0 at 78 listed 13 performed 7
    ∷  -- 21: in a motif called
    (H ∷ S ∷ O ∷ (M 0x61 (X 0x62)) ∷ P ∷ (X 0x61) ∷ []) gets 21 at 91 listed 14 performed 6
    ∷  -- a name held later mends the caller
    (H ∷ S ∷ O ∷ (M 0x61 (X 0x62 ++ CUR)) ∷ (M 0x62 (PushGS ∷ PopGS ∷ [])) ∷ P ∷ (X 0x61) ∷ LN ∷ Z ∷ []) gets 0 at 141 listed 26 performed 18
    ∷  -- 21: a replacement breaks the caller
    (H ∷ S ∷ O ∷ (M 0x61 PW) ∷ (M 0x62 (X 0x61)) ∷ P ∷ (X 0x62) ∷ (op EndPage) ∷ (M 0x61 (X 0x63)) ∷ P ∷ (X 0x62) ∷ []) gets 21 at 184 listed 30 performed 17
    ∷  -- 21 before 32
    (H ∷ S ∷ O ∷ (M 0x61 (X 0x61 ++ X 0x62)) ∷ P ∷ (X 0x61) ∷ []) gets 21 at 98 listed 14 performed 6
    ∷  -- 32 before 17
    (H ∷ S ∷ O ∷ (M 0x61 (all (CUR ∷ LD ∷ (D (0x00 ∷ 0x00 ∷ [])) ∷ (X 0x61) ∷ []))) ∷ (op CloseDataSource) ∷ P ∷ (X 0x61) ∷ []) gets 32 at 111 listed 15 performed 7
    ∷  -- 21: a name of an earlier session
    (H ∷ S ∷ O ∷ (M 0x61 PW) ∷ (op CloseDataSource) ∷ E ∷ S ∷ O ∷ (M 0x62 (X 0x61)) ∷ P ∷ (X 0x62) ∷ []) gets 21 at 151 listed 27 performed 13
    ∷ []
