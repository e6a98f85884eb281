-- Proved jobs of request 10: patterns defined, hidden, dropped and selected, by motifs too. They are part of the table in Jobs; beside it stand pages with 32 patterns.
-- Assumes nothing.
use Prim.Native.Nat.{ℕ, zero, suc}
use mathlib.Core.List.{List, [], ◌∷◌, ◌++◌}
use mathlib.Core.Bool.{true, false}
use Rattle.scope.specs.Arm.{blank}
use Rattle.scope.specs.Motif.{Picture}
use Rattle.scope.specs.Session.{drawing}
use Rattle.scope.specs.Names.{EndPage, PopGS, PushGS, EndRastPattern}
use Rattle.jobs.proofs.Parts.{times, op, ◌with◌at◌, H, S, P, O, Z, LN, GL, D, M, X, Tried, ◌gets◌at◌listed◌performed◌, ◌gets◌at◌inside◌listed◌performed◌, in_gray}
use Rattle.jobs.proofs.Rings.{Begun}

-- a header of class 2;1
abbrev H2 : List ℕ
H2 = H with 0x32 at 12

-- SetColorSpace RGB
abbrev CS : List ℕ
CS = 0xc0 ∷ 0x02 ∷ 0xf8 ∷ 0x03 ∷ 0x6a ∷ []

-- BeginRastPattern of a number, 32 by 2, 1 bit, for the page (1) or for the session (2)
abbrev BP : (number persistence : ℕ) → List ℕ
BP n k = 0xc0 ∷ 0x00 ∷ 0xf8 ∷ 0x64 ∷ 0xc0 ∷ 0x00 ∷ 0xf8 ∷ 0x62 ∷ 0xc0 ∷ 0x20 ∷ 0xf8 ∷ 0x6c ∷ 0xc0 ∷ 0x02 ∷ 0xf8 ∷ 0x6b ∷ 0xd1 ∷ 0x01 ∷ 0x00 ∷ 0x01 ∷ 0x00 ∷ 0xf8 ∷ 0x67 ∷ 0xc3 ∷ n ∷ 0x00 ∷ 0xf8 ∷ 0x69 ∷ 0xc0 ∷ k ∷ 0xf8 ∷ 0x68 ∷ 0xb3 ∷ []

-- ReadRastPattern from line s, n rows
abbrev RR : ℕ → ℕ → List ℕ
RR s n = 0xc0 ∷ s ∷ 0xf8 ∷ 0x6d ∷ 0xc0 ∷ n ∷ 0xf8 ∷ 0x63 ∷ 0xc0 ∷ 0x00 ∷ 0xf8 ∷ 0x65 ∷ 0xb4 ∷ []

-- a whole pattern
abbrev PAT : (number persistence : ℕ) → List ℕ
PAT n k = BP n k ++ (RR 0 2 ++ (D (times 8 (op 0)) ++ op EndRastPattern))

-- a brush of a pattern
abbrev pub SEL : ℕ → List ℕ
SEL n = 0xc3 ∷ n ∷ 0x00 ∷ 0xf8 ∷ 0x08 ∷ 0x63 ∷ []

-- 33, 34 and what passes
abbrev pub patterns : List Tried
patterns =
    -- a page pattern is defined and selected
    in_gray ((H ∷ S ∷ O ∷ P ∷ (PAT 1 1) ∷ (SEL 1) ∷ Z ∷ []) gets 0 at 112 listed 27 performed 10)
    ∷  -- a session pattern is defined and selected
    in_gray ((H ∷ S ∷ O ∷ P ∷ (PAT 1 2) ∷ (SEL 1) ∷ Z ∷ []) gets 0 at 112 listed 27 performed 10)
    ∷  -- 34: none is defined
    in_gray ((H ∷ S ∷ O ∷ P ∷ (SEL 1) ∷ []) gets 34 at 51 listed 9 performed 3)
    ∷  -- 34: another number is defined
    in_gray ((H ∷ S ∷ O ∷ P ∷ (PAT 1 1) ∷ (SEL 2) ∷ []) gets 34 at 108 listed 22 performed 6)
    ∷  -- 34: a page pattern goes at EndPage
    in_gray ((H ∷ S ∷ O ∷ P ∷ (PAT 1 1) ∷ (op EndPage) ∷ P ∷ (SEL 1) ∷ []) gets 34 at 118 listed 26 performed 8)
    ∷  -- a session pattern stays
    in_gray ((H ∷ S ∷ O ∷ P ∷ (PAT 1 2) ∷ (op EndPage) ∷ P ∷ (SEL 1) ∷ Z ∷ []) gets 0 at 122 listed 31 performed 12)
    ∷  -- 34: session patterns go at EndSession
    in_gray ((H ∷ S ∷ O ∷ P ∷ (PAT 1 2) ∷ Z ∷ S ∷ P ∷ (SEL 1) ∷ []) gets 34 at 132 listed 31 performed 11)
    ∷  -- a page pattern hides a session one, which is there again behind the page
    in_gray ((H ∷ S ∷ O ∷ P ∷ (PAT 1 2) ∷ (PAT 1 1) ∷ (SEL 1) ∷ (op EndPage) ∷ P ∷ (SEL 1) ∷ Z ∷ []) gets 0 at 185 listed 46 performed 16)
    ∷  -- defined again: replaced
    in_gray ((H ∷ S ∷ O ∷ P ∷ (PAT 1 1) ∷ (PAT 1 1) ∷ (SEL 1) ∷ Z ∷ []) gets 0 at 169 listed 40 performed 13)
    ∷  -- PopGS drops no pattern
    in_gray ((H ∷ S ∷ O ∷ P ∷ (op PushGS) ∷ (PAT 1 1) ∷ (op PopGS) ∷ (SEL 1) ∷ Z ∷ []) gets 0 at 114 listed 29 performed 12)
    ∷  -- 25: gray is needed
    in_gray ((H ∷ S ∷ O ∷ P ∷ CS ∷ (BP 1 1) ∷ []) gets 25 at 83 listed 11 performed 4)
    ∷  -- 25: a page that starts in RGB
    (H ∷ S ∷ O ∷ P ∷ (BP 1 1) ∷ []) gets 25 at 78 listed 9 performed 3
    ∷  -- 17: BeginRastPattern needs no source, ReadRastPattern does
    in_gray ((H ∷ S ∷ P ∷ (BP 1 1) ∷ (RR 0 2) ∷ []) gets 17 at 82 listed 14 performed 3)
    ∷  -- 10: in a session at rest
    in_gray ((H ∷ S ∷ O ∷ (BP 1 2) ∷ []) gets 10 at 69 listed 6 performed 2)
    ∷  -- 10: in a pattern
    in_gray ((H ∷ S ∷ O ∷ P ∷ (BP 1 1) ∷ (BP 2 1) ∷ []) gets 10 at 111 listed 17 performed 4)
    ∷  -- 10: rows are left at EndRastPattern
    in_gray ((H ∷ S ∷ O ∷ P ∷ (BP 1 1) ∷ (op EndRastPattern) ∷ []) gets 10 at 79 listed 17 performed 4)
    ∷  -- 10: inside a motif
    in_gray ((H ∷ S ∷ O ∷ (M 0x61 (BP 1 1)) ∷ []) gets 10 at 101 inside 48 listed 10 performed 4)
    ∷  -- 14: rows that do not follow
    in_gray ((H ∷ S ∷ O ∷ P ∷ (BP 1 1) ∷ (RR 1 1) ∷ (D (times 4 (op 0))) ∷ []) gets 14 at 91 listed 17 performed 4)
    ∷  -- 16: a persistence that is none
    in_gray ((H ∷ S ∷ O ∷ P ∷ (BP 1 0) ∷ []) gets 16 at 74 listed 9 performed 3)
    ∷  -- 27: the job ends in a pattern
    in_gray ((H ∷ S ∷ O ∷ P ∷ (BP 1 1) ∷ []) gets 27 at 79 listed 17 performed 4)
    ∷  -- a motif selects what the page defines
    in_gray ((H ∷ S ∷ O ∷ (M 0x61 (SEL 1)) ∷ P ∷ (PAT 1 1) ∷ (X 0x61) ∷ Z ∷ []) gets 0 at 151 listed 32 performed 14)
    ∷  -- 34: a call before it is defined
    in_gray ((H ∷ S ∷ O ∷ (M 0x61 (SEL 1)) ∷ P ∷ (X 0x61) ∷ []) gets 34 at 90 listed 14 performed 6)
    ∷  -- 34: one that the motif calls selects it
    in_gray ((H ∷ S ∷ O ∷ (M 0x61 (SEL 1)) ∷ (M 0x62 (X 0x61)) ∷ P ∷ (PAT 2 1) ∷ (X 0x62) ∷ []) gets 34 at 186 listed 32 performed 12)
    ∷  -- a motif is replaced by one that selects another
    in_gray ((H ∷ S ∷ O ∷ (M 0x61 (SEL 1)) ∷ (M 0x61 (SEL 2)) ∷ P ∷ (PAT 2 1) ∷ (X 0x61) ∷ Z ∷ []) gets 0 at 189 listed 37 performed 17)
    ∷  -- 34: the caller means the new one
    in_gray ((H ∷ S ∷ O ∷ (M 0x61 (SEL 2)) ∷ (M 0x62 (X 0x61)) ∷ (M 0x61 (SEL 1)) ∷ P ∷ (PAT 2 1) ∷ (X 0x62) ∷ []) gets 34 at 224 listed 37 performed 15)
    ∷  -- 34 after 24
    in_gray ((H ∷ S ∷ O ∷ (M 0x61 (LN ++ SEL 1)) ∷ P ∷ (X 0x61) ∷ []) gets 24 at 96 listed 14 performed 6)
    ∷  -- 34 after 25
    in_gray ((H ∷ S ∷ O ∷ (M 0x61 (GL ++ SEL 1)) ∷ P ∷ CS ∷ (X 0x61) ∷ []) gets 25 at 100 listed 16 performed 7)
    ∷  -- 9: the tag behind EndRastPattern is no operator
    in_gray ((H ∷ S ∷ O ∷ P ∷ (PAT 1 1) ∷ (op 0xb6) ∷ []) gets 9 at 103 listed 22 performed 6)
    ∷  -- class 2;1 has them too
    in_gray ((H2 ∷ S ∷ O ∷ P ∷ (PAT 1 1) ∷ (SEL 1) ∷ Z ∷ []) gets 0 at 112 listed 27 performed 10)
    ∷ []

-- the numbers n to 1
unfoldable pub up_to : ℕ → List ℕ
up_to zero = []
up_to (suc n) = suc n ∷ up_to n

-- a pattern begins in a page, where these are defined for the page and these for the session; one that is begun is followed by 27 at 33, as the items end in it
abbrev begins : (of_page of_session : List ℕ) → (number persistence code position : ℕ) → Begun
begins of_page of_session n k code position =
    record { opened = true; held = []; patterns = of_session; busy = drawing (blank true) of_page Picture.none; items = BP n k; code = code; position = position }

-- 33, judged from pages that no short job comes to
abbrev pub crowds : List Begun
crowds =
    -- the 32nd of a page
    begins (up_to 31) [] 32 1 27 33
    ∷  -- 33: one more
    begins (up_to 32) [] 33 1 33 32
    ∷  -- a number that is defined needs no place
    begins (up_to 32) [] 1 1 27 33
    ∷  -- the other persistence has places of its own
    begins (up_to 32) [] 33 2 27 33
    ∷  -- 33: a session's, where that number is one of the page's
    begins (33 ∷ []) (up_to 32) 33 2 33 32
    ∷  -- 33 before 25
    (record { opened = true; held = []; patterns = up_to 32; busy = drawing (blank false) [] Picture.none; items = BP 33 2; code = 33; position = 32 })
    ∷ []
