-- The proved jobs of request 6: class 2;1 and what it takes, and that 1;1 stays as it was. They are part of the table in Jobs.
-- Assumes nothing.
use mathlib.Core.List.{List, [], ◌∷◌, ◌++◌}
use lib.ListN.{length}
use Prim.Native.Nat.{ℕ}
use Rattle.scope.specs.Names.{BeginPage, EndPage, SetDefaultGS, PushGS, PopGS, ReadImage, EndImage}
use Rattle.jobs.proofs.Parts.{times, op, ◌with◌at◌, H, HB, S, SB, E, P, O, Z, CUR, LN, D, GR, GL, RGB, X, Tried, ◌gets◌at◌listed◌performed◌, ◌gets◌at◌inside◌listed◌performed◌, in_gray}

-- a header of class 2;1, low byte first and high byte first
abbrev H2 : List ℕ
H2 = H with 0x32 at 12

abbrev HB2 : List ℕ
HB2 = HB with 0x32 at 12

-- SetColorSpace RGB
abbrev CS : List ℕ
CS = 0xc0 ∷ 0x02 ∷ 0xf8 ∷ 0x03 ∷ 0x6a ∷ []

-- MediaSize as a number and as a name, MediaType
abbrev SIZE : ℕ → List ℕ
SIZE n = 0xc0 ∷ n ∷ 0xf8 ∷ 0x25 ∷ []

abbrev NAMED : List ℕ → List ℕ
NAMED name = 0xc8 ∷ 0xc0 ∷ length name ∷ (name ++ (0xf8 ∷ 0x25 ∷ []))

abbrev TYPE : List ℕ → List ℕ
TYPE name = 0xc8 ∷ 0xc0 ∷ length name ∷ (name ++ (0xf8 ∷ 0x27 ∷ []))

-- BeginImage 33 by 2, 1 bit
abbrev ODD : List ℕ
ODD = 0xc0 ∷ 0x00 ∷ 0xf8 ∷ 0x64 ∷ 0xc0 ∷ 0x00 ∷ 0xf8 ∷ 0x62 ∷ 0xc0 ∷ 0x21 ∷ 0xf8 ∷ 0x6c ∷ 0xc0 ∷ 0x02 ∷ 0xf8 ∷ 0x6b ∷ 0xd1 ∷ 0x01 ∷ 0x00 ∷ 0x01 ∷ 0x00 ∷ 0xf8 ∷ 0x67 ∷ 0xb0 ∷ []

-- BeginImage 65,535 by 65,535, 8 bits
abbrev WIDE : List ℕ
WIDE = 0xc0 ∷ 0x00 ∷ 0xf8 ∷ 0x64 ∷ 0xc0 ∷ 0x02 ∷ 0xf8 ∷ 0x62 ∷ 0xc1 ∷ 0xff ∷ 0xff ∷ 0xf8 ∷ 0x6c ∷ 0xc1 ∷ 0xff ∷ 0xff ∷ 0xf8 ∷ 0x6b ∷ 0xd1 ∷ 0x01 ∷ 0x00 ∷ 0x01 ∷ 0x00 ∷ 0xf8 ∷ 0x67 ∷ 0xb0 ∷ []

-- what a ReadImage must have: from line s on n rows, or all 65,535
abbrev ROWS : ℕ → ℕ → List ℕ
ROWS s n = 0xc0 ∷ s ∷ 0xf8 ∷ 0x6d ∷ 0xc0 ∷ n ∷ 0xf8 ∷ 0x63 ∷ 0xc0 ∷ 0x00 ∷ 0xf8 ∷ 0x65 ∷ []

abbrev ALL : List ℕ
ALL = 0xc0 ∷ 0x00 ∷ 0xf8 ∷ 0x6d ∷ 0xc1 ∷ 0xff ∷ 0xff ∷ 0xf8 ∷ 0x63 ∷ 0xc0 ∷ 0x00 ∷ 0xf8 ∷ 0x65 ∷ []

-- PadBytesMultiple; BlockByteLength in one byte and in four
abbrev PAD : ℕ → List ℕ
PAD n = 0xc0 ∷ n ∷ 0xf8 ∷ 0x6e ∷ []

abbrev LONG : ℕ → List ℕ
LONG n = 0xc0 ∷ n ∷ 0xf8 ∷ 0x6f ∷ []

abbrev LONG4 : List ℕ → List ℕ
LONG4 four = 0xc2 ∷ (four ++ (0xf8 ∷ 0x6f ∷ []))

-- a motif with this header, under 256 bytes
abbrev MH : List ℕ → ℕ → List ℕ → List ℕ
MH header n body =
    0xc8 ∷ 0xc0 ∷ 1 ∷ n ∷ 0xf8 ∷ 0x8b ∷ 0x5b ∷ 0xc1 ∷ length (header ++ body) ∷ 0 ∷ 0xf8 ∷ 0x8c ∷ 0x5c ∷ 0xfb ∷ length (header ++ body)
    ∷ ((header ++ body) ++ (0x5d ∷ []))

abbrev pub classes : List Tried
classes =
    -- class 2;1, high byte first
    (HB2 ∷ SB ∷ E ∷ []) gets 0 at 29 listed 4 performed 2
    ∷  -- 2;2
    ((H2 with 0x32 at 14) ∷ S ∷ E ∷ []) gets 4 at 12 listed 0 performed 0
    ∷  -- 3;0
    (((H with 0x33 at 12) with 0x30 at 14) ∷ []) gets 4 at 12 listed 0 performed 0
    ∷  -- BeginPage without attributes
    (H2 ∷ S ∷ op BeginPage ∷ op EndPage ∷ E ∷ []) gets 0 at 31 listed 6 performed 4
    ∷  -- and in 1;1
    (H ∷ S ∷ op BeginPage ∷ []) gets 13 at 28 listed 3 performed 1
    ∷  -- MediaSize 13
    (H2 ∷ S ∷ SIZE 13 ∷ op BeginPage ∷ op EndPage ∷ E ∷ []) gets 0 at 35 listed 7 performed 4
    ∷  -- and in 1;1
    (H ∷ S ∷ SIZE 13 ∷ op BeginPage ∷ []) gets 16 at 28 listed 3 performed 1
    ∷  -- MediaSize 96
    (H2 ∷ S ∷ SIZE 96 ∷ op BeginPage ∷ op EndPage ∷ E ∷ []) gets 0 at 35 listed 7 performed 4
    ∷  -- MediaSize 22
    (H2 ∷ S ∷ SIZE 22 ∷ op BeginPage ∷ []) gets 16 at 28 listed 3 performed 1
    ∷  -- a name as MediaSize
    (H2 ∷ S ∷ NAMED (0x41 ∷ 0x34 ∷ []) ∷ op BeginPage ∷ op EndPage ∷ E ∷ []) gets 0 at 38 listed 7 performed 4
    ∷  -- an empty name
    (H2 ∷ S ∷ NAMED [] ∷ op BeginPage ∷ []) gets 16 at 28 listed 3 performed 1
    ∷  -- a name in 1;1
    (H ∷ S ∷ NAMED (0x41 ∷ 0x34 ∷ []) ∷ op BeginPage ∷ []) gets 15 at 28 listed 3 performed 1
    ∷  -- MediaType, empty
    (H2 ∷ S ∷ TYPE [] ∷ op BeginPage ∷ op EndPage ∷ E ∷ []) gets 0 at 36 listed 7 performed 4
    ∷  -- and in 1;1
    (H ∷ S ∷ TYPE [] ∷ op BeginPage ∷ []) gets 11 at 28 listed 3 performed 1
    ∷  -- SetDefaultGS unsets the cursor
    (H2 ∷ S ∷ P ∷ CUR ∷ op SetDefaultGS ∷ LN ∷ []) gets 24 at 49 listed 9 performed 4
    ∷  -- SetDefaultGS restores RGB, where pages start so
    (H2 ∷ S ∷ P ∷ GR ∷ op SetDefaultGS ∷ RGB ∷ op EndPage ∷ E ∷ []) gets 0 at 54 listed 13 performed 7
    ∷  -- SetDefaultGS restores gray, where pages start so
    in_gray ((H2 ∷ S ∷ P ∷ CS ∷ op SetDefaultGS ∷ GL ∷ op EndPage ∷ E ∷ []) gets 0 at 50 listed 13 performed 7)
    ∷  -- SetDefaultGS leaves what is saved
    (H2 ∷ S ∷ P ∷ CUR ∷ op PushGS ∷ op SetDefaultGS ∷ op PopGS ∷ LN ∷ op EndPage ∷ E ∷ []) gets 0 at 54 listed 15 performed 9
    ∷  -- SetDefaultGS outside a page
    (H2 ∷ S ∷ op SetDefaultGS ∷ []) gets 10 at 28 listed 3 performed 1
    ∷  -- SetDefaultGS in an image
    (H2 ∷ S ∷ O ∷ P ∷ GR ∷ CUR ∷ ODD ∷ op SetDefaultGS ∷ []) gets 10 at 81 listed 19 performed 6
    ∷  -- SetDefaultGS in 1;1, wherever it is
    (H ∷ op SetDefaultGS ∷ []) gets 9 at 16 listed 0 performed 0
    ∷  -- a motif that restores the start, called
    (H2 ∷ S ∷ O ∷ MH H2 0x61 (op SetDefaultGS) ∷ P ∷ GR ∷ CUR ∷ X 0x61 ∷ RGB ∷ LN ∷ []) gets 24 at 111 listed 22 performed 11
    ∷  -- a motif of the other class in 2;1
    (H2 ∷ S ∷ O ∷ MH H 0x61 [] ∷ []) gets 4 at 68 inside 12 listed 10 performed 4
    ∷  -- a motif of the other class in 1;1, its items not looked at
    (H ∷ S ∷ O ∷ MH H2 0x61 (0xff ∷ []) ∷ []) gets 4 at 69 inside 12 listed 10 performed 4
    ∷  -- a malformed header of a motif comes before its class
    (H2 ∷ S ∷ O ∷ MH (H with 0x58 at 15) 0x61 [] ∷ []) gets 2 at 68 inside 15 listed 10 performed 4
    ∷  -- rows of 33 bits: 8 bytes
    (H2 ∷ S ∷ O ∷ P ∷ GR ∷ CUR ∷ ODD ∷ ROWS 0 2 ∷ op ReadImage ∷ D (times 16 (0x00 ∷ [])) ∷ op EndImage ∷ Z ∷ []) gets 0 at 116 listed 27 performed 11
    ∷  -- with a multiple of 1, 5 bytes; rows of one image may differ
    (H2 ∷ S ∷ O ∷ P ∷ GR ∷ CUR ∷ ODD ∷ ROWS 0 1 ∷ PAD 1 ∷ op ReadImage ∷ D (times 5 (0x00 ∷ [])) ∷ ROWS 1 1 ∷ PAD 7 ∷ op ReadImage ∷ D (times 7 (0x00 ∷ [])) ∷ op EndImage ∷ Z ∷ []) gets 0 at 135 listed 33 performed 12
    ∷  -- PadBytesMultiple 0
    (H2 ∷ S ∷ O ∷ P ∷ GR ∷ CUR ∷ ODD ∷ ROWS 0 1 ∷ PAD 0 ∷ op ReadImage ∷ []) gets 16 at 93 listed 19 performed 6
    ∷  -- PadBytesMultiple in 1;1
    (H ∷ S ∷ O ∷ P ∷ GR ∷ CUR ∷ ODD ∷ ROWS 0 1 ∷ PAD 4 ∷ op ReadImage ∷ []) gets 11 at 93 listed 19 performed 6
    ∷  -- BlockByteLength 8 in four bytes
    (H2 ∷ S ∷ O ∷ P ∷ GR ∷ CUR ∷ ODD ∷ ROWS 0 1 ∷ LONG4 (0x08 ∷ 0x00 ∷ 0x00 ∷ 0x00 ∷ []) ∷ op ReadImage ∷ D (times 8 (0x00 ∷ [])) ∷ ROWS 1 1 ∷ LONG 8 ∷ op ReadImage ∷ D (times 8 (0x00 ∷ [])) ∷ op EndImage ∷ Z ∷ []) gets 0 at 142 listed 33 performed 12
    ∷  -- another BlockByteLength comes before a closed source
    (H2 ∷ S ∷ P ∷ GR ∷ CUR ∷ ODD ∷ ROWS 0 1 ∷ LONG 7 ∷ op ReadImage ∷ []) gets 14 at 88 listed 16 performed 5
    ∷  -- the data still has its own length
    (H2 ∷ S ∷ O ∷ P ∷ GR ∷ CUR ∷ ODD ∷ ROWS 0 1 ∷ LONG 8 ∷ op ReadImage ∷ D (times 7 (0x00 ∷ [])) ∷ []) gets 18 at 97 listed 19 performed 6
    ∷  -- a length due of 65,535 times 65,600 bytes, which no length equals
    (H2 ∷ S ∷ O ∷ P ∷ GR ∷ CUR ∷ WIDE ∷ ALL ∷ PAD 200 ∷ op ReadImage ∷ (0xfa ∷ 0xc0 ∷ 0xff ∷ 0x3e ∷ 0x00 ∷ 0x00 ∷ []) ∷ []) gets 18 at 100 listed 19 performed 6
    ∷  -- nor any BlockByteLength
    (H2 ∷ S ∷ O ∷ P ∷ GR ∷ CUR ∷ WIDE ∷ ALL ∷ PAD 200 ∷ LONG4 (0xc0 ∷ 0xff ∷ 0x3e ∷ 0x00 ∷ []) ∷ op ReadImage ∷ []) gets 14 at 107 listed 19 performed 6
    ∷ []
