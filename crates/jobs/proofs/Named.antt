-- Proved jobs of request 9: names that begin one another, of every byte, in any order. How many operators are performed tells which motif was found. They are part
-- of the table in Jobs.
-- Assumes nothing.
use Prim.Native.Nat.{ℕ}
use mathlib.Core.List.{List, [], ◌∷◌, ◌++◌}
use lib.ListN.{length}
use Rattle.jobs.proofs.Parts.{times, op, H, S, P, O, Z, PW, Tried, ◌gets◌at◌listed◌performed◌}

-- a motif of a name, under 256 bytes, and its call
abbrev NM : (name body : List ℕ) → List ℕ
NM name body =
    0xc8 ∷ 0xc0 ∷ length name ∷ (name ++ (0xf8 ∷ 0x8b ∷ 0x5b ∷ 0xc1 ∷ length (H ++ body) ∷ 0 ∷ 0xf8 ∷ 0x8c ∷ 0x5c ∷ 0xfb ∷ length (H ++ body) ∷ ((H ++ body) ++ (0x5d ∷ []))))

abbrev XN : (name : List ℕ) → List ℕ
XN name = 0xc8 ∷ 0xc0 ∷ length name ∷ (name ++ (0xf8 ∷ 0x8b ∷ 0x5e ∷ []))

-- a, ab, abc, b; a with a zero byte; bytes on both sides of 0x80; 16 bytes, and the same but for the last
abbrev A : List ℕ
A = 0x61 ∷ []

abbrev AB : List ℕ
AB = 0x61 ∷ 0x62 ∷ []

abbrev ABC : List ℕ
ABC = 0x61 ∷ 0x62 ∷ 0x63 ∷ []

abbrev B : List ℕ
B = 0x62 ∷ []

abbrev A0 : List ℕ
A0 = 0x61 ∷ 0x00 ∷ []

abbrev LO : List ℕ
LO = 0x7f ∷ []

abbrev HI : List ℕ
HI = 0x80 ∷ []

abbrev FULL : List ℕ
FULL = times 16 (op 0x61)

abbrev LAST : List ℕ
LAST = times 15 (op 0x61) ++ op 0x62

-- what is found
abbrev pub named : List Tried
named =
    -- the first by name is defined last
    (H ∷ S ∷ O ∷ (NM B PW) ∷ (NM A (PW ++ PW)) ∷ P ∷ (XN A) ∷ Z ∷ []) gets 0 at 135 listed 24 performed 15
    ∷  -- names that begin one another
    (H ∷ S ∷ O ∷ (NM AB PW) ∷ (NM A (PW ++ PW)) ∷ (NM ABC []) ∷ P ∷ (XN ABC) ∷ (XN A) ∷ Z ∷ []) gets 0 at 179 listed 31 performed 19
    ∷  -- 21: a name that begins held ones
    (H ∷ S ∷ O ∷ (NM AB PW) ∷ (NM ABC PW) ∷ P ∷ (XN A) ∷ []) gets 21 at 129 listed 19 performed 9
    ∷  -- 21: a name that a held one begins
    (H ∷ S ∷ O ∷ (NM A PW) ∷ (NM ABC PW) ∷ P ∷ (XN AB) ∷ []) gets 21 at 129 listed 19 performed 9
    ∷  -- a zero byte is a byte of a name
    (H ∷ S ∷ O ∷ (NM A0 PW) ∷ (NM A (PW ++ PW)) ∷ P ∷ (XN A0) ∷ Z ∷ []) gets 0 at 137 listed 24 performed 14
    ∷  -- 21: without it the name is another
    (H ∷ S ∷ O ∷ (NM A0 PW) ∷ P ∷ (XN A) ∷ []) gets 21 at 90 listed 14 performed 6
    ∷  -- a byte above 0x7f, amid others
    (H ∷ S ∷ O ∷ (NM HI PW) ∷ (NM LO (PW ++ PW)) ∷ (NM A []) ∷ P ∷ (XN HI) ∷ (XN HI) ∷ Z ∷ []) gets 0 at 174 listed 31 performed 19
    ∷  -- 16 bytes, told apart by the last
    (H ∷ S ∷ O ∷ (NM LAST PW) ∷ (NM FULL (PW ++ PW)) ∷ P ∷ (XN FULL) ∷ Z ∷ []) gets 0 at 180 listed 24 performed 15
    ∷  -- one amid others is replaced
    (H ∷ S ∷ O ∷ (NM B PW) ∷ (NM A PW) ∷ (NM AB PW) ∷ (NM AB (PW ++ PW)) ∷ P ∷ (XN AB) ∷ Z ∷ []) gets 0 at 212 listed 34 performed 21
    ∷ []
