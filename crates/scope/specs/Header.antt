-- 01, "Header, items, values", first paragraph, and codes 3, 2, 4: the header of a job and of a motif.
-- Assumes nothing.
use Rattle.std.specs.Prelude.{ℕ, suc, ◌-◌, List, [], ◌∷◌, Bool, true, false, ◌&&◌, ◌||◌, get_or, leb, eqb}
use Rattle.scope.specs.Choice.{pick, between}

-- `HP-PCL XL;`
abbrev pub title : List ℕ
title = 0x48 ∷ 0x50 ∷ 0x2d ∷ 0x50 ∷ 0x43 ∷ 0x4c ∷ 0x20 ∷ 0x58 ∷ 0x4c ∷ 0x3b ∷ []

-- some header has the byte b at place i
unfoldable pub may_stand : ℕ → ℕ → Bool
may_stand i b =
    pick (eqb i 0) (eqb b 0x28 || eqb b 0x29)
    (pick (eqb i 1) (eqb b 0x20)
    (pick (leb i 11) (eqb b (get_or title (i - 2) 0))
    (pick (eqb i 12 || eqb i 14) (between 0x30 0x39 b)
    (pick (eqb i 13) (eqb b 0x3b)
    (pick (eqb i 15) (eqb b 0x0a || eqb b 0x3b)
    (pick (eqb i 255) (eqb b 0x0a) true))))))

-- a header's form: it ends before a place, or a place is the first that no header can have so
pub data Form : Type 0 where
  ends : ℕ → Form
  breaks : ℕ → Form

-- the form from place i on
unfoldable pub form_from : ℕ → List ℕ → Form
form_from i [] = breaks i
form_from i (b ∷ bs) =
    elim (may_stand i b) [ false ↦ breaks i | true ↦ elim (leb 15 i && eqb b 0x0a) [ true ↦ ends (suc i) | false ↦ form_from (suc i) bs ] ]

-- the protocol's class: 1;1 or, by request 6 of 02, 2;1
pub data Class : Type 0 where
  one : Class
  two : Class

-- what a header says: the class, high byte first or not, and where the items begin; or a refusal, a code and a place
pub data Header : Type 0 where
  is : (class : Class) → (high : Bool) → (next : ℕ) → Header
  no : (code : ℕ) → (place : ℕ) → Header

unfoldable pub classed : List ℕ → Form → Header
classed s (breaks i) = no 2 i
classed s (ends n) =
    pick (eqb (get_or s 12 0) 0x31 && eqb (get_or s 14 0) 0x31) (is one (eqb (get_or s 0 0) 0x28) n)
    (pick (eqb (get_or s 12 0) 0x32 && eqb (get_or s 14 0) 0x31) (is two (eqb (get_or s 0 0) 0x28) n) (no 4 12))

-- 3, 2, 4, in this order
unfoldable pub header_of : List ℕ → Header
header_of s = pick (eqb (get_or s 0 0) 0x27) (no 3 0) (classed s (form_from 0 s))
