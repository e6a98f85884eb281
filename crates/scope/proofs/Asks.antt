-- Reading with code 17 given and reading with it never given: the same, but for an operator that reads data while the source is closed.
-- Assumes nothing.
use Prim.Native.Nat.{ℕ}
use native.Mathlib.Omega.{arith}
use borrow.Author.Tests.{eqb-true}
use mathlib.Core.Path.{◌≡◌, refl}
use mathlib.Core.Bool.{Bool, true, false, ◌||◌}
use mathlib.Core.List.{List}
use lib.Dec.{eqb}
use Rattle.scope.specs.Choice.{pick}
use Rattle.scope.specs.Item.{Attribute, Scan, scan_at}
use Rattle.scope.specs.Table.{Row, Line}
use Rattle.scope.specs.Attributes.{Fault, fine, bad, has}
use Rattle.scope.specs.Data.{Image, Due, Found, due_of, reads_rows}
use Rattle.scope.specs.Order.{Phase, may_come, image_of, rows_fit}
use Rattle.scope.proofs.Ends.{pick_all}
use Rattle.scope.specs.Setting.{Setting}
use Rattle.scope.specs.Reading.{Context, Operator, Read, with_block, with_data, as_whole, with_attributes, with_line, scanned, operator_at}

-- the first reading never asks for an open source, the second does
pub data Asks (opened : Bool) : Read → Read → Type 0 where
  alike : {r : Read} → Asks opened r r
  failed : {code place other there : ℕ} → Asks opened (Read.no code place) (Read.no other there)
  closed : {o : Operator} {place : ℕ} → o.reads ≡ true → opened ≡ false → eqb o.tag 0x5e ≡ false → Asks opened (Read.operator o) (Read.no 17 place)

-- a choice by one test on both sides
pick_two : {A : Type 0} (Q : A → A → Type 0) (b : Bool) {x y v w : A} → Q x v → Q y w → Q (pick b x y) (pick b v w)
pick_two Q true f g = f
pick_two Q false f g = g

abbrev pub asking : Setting → Phase → Bool → Bool → Context
asking set phase opened b = record { set = set; phase = phase; opened = opened; asked = b }

block-asks : (tag p due : ℕ) (l : List Attribute) → eqb tag 0x5e ≡ false → (f : Found) → Asks false (with_block tag p l due f) (Read.no 17 p)
unfolding with_block
block-asks tag p due l n (Found.at first) = closed refl refl n
block-asks tag p due l n (Found.no code place) = failed

-- what reads data is no call
data NoCall (tag : ℕ) : Due → Type 0 where
  quiet : NoCall tag Due.none
  reading : {n : ℕ} → eqb tag 0x5e ≡ false → NoCall tag (Due.reads n)

another : (tag k : ℕ) → eqb tag k ≡ true → eqb k 0x5e ≡ false → eqb tag 0x5e ≡ false
another tag k e f = rw (eqb-true tag k e) f

line-too : (tag : ℕ) (a b : Bool) → eqb tag 0x9b ≡ a → eqb tag 0x9d ≡ b → (a || b) ≡ true → eqb tag 0x5e ≡ false
line-too tag true b e f t = another tag 0x9b e refl
line-too tag false true e f t = another tag 0x9d f refl
line-too tag false false e f t = absurd (let z : ◌≡◌ {A = ℕ} 0 1 = cc in omega arith)

rows-too : (tag : ℕ) (a b : Bool) → eqb tag 0xb1 ≡ a → eqb tag 0xb4 ≡ b → (a || b) ≡ true → eqb tag 0x5e ≡ false
rows-too tag true b e f t = another tag 0xb1 e refl
rows-too tag false true e f t = another tag 0xb4 f refl
rows-too tag false false e f t = absurd (let z : ◌≡◌ {A = ℕ} 0 1 = cc in omega arith)

due_no_call : (high : Bool) (s : List ℕ) (i : Image) (tag : ℕ) (l : List Attribute) → NoCall tag (due_of high s i tag l)
unfolding due_of reads_rows
due_no_call high s i tag l =
    pick_all (NoCall tag) (eqb tag 0x5c) (λ t. reading (another tag 0x5c t refl))
    (λ _. pick_all (NoCall tag) (eqb tag 0xb1 || eqb tag 0xb4) (λ t. reading (rows-too tag (eqb tag 0xb1) (eqb tag 0xb4) refl refl t))
    (λ _. pick_all (NoCall tag) (eqb tag 0x9b || eqb tag 0x9d)
    (λ t. pick_all (NoCall tag) (has 77 l) (λ _. reading (line-too tag (eqb tag 0x9b) (eqb tag 0x9d) refl refl t)) (λ _. quiet)) (λ _. quiet)))

module _ (set : Setting) (phase : Phase) (s : List ℕ) where
  data_asks : (opened : Bool) (tag p : ℕ) (l : List Attribute) {d : Due} → NoCall tag d
      → Asks opened (with_data (asking set phase opened false) s tag p l d) (with_data (asking set phase opened true) s tag p l d)
  unfolding with_data
  data_asks opened tag p l quiet = alike
  data_asks true tag p l (reading n) = alike
  data_asks false tag p l (reading {n = due} n) = block-asks tag p due l n _

  whole-asks : (opened : Bool) (tag p : ℕ) (l : List Attribute) (code : ℕ)
      → Asks opened (as_whole (asking set phase opened false) s tag p l code) (as_whole (asking set phase opened true) s tag p l code)
  unfolding as_whole
  whole-asks opened tag p l code =
      pick_two (Asks opened) (eqb code 0)
      (pick_two (Asks opened) (rows_fit set.high s (image_of phase) tag l) (data_asks opened tag p l (due_no_call set.high s (image_of phase) tag l)) alike) alike

  attributes_asks : (opened : Bool) (tag p : ℕ) (l : List Attribute) (r : Row) (f : Fault)
      → Asks opened (with_attributes (asking set phase opened false) s tag p l r f) (with_attributes (asking set phase opened true) s tag p l r f)
  unfolding with_attributes
  attributes_asks opened tag p l r (bad code place) = alike
  attributes_asks opened tag p l r fine = whole-asks opened tag p l _

  line-asks : (opened : Bool) (tag p : ℕ) (l : List Attribute) (r : Line)
      → Asks opened (with_line (asking set phase opened false) s tag p l r) (with_line (asking set phase opened true) s tag p l r)
  unfolding with_line
  line-asks opened tag p l Line.none = alike
  line-asks opened tag p l (Line.is r) = pick_two (Asks opened) (may_come phase opened tag) (attributes_asks opened tag p l r _) alike

  scanned-asks : (opened : Bool) (r : Scan)
      → Asks opened (scanned (asking set phase opened false) s r) (scanned (asking set phase opened true) s r)
  unfolding scanned
  scanned-asks opened (Scan.tagged tag p l) = line-asks opened tag p l _
  scanned-asks opened Scan.ended = alike
  scanned-asks opened (Scan.no code place) = alike

  pub read-asks : (opened : Bool) (at : ℕ)
      → Asks opened (operator_at (asking set phase opened false) s at) (operator_at (asking set phase opened true) s at)
  unfolding operator_at
  read-asks opened at = scanned-asks opened (scan_at set.high s at)
