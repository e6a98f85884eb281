-- Every refusal has its place within the bytes, or right behind them; a motif's too.
-- Assumes nothing.
use Prim.Native.Nat.{ℕ, suc, ◌+◌, ◌-◌, ◌*◌, ◌≤◌, ◌<◌}
use mathlib.Core.Path.{◌≡◌, refl, subst}
use mathlib.Core.Bool.{Bool, true, false, not, ◌&&◌}
use mathlib.Core.List.{List, [], ◌∷◌, ◌++◌}
use native.Mathlib.Omega.{arith}
use borrow.Author.Tests.{leb-true, leb-false}
use lib.ListN.{length, get_or}
use lib.Dec.{ltb, leb, eqb}
use native.Mathlib.Nat.{zero-add}
use Rattle.scope.specs.Choice.{between}
use Rattle.scope.specs.Number.{number}
use Rattle.scope.specs.Header.{Class, Header, Form, ends, breaks, may_stand, form_from, classed, header_of}
use Rattle.scope.specs.Item.{Kind, plain, array, other, Value, numbers_at, elements_at, counted_at, array_at, value_of, kind_of}
use Rattle.scope.specs.Item.{Attribute, Pair, numbered, number_at, pair_of, pair_at, Scan, Walk, ended_with, on_pair, scan_item, scan_step, scan_from, scan_at, after}
use Rattle.scope.specs.Table.{Rule, Row, Line, rule_in}
use Rattle.scope.specs.Attributes.{Fault, fine, bad, attribute_code, one_by_one}
use Rattle.scope.specs.Data.{Due, Found, block_of, block_at}
use Rattle.scope.specs.Order.{may_come, image_of, rows_fit}
use Rattle.scope.specs.Setting.{Setting, of_motif, same_class}
use Rattle.scope.specs.Reading.{Context, Operator, Read, with_block, with_data, as_whole, with_attributes, with_line, scanned, operator_at}
use Rattle.scope.specs.Motif.{Own, Inside, Picture, Judged, valid, faulty, context_in, on_end, on_read, motif_step, judged_inside, motif_from, motif_of}
use Rattle.scope.proofs.Ends.{pick_all, Kept, kept_go, kept_stop, iterate-holds}

-- attributes that stand within the bytes
data AllIn (len : ℕ) : List Attribute → Type 0 where
  none_in : AllIn len []
  more_in : {a : Attribute} {l : List Attribute} → a.at ≤ len → AllIn len l → AllIn len (a ∷ l)

in_more : {len : ℕ} (a : Attribute) (l : List Attribute) → AllIn len l → a.at ≤ len → AllIn len (l ++ (a ∷ []))
in_more a [] none_in h = more_in h none_in
in_more a (b ∷ l) (more_in k i) h = more_in k (in_more a l i h)

data ValueIn (len : ℕ) : Value → Type 0 where
  is : {count first next : ℕ} → ValueIn len (Value.is count first next)
  no : {code place : ℕ} → place ≤ len → ValueIn len (Value.no code place)

data PairIn (len : ℕ) : Pair → Type 0 where
  is : {a : Attribute} {next : ℕ} → a.at ≤ len → PairIn len (Pair.is a next)
  no : {code place : ℕ} → place ≤ len → PairIn len (Pair.no code place)
  waits : PairIn len Pair.waits

data ScanIn (len : ℕ) : Scan → Type 0 where
  tagged : {tag p : ℕ} {l : List Attribute} → p ≤ len → AllIn len l → ScanIn len (Scan.tagged tag p l)
  ended : ScanIn len Scan.ended
  no : {code place : ℕ} → place ≤ len → ScanIn len (Scan.no code place)

data FoundIn (len : ℕ) : Found → Type 0 where
  found : {first : ℕ} → FoundIn len (Found.at first)
  no : {code place : ℕ} → place ≤ len → FoundIn len (Found.no code place)

pub data ReadIn (len : ℕ) : Read → Type 0 where
  operator : {o : Operator} → o.at ≤ len → ReadIn len (Read.operator o)
  ended : ReadIn len Read.ended
  no : {code place : ℕ} → place ≤ len → ReadIn len (Read.no code place)

module _ (high : Bool) (s : List ℕ) where
  module _ (at : ℕ) (h : at < length s) where
    before : at ≤ length s
    before = omega arith

    numbers-in : (first n w : ℕ) → ValueIn (length s) (numbers_at s at first n w)
    unfolding numbers_at
    numbers-in first n w = pick_all (ValueIn (length s)) (leb (first + n * w) (length s)) (λ _. is) (λ _. no before)

    elements_in : (first w n : ℕ) → ValueIn (length s) (elements_at s at first w n)
    unfolding elements_at
    elements_in first w n = pick_all (ValueIn (length s)) (ltb 1024 n) (λ _. no before) (λ _. numbers-in first n w)

    counted-in : (w l : ℕ) → ValueIn (length s) (counted_at high s at w l)
    unfolding counted_at
    counted-in w l = pick_all (ValueIn (length s)) (leb (at + 2 + l) (length s)) (λ _. elements_in (at + 2 + l) w _) (λ _. no before)

    array-in : (w : ℕ) → ValueIn (length s) (array_at high s at w)
    unfolding array_at
    array-in w =
        pick_all (ValueIn (length s)) (leb (length s) (at + 1)) (λ _. no before)
        (λ t. pick_all (ValueIn (length s)) (eqb (get_or s (at + 1) 0) 0xc0) (λ _. counted-in w 1)
        (λ _. pick_all (ValueIn (length s)) (eqb (get_or s (at + 1) 0) 0xc1) (λ _. counted-in w 2)
        (λ _. let k : at + 1 ≤ length s = omega (arith, leb-false (length s) (at + 1) t) in no k)))

    value_in : (n : ℕ) (k : Kind) → ValueIn (length s) (value_of high s at n k)
    unfolding value_of
    value_in n (plain k w) = pick_all (ValueIn (length s)) (leb 16 n) (λ _. no before) (λ _. numbers-in (at + 1) k w)
    value_in n (array w) = pick_all (ValueIn (length s)) (leb 16 n) (λ _. no before) (λ _. array-in w)
    value_in n other = no before

    numbered-in : (count first p w : ℕ) → p ≤ length s → PairIn (length s) (numbered high s at count first p w)
    unfolding numbered
    numbered-in count first p w k = pick_all (PairIn (length s)) (leb (p + 1 + w) (length s)) (λ _. is before) (λ _. no k)

    number_in : (count first p : ℕ) → PairIn (length s) (number_at high s at count first p)
    unfolding number_at
    number_in count first p =
        pick_all (PairIn (length s)) (leb (length s) p) (λ _. waits)
        (λ t. let k : p ≤ length s = omega (arith, leb-false (length s) p t) in
        pick_all (PairIn (length s)) (eqb (get_or s p 0) 0xf8) (λ _. numbered-in count first p 1 k)
        (λ _. pick_all (PairIn (length s)) (eqb (get_or s p 0) 0xf9) (λ _. numbered-in count first p 2 k) (λ _. no k)))

    pair-of_in : {v : Value} → ValueIn (length s) v → PairIn (length s) (pair_of high s at v)
    unfolding pair_of
    pair-of_in (is {count = c} {first = f} {next = n}) = number_in c f (after s n)
    pair-of_in (no k) = no k

    pair-in : (n : ℕ) → PairIn (length s) (pair_at high s at n)
    unfolding pair_at
    pair-in n = pair-of_in (value_in n (kind_of (get_or s at 0)))

  abbrev WalkIn : Walk → Type 0
  WalkIn w = AllIn (length s) w.attrs

  on-pair_in : (l : List Attribute) → AllIn (length s) l → {r : Pair} → PairIn (length s) r → Kept WalkIn (ScanIn (length s)) (on_pair s l r)
  unfolding on_pair
  on-pair_in l i (is {a = a} h) = kept_go (in_more a l i h)
  on-pair_in l i (no k) = kept_stop (no k)
  on-pair_in l i waits = let k : length s ≤ length s = omega arith in kept_stop (no k)

  ended-in : (l : List Attribute) → ScanIn (length s) (ended_with s l)
  unfolding ended_with
  ended-in [] = ended
  ended-in (a ∷ l) = let k : length s ≤ length s = omega arith in no k

  scan_kept : (w : Walk) → WalkIn w → Kept WalkIn (ScanIn (length s)) (scan_step high s w)
  unfolding scan_step scan_item
  scan_kept w i =
      let p = after s w.at in
      pick_all (Kept WalkIn (ScanIn (length s))) (leb (length s) p) (λ _. kept_stop (ended-in w.attrs))
      (λ t. let h = leb-false (length s) p t in
      pick_all (Kept WalkIn (ScanIn (length s))) (between 0x41 0xbf (get_or s p 0)) (λ _. let k : p ≤ length s = omega arith in kept_stop (tagged k i))
      (λ _. on-pair_in w.attrs i (pair-in p h (length w.attrs))))

  scan_in : (at : ℕ) → ScanIn (length s) (scan_at high s at)
  unfolding scan_at scan_from
  scan_in at = iterate-holds (scan_step high s) Scan.ended WalkIn (ScanIn (length s)) ended scan_kept _ (record { at = at; attrs = [] }) none_in

  block-of_in : (op due p w : ℕ) → op ≤ length s → p ≤ length s → FoundIn (length s) (block_of high s op due p w)
  unfolding block_of
  block-of_in op due p w h k =
      pick_all (FoundIn (length s)) (leb (p + 1 + w) (length s))
      (λ _. pick_all (FoundIn (length s)) (eqb (number high w s (p + 1)) due)
      (λ _. pick_all (FoundIn (length s)) (leb (p + 1 + w + due) (length s)) (λ _. found) (λ _. no k)) (λ _. no h)) (λ _. no k)

  block_in : (op due p : ℕ) → op ≤ length s → FoundIn (length s) (block_at high s op due p)
  unfolding block_at
  block_in op due p h =
      pick_all (FoundIn (length s)) (leb (length s) p) (λ _. let k : length s ≤ length s = omega arith in no k)
      (λ t. let k : p ≤ length s = omega (arith, leb-false (length s) p t) in
      pick_all (FoundIn (length s)) (eqb (get_or s p 0) 0xfa) (λ _. block-of_in op due p 4 h k)
      (λ _. pick_all (FoundIn (length s)) (eqb (get_or s p 0) 0xfb) (λ _. block-of_in op due p 1 h k) (λ _. no h)))

data FaultIn (len : ℕ) : Fault → Type 0 where
  good : FaultIn len fine
  ill : {code place : ℕ} → place ≤ len → FaultIn len (bad code place)

one_in : (n : ℕ) (high : Bool) (s : List ℕ) (rules : List Rule) (before : List Attribute) {l : List Attribute} → AllIn n l → FaultIn n (one_by_one high s rules before l)
unfolding one_by_one
one_in n high s rules before none_in = good
one_in n high s rules before (more_in {a = a} {l = l} h i) =
    pick_all (FaultIn n) (eqb (attribute_code high s before a (rule_in rules a.number)) 0) (λ _. one_in n high s rules (before ++ (a ∷ [])) i) (λ _. ill h)

module _ (c : Context) (s : List ℕ) (tag p : ℕ) (l : List Attribute) (h : p ≤ length s) where
  with_block-in : (due : ℕ) {f : Found} → FoundIn (length s) f → ReadIn (length s) (with_block tag p l due f)
  unfolding with_block
  with_block-in due found = operator h
  with_block-in due (no k) = no k

  with_data-in : (d : Due) → ReadIn (length s) (with_data c s tag p l d)
  unfolding with_data
  with_data-in Due.none = operator h
  with_data-in (Due.reads due) = pick_all (ReadIn (length s)) (c.asked && not c.opened) (λ _. no h) (λ _. with_block-in due (block_in c.set.high s p due (after s (suc p)) h))

  whole_in : (code : ℕ) → ReadIn (length s) (as_whole c s tag p l code)
  unfolding as_whole
  whole_in code =
      pick_all (ReadIn (length s)) (eqb code 0)
      (λ _. pick_all (ReadIn (length s)) (rows_fit c.set.high s (image_of c.phase) tag l) (λ _. with_data-in _) (λ _. no h)) (λ _. no h)

  attributes_in : (r : Row) {f : Fault} → FaultIn (length s) f → ReadIn (length s) (with_attributes c s tag p l r f)
  unfolding with_attributes
  attributes_in r good = whole_in _
  attributes_in r (ill k) = no k

  line-in : (r : Line) → AllIn (length s) l → ReadIn (length s) (with_line c s tag p l r)
  unfolding with_line
  line-in Line.none i = no h
  line-in (Line.is r) i =
      pick_all (ReadIn (length s)) (may_come c.phase c.opened tag) (λ _. attributes_in r (one_in (length s) c.set.high s r.rules [] i)) (λ _. no h)

scanned-in : (c : Context) (s : List ℕ) {r : Scan} → ScanIn (length s) r → ReadIn (length s) (scanned c s r)
unfolding scanned
scanned-in c s (tagged {tag = t} {p = p} {l = l} h i) = line-in c s t p l h _ i
scanned-in c s ended = ended
scanned-in c s (no k) = no k

-- a refusal of reading stands within the bytes, or right behind them
pub read-in : (c : Context) (s : List ℕ) (at : ℕ) → ReadIn (length s) (operator_at c s at)
unfolding operator_at
read-in c s at = scanned-in c s (scan_in c.set.high s at)

pub read-placed : (c : Context) (s : List ℕ) (at code place : ℕ) → operator_at c s at ≡ Read.no code place → place ≤ length s
read-placed c s at code place e = placed (subst (λ r. ReadIn (length s) r) e (read-in c s at))
  where
    placed : ReadIn (length s) (Read.no code place) → place ≤ length s
    placed (no k) = k

pub data HeaderIn (len : ℕ) : Header → Type 0 where
  good : {class : Class} {high : Bool} {next : ℕ} → 12 ≤ len → HeaderIn len (Header.is class high next)
  ill : {code place : ℕ} → place ≤ len → HeaderIn len (Header.no code place)

data FormIn (n : ℕ) : Form → Type 0 where
  whole : {k : ℕ} → 16 ≤ k → k ≤ n → FormIn n (ends k)
  broken : {k : ℕ} → k ≤ n → FormIn n (breaks k)

and_left : (a b : Bool) → (a && b) ≡ true → a ≡ true
and_left true b e = refl
and_left false b e = e

form_in : (i : ℕ) (s : List ℕ) → FormIn (i + length s) (form_from i s)
unfolding form_from
form_in i [] = let k : i ≤ i + 0 = omega arith in broken k
form_in i (b ∷ bs) = go_on (may_stand i b) (leb 15 i && eqb b 0x0a) (λ e. leb-true 15 i (and_left (leb 15 i) (eqb b 0x0a) e)) (further (form_in (suc i) bs))
  where
    further : {f : Form} → FormIn (suc i + length bs) f → FormIn (i + suc (length bs)) f
    further (whole {k = k} g h) = let l : k ≤ i + suc (length bs) = omega arith in whole g l
    further (broken {k = k} h) = let l : k ≤ i + suc (length bs) = omega arith in broken l

    go_on : (x y : Bool) → (y ≡ true → 15 ≤ i) → {f : Form} → FormIn (i + suc (length bs)) f
        → FormIn (i + suc (length bs)) (elim x [ false ↦ breaks i | true ↦ elim y [ true ↦ ends (suc i) | false ↦ f ] ])
    go_on false y e h = let l : i ≤ i + suc (length bs) = omega arith in broken l
    go_on true true e h =
        let g = e refl in
        let k : 16 ≤ suc i = omega arith in
        let l : suc i ≤ i + suc (length bs) = omega arith in
        whole k l
    go_on true false e h = h

classed-in : (s : List ℕ) {f : Form} → FormIn (length s) f → HeaderIn (length s) (classed s f)
unfolding classed
classed-in s (whole {k = k} g h) =
    let l : 12 ≤ length s = omega arith in
    pick_all (HeaderIn (length s)) (eqb (get_or s 12 0) 0x31 && eqb (get_or s 14 0) 0x31) (λ _. good l)
    (λ _. pick_all (HeaderIn (length s)) (eqb (get_or s 12 0) 0x32 && eqb (get_or s 14 0) 0x31) (λ _. good l) (λ _. ill l))
classed-in s (broken k) = ill k

pub header-in : (s : List ℕ) → HeaderIn (length s) (header_of s)
unfolding header_of
header-in s =
    let l : 0 ≤ length s = omega arith in
    pick_all (HeaderIn (length s)) (eqb (get_or s 0 0) 0x27) (λ _. ill l) (λ _. classed-in s (subst (λ n. FormIn n (form_from 0 s)) (zero-add (length s)) (form_in 0 s)))

pub header-placed : (s : List ℕ) (code place : ℕ) → header_of s ≡ Header.no code place → place ≤ length s
header-placed s code place e = placed (subst (λ r. HeaderIn (length s) r) e (header-in s))
  where
    placed : HeaderIn (length s) (Header.no code place) → place ≤ length s
    placed (ill k) = k

data JudgedIn (len : ℕ) : Judged → Type 0 where
  good : {ops : List Own} → JudgedIn len (valid ops)
  ill : {code place : ℕ} → place ≤ len → JudgedIn len (faulty code place)

abbrev Any : Inside → Type 0
Any w = Unit {0}

module _ (set : Setting) (s : List ℕ) where
  end-in : (w : Inside) (p : Picture) → JudgedIn (length s) (on_end s w p)
  unfolding on_end
  end-in w (Picture.being i) = let k : length s ≤ length s = omega arith in ill k
  end-in w (Picture.hatching h i) = let k : length s ≤ length s = omega arith in ill k
  end-in w Picture.none = let k : length s ≤ length s = omega arith in pick_all (JudgedIn (length s)) (eqb w.saved 0) (λ _. good) (λ _. ill k)

  on-read_in : (w : Inside) {r : Read} → ReadIn (length s) r → Kept Any (JudgedIn (length s)) (on_read set s w r)
  unfolding on_read
  on-read_in w (operator h) = kept_go tt
  on-read_in w ended = kept_stop (end-in w w.picture)
  on-read_in w (no k) = kept_stop (ill k)

  step_in : (w : Inside) → Any w → Kept Any (JudgedIn (length s)) (motif_step set s w)
  unfolding motif_step
  step_in w u = on-read_in w (read-in (context_in set w) s w.at)

from_in : (set : Setting) (s : List ℕ) {r : Header} → HeaderIn (length s) r → JudgedIn (length s) (motif_from set s r)
unfolding motif_from judged_inside
from_in set s (good {class = class} {high = high} {next = next} l) =
    let k : 0 ≤ length s = omega arith in
    pick_all (JudgedIn (length s)) (same_class class set.class)
    (λ _. iterate-holds (motif_step (of_motif set high) s) (faulty 5 0) Any (JudgedIn (length s)) (ill k) (step_in (of_motif set high) s) (λ w. length s - w.at)
    (record { at = next; saved = 0; picture = Picture.none; ops = [] }) tt) (λ _. ill l)
from_in set s (ill k) = ill k

-- the place inside a faulty motif lies within it, or right behind it
pub motif-placed : (set : Setting) (s : List ℕ) (code place : ℕ) → motif_of set s ≡ faulty code place → place ≤ length s
unfolding motif_of
motif-placed set s code place e = placed (subst (λ r. JudgedIn (length s) r) e (from_in set s (header-in s)))
  where
    placed : JudgedIn (length s) (faulty code place) → place ≤ length s
    placed (ill k) = k
