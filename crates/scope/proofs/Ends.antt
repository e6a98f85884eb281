-- An operator that was read ends past the place that reading began at, and within the bytes. So every walk over operators comes to an end.
-- Assumes nothing.
use Prim.Native.Nat.{ℕ, zero, suc, ◌+◌, ◌-◌, ◌*◌, ◌≤◌, ◌<◌}
use mathlib.Core.Path.{◌≡◌, refl}
use mathlib.Core.Bool.{Bool, true, false, not, ◌&&◌, ◌||◌}
use mathlib.Core.List.{List, [], ◌∷◌, ◌++◌}
use native.Mathlib.Omega.{arith}
use borrow.Author.Tests.{leb-true, leb-false, eqb-false}
use lib.ListN.{length, get_or}
use lib.Dec.{T, ltb, leb, eqb}
use Rattle.scope.specs.Choice.{pick, between}
use Rattle.scope.specs.Number.{number}
use Rattle.scope.specs.Iterate.{Next, go, stop, onward, run, iterate}
use Rattle.scope.specs.Item.{Kind, plain, array, other, Value, numbers_at, elements_at, counted_at, array_at, value_of, kind_of}
use Rattle.scope.specs.Item.{Attribute, Pair, numbered, number_at, pair_of, pair_at, Scan, Walk, ended_with, on_pair, scan_item, scan_step, scan_from, scan_at, after}
use Rattle.scope.specs.Table.{Rule, Ruled, Form, each, one, line, Row, Line, rule_in}
use Rattle.scope.specs.Attributes.{Fault, fine, bad, has, type_taken, in_range, attribute_code, one_by_one, all_there, how_many, choice_code, pair_code, form_code}
use Rattle.scope.specs.Data.{Due, Found, block_of, block_at}
use Rattle.scope.specs.Order.{may_come, image_of, rows_fit}
use Rattle.scope.specs.Reading.{Context, Operator, Read, with_block, with_data, as_whole, with_attributes, with_line, scanned, operator_at}

-- a law of every choice: what holds on both ways, each under its test
pub pick_all : {A : Type 0} (Q : A → Type 0) (b : Bool) {x y : A} → (b ≡ true → Q x) → (b ≡ false → Q y) → Q (pick b x y)
pick_all Q true f g = f refl
pick_all Q false f g = g refl

-- what a step keeps: a fact of the states it goes on at, a fact of the answers it stops with
pub data Kept {S R : Type 0} (I : S → Type 0) (Q : R → Type 0) : Next S R → Type 0 where
  kept_go : {t : S} → I t → Kept I Q (go t)
  kept_stop : {r : R} → Q r → Kept I Q (stop r)

onward-holds : {S R : Type 0} {I : S → Type 0} {Q : R → Type 0} (k : S → R) → ((t : S) → I t → Q (k t)) → {n : Next S R} → Kept I Q n → Q (onward k n)
onward-holds k g (kept_go {t = t} i) = g t i
onward-holds k g (kept_stop q) = q

-- what every step keeps holds of the answer of a run
module _ {S R : Type 0} (step : S → Next S R) (d : R) (I : S → Type 0) (Q : R → Type 0) (q : Q d) (h : (s : S) → I s → Kept I Q (step s)) where
  run_holds : (f : ℕ) (s : S) → I s → Q (run step d f s)
  unfolding run
  run_holds zero s i = q
  run_holds (suc f) s i = onward-holds (run step d f) (run_holds f) (h s i)

  pub iterate-holds : (m : S → ℕ) (s : S) → I s → Q (iterate step d m s)
  unfolding iterate
  iterate-holds m s i = run_holds (suc (m s)) s i

-- a code that is given here is one of 2 to 28 but 20, or 32: not 0, which is a pass, nor 1 or 29, which only the entry gives
abbrev pub given-here : ℕ → Bool
given-here k = between 2 19 k || (between 21 28 k || between 32 34 k)

abbrev pub Coded : ℕ → Type 0
Coded k = T (given-here k)

-- no code, or one that is given here
pub data ZeroOr : ℕ → Type 0 where
  none_given : ZeroOr 0
  given : {k : ℕ} → Coded k → ZeroOr k

coded : {k : ℕ} → ZeroOr k → eqb k 0 ≡ false → Coded k
coded none_given e = absurd (eqb-false 0 0 e refl)
coded (given c) e = c

-- a value ends past its tag and within the bytes
pub data GoodValue (len at : ℕ) : Value → Type 0 where
  is : {count first next : ℕ} → at < next → next ≤ len → GoodValue len at (Value.is count first next)
  no : {code place : ℕ} → Coded code → GoodValue len at (Value.no code place)

-- so does a pair
pub data GoodPair (len at : ℕ) : Pair → Type 0 where
  is : {a : Attribute} {next : ℕ} → at < next → next ≤ len → GoodPair len at (Pair.is a next)
  no : {code place : ℕ} → Coded code → GoodPair len at (Pair.no code place)
  waits : GoodPair len at Pair.waits

-- an operator's tag stands within the bytes, not before where the scan began
data GoodScan (len at : ℕ) : Scan → Type 0 where
  tagged : {tag p : ℕ} {l : List Attribute} → at ≤ p → p < len → GoodScan len at (Scan.tagged tag p l)
  ended : GoodScan len at Scan.ended
  no : {code place : ℕ} → Coded code → GoodScan len at (Scan.no code place)

data GoodFound (len at due : ℕ) : Found → Type 0 where
  found : {first : ℕ} → at < first → first + due ≤ len → GoodFound len at due (Found.at first)
  no : {code place : ℕ} → Coded code → GoodFound len at due (Found.no code place)

pub data GoodRead (len at : ℕ) (may : ℕ → Bool) : Read → Type 0 where
  operator : {o : Operator} → at < o.next → o.next ≤ len → may o.tag ≡ true → GoodRead len at may (Read.operator o)
  ended : GoodRead len at may Read.ended
  no : {code place : ℕ} → Coded code → GoodRead len at may (Read.no code place)

module _ (high : Bool) (s : List ℕ) where
  pub after-le : (at : ℕ) → at ≤ after s at
  unfolding after
  after-le at = omega arith

  module _ (at : ℕ) where
    numbers-good : (first n w : ℕ) → at < first → GoodValue (length s) at (numbers_at s at first n w)
    unfolding numbers_at
    numbers-good first n w h =
        let l : at < first + n * w = omega arith in
        pick_all (GoodValue (length s) at) _ (λ t. is l (leb-true _ _ t)) (λ _. no tt)

    elements_good : (first w n : ℕ) → at < first → GoodValue (length s) at (elements_at s at first w n)
    unfolding elements_at
    elements_good first w n h = pick_all (GoodValue (length s) at) (ltb 1024 n) (λ _. no tt) (λ _. numbers-good first n w h)

    counted-good : (w l : ℕ) → GoodValue (length s) at (counted_at high s at w l)
    unfolding counted_at
    counted-good w l =
        let k : at < at + 2 + l = omega arith in
        pick_all (GoodValue (length s) at) (leb (at + 2 + l) (length s)) (λ _. elements_good (at + 2 + l) w _ k) (λ _. no tt)

    array-good : (w : ℕ) → GoodValue (length s) at (array_at high s at w)
    unfolding array_at
    array-good w =
        pick_all (GoodValue (length s) at) (leb (length s) (at + 1)) (λ _. no tt)
        (λ _. pick_all (GoodValue (length s) at) (eqb (get_or s (at + 1) 0) 0xc0) (λ _. counted-good w 1)
        (λ _. pick_all (GoodValue (length s) at) (eqb (get_or s (at + 1) 0) 0xc1) (λ _. counted-good w 2) (λ _. no tt)))

    pub value-good : (n : ℕ) (k : Kind) → GoodValue (length s) at (value_of high s at n k)
    unfolding value_of
    value-good n (plain k w) =
        let h : at < at + 1 = omega arith in
        pick_all (GoodValue (length s) at) (leb 16 n) (λ _. no tt) (λ _. numbers-good (at + 1) k w h)
    value-good n (array w) = pick_all (GoodValue (length s) at) (leb 16 n) (λ _. no tt) (λ _. array-good w)
    value-good n other = no tt

    numbered-good : (count first p w : ℕ) → at < p → GoodPair (length s) at (numbered high s at count first p w)
    unfolding numbered
    numbered-good count first p w h =
        let l : at < p + 1 + w = omega arith in
        pick_all (GoodPair (length s) at) (leb (p + 1 + w) (length s)) (λ t. is l (leb-true _ _ t)) (λ _. no tt)

    number-good : (count first p : ℕ) → at < p → GoodPair (length s) at (number_at high s at count first p)
    unfolding number_at
    number-good count first p h =
        pick_all (GoodPair (length s) at) (leb (length s) p) (λ _. waits)
        (λ _. pick_all (GoodPair (length s) at) (eqb (get_or s p 0) 0xf8) (λ _. numbered-good count first p 1 h)
        (λ _. pick_all (GoodPair (length s) at) (eqb (get_or s p 0) 0xf9) (λ _. numbered-good count first p 2 h) (λ _. no tt)))

    pair-of_good : {v : Value} → GoodValue (length s) at v → GoodPair (length s) at (pair_of high s at v)
    unfolding pair_of
    pair-of_good (is {count = c} {first = f} {next = n} h k) =
        let l = after-le n in
        let m : at < after s n = omega arith in
        number-good c f (after s n) m
    pair-of_good (no k) = no k

    pub pair-good : (n : ℕ) → GoodPair (length s) at (pair_at high s at n)
    unfolding pair_at
    pair-good n = pair-of_good (value-good n (kind_of (get_or s at 0)))

  -- a scan step that goes on stands further on; one that stops at a tag has not gone back
  abbrev Further : ℕ → Walk → Type 0
  Further at w = at ≤ w.at

  on-pair_kept : (at p : ℕ) (l : List Attribute) → at ≤ p → {r : Pair} → GoodPair (length s) p r
      → Kept (Further at) (GoodScan (length s) at) (on_pair s l r)
  unfolding on_pair
  on-pair_kept at p l h (is {next = q} k m) = let z : at ≤ q = omega arith in kept_go z
  on-pair_kept at p l h (no k) = kept_stop (no k)
  on-pair_kept at p l h waits = kept_stop (no tt)

  ended-kept : (at : ℕ) (l : List Attribute) → GoodScan (length s) at (ended_with s l)
  unfolding ended_with
  ended-kept at [] = ended
  ended-kept at (a ∷ l) = no tt

  scan_kept : (at : ℕ) (w : Walk) → Further at w → Kept (Further at) (GoodScan (length s) at) (scan_step high s w)
  unfolding scan_step scan_item
  scan_kept at w h =
      let p = after s w.at in
      let z = after-le w.at in
      let l : at ≤ p = omega arith in
      pick_all (Kept (Further at) (GoodScan (length s) at)) (leb (length s) p) (λ _. kept_stop (ended-kept at w.attrs))
      (λ t. pick_all (Kept (Further at) (GoodScan (length s) at)) (between 0x41 0xbf (get_or s p 0))
      (λ _. kept_stop (tagged l (leb-false (length s) p t))) (λ _. on-pair_kept at p w.attrs l (pair-good p (length w.attrs))))

  scan_good : (at : ℕ) → GoodScan (length s) at (scan_at high s at)
  unfolding scan_at scan_from
  scan_good at =
      let l : at ≤ at = omega arith in
      iterate-holds (scan_step high s) Scan.ended (Further at) (GoodScan (length s) at) ended (scan_kept at) _ (record { at = at; attrs = [] }) l

  block-of_good : (op due p w : ℕ) → GoodFound (length s) p due (block_of high s op due p w)
  unfolding block_of
  block-of_good op due p w =
      let k : p < p + 1 + w = omega arith in
      pick_all (GoodFound (length s) p due) (leb (p + 1 + w) (length s))
      (λ _. pick_all (GoodFound (length s) p due) (eqb (number high w s (p + 1)) due)
      (λ _. pick_all (GoodFound (length s) p due) (leb (p + 1 + w + due) (length s)) (λ t. found k (leb-true _ _ t)) (λ _. no tt)) (λ _. no tt)) (λ _. no tt)

  block-good : (op due p : ℕ) → GoodFound (length s) p due (block_at high s op due p)
  unfolding block_at
  block-good op due p =
      pick_all (GoodFound (length s) p due) (leb (length s) p) (λ _. no tt)
      (λ _. pick_all (GoodFound (length s) p due) (eqb (get_or s p 0) 0xfa) (λ _. block-of_good op due p 4)
      (λ _. pick_all (GoodFound (length s) p due) (eqb (get_or s p 0) 0xfb) (λ _. block-of_good op due p 1) (λ _. no tt)))

data GoodFault : Fault → Type 0 where
  good : GoodFault fine
  ill : {code place : ℕ} → Coded code → GoodFault (bad code place)

attribute-coded : (high : Bool) (s : List ℕ) (before : List Attribute) (a : Attribute) (r : Ruled) → ZeroOr (attribute_code high s before a r)
unfolding attribute_code
attribute-coded high s before a Ruled.none = given tt
attribute-coded high s before a (Ruled.is r) =
    pick_all ZeroOr (has a.number before) (λ _. given tt)
    (λ _. pick_all ZeroOr (type_taken r.takes a.tag) (λ _. pick_all ZeroOr (in_range high s r.takes a) (λ _. none_given) (λ _. given tt)) (λ _. given tt))

pair-coded : (a b c : Bool) → ZeroOr (pair_code a b c)
pair-coded true true c = given tt
pair-coded true false true = given tt
pair-coded true false false = none_given
pair-coded false true true = none_given
pair-coded false true false = given tt
pair-coded false false true = given tt
pair-coded false false false = given tt

form-coded : (l : List Attribute) (rs : List Rule) (f : Form) → ZeroOr (form_code l rs f)
unfolding form_code choice_code
form-coded l rs each = pick_all ZeroOr (all_there l rs) (λ _. none_given) (λ _. given tt)
form-coded l rs one = pick_all ZeroOr (eqb (how_many l rs) 0) (λ _. given tt) (λ _. pick_all ZeroOr (eqb (how_many l rs) 1) (λ _. none_given) (λ _. given tt))
form-coded l rs line = pair-coded (has 69 l) (has 77 l) (has 80 l)

one-by_one_good : (high : Bool) (s : List ℕ) (rules : List Rule) (before l : List Attribute) → GoodFault (one_by_one high s rules before l)
unfolding one_by_one
one-by_one_good high s rules before [] = good
one-by_one_good high s rules before (a ∷ l) =
    pick_all GoodFault (eqb (attribute_code high s before a (rule_in rules a.number)) 0)
    (λ _. one-by_one_good high s rules (before ++ (a ∷ [])) l) (λ t. ill (coded (attribute-coded high s before a (rule_in rules a.number)) t))

module _ (c : Context) (s : List ℕ) (at : ℕ) where
  abbrev Good : Read → Type 0
  Good = GoodRead (length s) at (may_come c.phase c.opened)

  module _ (tag p : ℕ) (l : List Attribute) (h : at ≤ p) (k : p < length s) where
    module _ (may : may_come c.phase c.opened tag ≡ true) where
      with_block-good : (due q : ℕ) → p < q → {f : Found} → GoodFound (length s) q due f → Good (with_block tag p l due f)
      unfolding with_block
      with_block-good due q m (found {first = f} x y) =
          let z : at < f + due = omega arith in
          operator z y may
      with_block-good due q m (no k') = no k'

      with_data-good : (d : Due) → Good (with_data c s tag p l d)
      unfolding with_data
      with_data-good Due.none = let z : at < suc p = omega arith in operator z k may
      with_data-good (Due.reads due) =
          let z = after-le c.set.high s (suc p) in
          let y : p < after s (suc p) = omega arith in
          pick_all Good (c.asked && not c.opened) (λ _. no tt)
          (λ _. with_block-good due (after s (suc p)) y (block-good c.set.high s p due (after s (suc p))))

      as_whole-good : {code : ℕ} → ZeroOr code → Good (as_whole c s tag p l code)
      unfolding as_whole
      as_whole-good {code} z =
          pick_all Good (eqb code 0)
          (λ _. pick_all Good (rows_fit c.set.high s (image_of c.phase) tag l) (λ _. with_data-good _) (λ _. no tt)) (λ t. no (coded z t))

      with_attributes-good : (r : Row) {f : Fault} → GoodFault f → Good (with_attributes c s tag p l r f)
      unfolding with_attributes
      with_attributes-good r (ill k') = no k'
      with_attributes-good r good = as_whole-good (form-coded l r.rules r.form)

    pub with_line-good : (r : Line) → Good (with_line c s tag p l r)
    unfolding with_line
    with_line-good Line.none = no tt
    with_line-good (Line.is r) =
        pick_all Good (may_come c.phase c.opened tag)
        (λ t. with_attributes-good t r (one-by_one_good c.set.high s r.rules [] l)) (λ _. no tt)

  scanned-good : {r : Scan} → GoodScan (length s) at r → Good (scanned c s r)
  unfolding scanned
  scanned-good (tagged {tag = t} {p = p} {l = l} h k) = with_line-good t p l h k _
  scanned-good ended = ended
  scanned-good (no k) = no k

  -- an operator that was read ends past where reading began, and within the bytes; it may come here; and a refusal has a code
  pub read-good : GoodRead (length s) at (may_come c.phase c.opened) (operator_at c s at)
  unfolding operator_at
  read-good = scanned-good (scan_good c.set.high s at)
