-- What is known of an operator that was read: its line of the table, its attributes one by one, and the rows of its image.
-- Assumes nothing.
use Prim.Native.Nat.{ℕ}
use mathlib.Core.Path.{◌≡◌, refl}
use mathlib.Core.Bool.{true, not, ◌&&◌}
use mathlib.Core.List.{List, []}
use lib.Dec.{eqb}
use Rattle.scope.specs.Item.{Attribute, Scan, scan_at}
use Rattle.scope.specs.Table.{Row, Line, table, line_in}
use Rattle.scope.specs.Attributes.{Fault, fine, bad, one_by_one}
use Rattle.scope.specs.Data.{Due, Found}
use Rattle.scope.specs.Order.{may_come, image_of, rows_fit}
use Rattle.scope.specs.Reading.{Context, Operator, Read, with_block, with_data, as_whole, with_attributes, with_line, scanned, operator_at}
use Rattle.scope.proofs.Ends.{pick_all}

pub data Taken (c : Context) (s : List ℕ) : Read → Type 0 where
  operator : {o : Operator} {r : Row} → line_in (table c.set.class) o.tag ≡ Line.is r → one_by_one c.set.high s r.rules [] o.attrs ≡ fine
      → rows_fit c.set.high s (image_of c.phase) o.tag o.attrs ≡ true → Taken c s (Read.operator o)
  ended : Taken c s Read.ended
  no : {code place : ℕ} → Taken c s (Read.no code place)

module _ (c : Context) (s : List ℕ) (tag p : ℕ) (l : List Attribute) (r : Row) (in_table : line_in (table c.set.class) tag ≡ Line.is r) where
  module _ (one : one_by_one c.set.high s r.rules [] l ≡ fine) where
    module _ (fit : rows_fit c.set.high s (image_of c.phase) tag l ≡ true) where
      block-taken : (due : ℕ) (f : Found) → Taken c s (with_block tag p l due f)
      unfolding with_block
      block-taken due (Found.at first) = operator in_table one fit
      block-taken due (Found.no code place) = no

      data_taken : (d : Due) → Taken c s (with_data c s tag p l d)
      unfolding with_data
      data_taken Due.none = operator in_table one fit
      data_taken (Due.reads due) = pick_all (Taken c s) (c.asked && not c.opened) (λ _. no) (λ _. block-taken due _)

    whole-taken : (code : ℕ) → Taken c s (as_whole c s tag p l code)
    unfolding as_whole
    whole-taken code =
        pick_all (Taken c s) (eqb code 0)
        (λ _. pick_all (Taken c s) (rows_fit c.set.high s (image_of c.phase) tag l) (λ t. data_taken t _) (λ _. no)) (λ _. no)

  attributes_taken : (f : Fault) → one_by_one c.set.high s r.rules [] l ≡ f → Taken c s (with_attributes c s tag p l r f)
  unfolding with_attributes
  attributes_taken fine e = whole-taken e _
  attributes_taken (bad code place) e = no

line_taken : (c : Context) (s : List ℕ) (tag p : ℕ) (l : List Attribute) (r : Line) → line_in (table c.set.class) tag ≡ r → Taken c s (with_line c s tag p l r)
unfolding with_line
line_taken c s tag p l Line.none e = no
line_taken c s tag p l (Line.is r) e =
    pick_all (Taken c s) (may_come c.phase c.opened tag) (λ _. attributes_taken c s tag p l r e _ refl) (λ _. no)

scanned-taken : (c : Context) (s : List ℕ) (r : Scan) → Taken c s (scanned c s r)
unfolding scanned
scanned-taken c s (Scan.tagged tag p l) = line_taken c s tag p l (line_in (table c.set.class) tag) refl
scanned-taken c s Scan.ended = ended
scanned-taken c s (Scan.no code place) = no

pub read_taken : (c : Context) (s : List ℕ) (at : ℕ) → Taken c s (operator_at c s at)
unfolding operator_at
read_taken c s at = scanned-taken c s (scan_at c.set.high s at)
