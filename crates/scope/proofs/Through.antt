-- What holds of every refusal, and of every operator with a tag, its place and attributes, holds of what reading makes of these.
-- Assumes nothing.
use Prim.Native.Nat.{ℕ}
use mathlib.Core.Path.{◌≡◌, refl}
use mathlib.Core.Bool.{not, ◌&&◌}
use mathlib.Core.List.{List}
use lib.Dec.{eqb}
use Rattle.scope.specs.Item.{Attribute}
use Rattle.scope.specs.Table.{Row, Line}
use Rattle.scope.specs.Attributes.{Fault, fine, bad}
use Rattle.scope.specs.Data.{Due, Found}
use Rattle.scope.specs.Order.{may_come, image_of, rows_fit}
use Rattle.scope.specs.Reading.{Context, Operator, Read, with_block, with_data, as_whole, with_attributes, with_line}
use Rattle.scope.proofs.Ends.{pick_all}

module _ (Q : Read → Type 0) (refusals : (code place : ℕ) → Q (Read.no code place)) (c : Context) (s : List ℕ) (tag at : ℕ) (l : List Attribute)
    (operators : (o : Operator) → o.tag ≡ tag → o.at ≡ at → o.attrs ≡ l → Q (Read.operator o)) where
  through-block : (due : ℕ) (f : Found) → Q (with_block tag at l due f)
  unfolding with_block
  through-block due (Found.at first) = operators _ refl refl refl
  through-block due (Found.no code place) = refusals code place

  through-data : (d : Due) → Q (with_data c s tag at l d)
  unfolding with_data
  through-data Due.none = operators _ refl refl refl
  through-data (Due.reads due) = pick_all Q (c.asked && not c.opened) (λ _. refusals _ _) (λ _. through-block due _)

  through-whole : (code : ℕ) → Q (as_whole c s tag at l code)
  unfolding as_whole
  through-whole code =
      pick_all Q (eqb code 0) (λ _. pick_all Q (rows_fit c.set.high s (image_of c.phase) tag l) (λ _. through-data _) (λ _. refusals _ _)) (λ _. refusals _ _)

  through-attributes : (r : Row) (f : Fault) → Q (with_attributes c s tag at l r f)
  unfolding with_attributes
  through-attributes r fine = through-whole _
  through-attributes r (bad code place) = refusals code place

  pub through : (r : Line) → Q (with_line c s tag at l r)
  unfolding with_line
  through Line.none = refusals _ _
  through (Line.is r) = pick_all Q (may_come c.phase c.opened tag) (λ _. through-attributes r _) (λ _. refusals _ _)
