-- The image or pattern after an operator, and the rows that fit into it.
-- Assumes nothing.
use Prim.Native.Nat.{ℕ, ◌+◌, ◌≤◌}
use mathlib.Core.Path.{◌≡◌, refl}
use mathlib.Core.Bool.{Bool, true, false, ◌&&◌, false≢true}
use mathlib.Core.List.{List}
use lib.Dec.{eqb, leb}
use borrow.Author.Tests.{leb-true}
use Rattle.scope.specs.Item.{Attribute}
use Rattle.scope.specs.Attributes.{value_in}
use Rattle.scope.specs.Data.{Image, reads_rows}
use Rattle.scope.specs.Order.{length_fits, rows_fit}
use Rattle.scope.specs.Reading.{Operator}
use Rattle.scope.specs.Motif.{Picture, picture_after}
use Rattle.order.specs.Pictures.{picture_for}

pub picture-is : (high : Bool) (s : List ℕ) (o : Operator) (p : Picture) → picture_for high s o.tag o.attrs p ≡ picture_after high s o p
unfolding picture_for picture_after
picture-is high s o p = refl

both-middle : (a b c : Bool) → a && (b && c) ≡ true → b ≡ true
both-middle true true c e = refl
both-middle true false c e = e
both-middle false b c e = absurd (false≢true e)

-- rows that fit are no more than the image has
pub rows_in : (high : Bool) (s : List ℕ) (i : Image) (tag : ℕ) (l : List Attribute) → reads_rows tag ≡ true → rows_fit high s i tag l ≡ true
    → i.rows + value_in high s l 99 ≤ i.height
unfolding rows_fit
rows_in high s i tag l e h =
    let h₂ : eqb (value_in high s l 109) i.rows && (leb (i.rows + value_in high s l 99) i.height && length_fits high s i l) ≡ true = rw e at h in
    leb-true _ _ (both-middle (eqb (value_in high s l 109) i.rows) _ (length_fits high s i l) h₂)
