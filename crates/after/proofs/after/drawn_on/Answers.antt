-- `after::drawn_on` meets its contract: EndPage, an operator that is of no image and no pattern, or another.
-- Assumes nothing.
use Prim.Native.Nat.{ℕ, ◌<◌}
use mathlib.Core.Path.{◌≡◌, refl, sym}
use mathlib.Core.Bool.{Bool}
use mathlib.Core.List.{List}
use native.Mathlib.Omega.{arith}
use Rattle.scope.specs.Item.{Attribute}
use Rattle.scope.specs.Data.{reads_rows}
use Rattle.scope.specs.Motif as Def
use Rattle.order.specs.Pictures.{picture_for}
use Rattle.place.specs.Places.{resting_holds, drawing_holds}
use borrow.Author.Tests.{eq-eqb, ne_eqb}
use Rattle.after.proofs.after.drawn_on.Goals as goal

-- the tags of images and patterns are b0 to b5
no-image : (high : Bool) (s : List ℕ) (tag : ℕ) (l : List Attribute) (p : Def.Picture) → tag < 0xb0 → picture_for high s tag l p ≡ p
unfolding picture_for reads_rows
no-image high s tag l p h =
    rw (
      ne_eqb tag 0xb0 (λ e. omega (arith, e, h)),
      ne_eqb tag 0xb3 (λ e. omega (arith, e, h)),
      ne_eqb tag 0xb1 (λ e. omega (arith, e, h)),
      ne_eqb tag 0xb4 (λ e. omega (arith, e, h)),
      ne_eqb tag 0xb2 (λ e. omega (arith, e, h)),
      ne_eqb tag 0xb5 (λ e. omega (arith, e, h)),
    )

pub returns-then-tag-eq-END_PAGE : goal.returns-then-tag-eq-END_PAGE
returns-then-tag-eq-END_PAGE c = λ work p kept ms q z h f few place. rw (eq-eqb _ _ c.if-tag-eq-END_PAGE.true) resting_holds

pub returns-then-tag-lt-BEGIN_IMAGE : goal.returns-then-tag-lt-BEGIN_IMAGE
returns-then-tag-lt-BEGIN_IMAGE c = λ work p kept ms q z h f few place. rw (ne_eqb _ _ c.if-tag-eq-END_PAGE.false) (drawing_holds h (sym (no-image _ _ _ _ _ c.if-tag-lt-BEGIN_IMAGE.true)) refl few place)

pub returns : goal.returns
returns c = λ work p kept ms q z h f few place. rw (ne_eqb _ _ c.if-tag-eq-END_PAGE.false) (drawing_holds h (c.picture_after.ensures z f) refl few place)
