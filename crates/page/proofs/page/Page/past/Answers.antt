-- `past`: by the tag, what the operator does is what the definition does, and no more than 24 are saved then.
-- Assumes nothing.
use Prim.Native.Nat.{ℕ}
use mathlib.Core.Path.{◌≡◌, refl}
use mathlib.Core.Logic.{◌⊎◌, inl, inr}
use mathlib.Core.Bool.{false}
use native.Mathlib.Omega.{arith}
use Rattle.std.specs.Prelude.{Some}
use Rattle.scope.specs.Arm as scope
use Rattle.scope.specs.Arm.{done, risen, put, kept, to, push, pop}
use Rattle.page.specs.Alone.{Leaves, alone_close, alone_new, alone_paint, leaves_no}
use Rattle.page.specs.Holds.{PageHolds}
use Rattle.page.specs.declared.page.Page.{Page}
use Rattle.page.proofs.Saves.{leaves, alone-out, pushed_leaves, popped_leaves}
use Rattle.page.proofs.page.Page.past.Goals as goal

-- CloseSubPath and PaintPath leave the page as it is
stays : {tag : ℕ} {p : Page} {q : scope.Page} → (tag ≡ 0x84) ⊎ (tag ≡ 0x86) → PageHolds p q → Leaves tag q (Some p)
unfolding done risen
stays (inl e) h = rw e (leaves (put kept kept) h alone_close (omega arith) refl)
stays (inr e) h = rw e (leaves (put kept kept) h alone_paint (omega arith) refl)

pub returns-in-132 : goal.returns-in-132
returns-in-132 c q h = stays c.in-132.is h

pub returns-in-133 : goal.returns-in-133
unfolding done risen
returns-in-133 c q h = rw c.in-133.is (leaves (put (to false) kept) h (alone_new) (omega arith) c.put.ensures)

pub returns-in-96 : goal.returns-in-96
returns-in-96 c q h = rw c.in-96.is (popped_leaves c.pop.result h c.pop.ensures)

pub returns-in-97 : goal.returns-in-97
returns-in-97 c q h = rw c.in-97.is (pushed_leaves c.push.result h c.push.ensures)

pub returns-in_default : goal.returns-in_default
returns-in_default c q h = leaves_no (λ q₁ x. alone-out x (λ e. grind arith) (λ e. grind arith) (λ e. grind arith) (λ e k. grind arith) (λ e k. grind arith))
