-- PushGS and PopGS that hand back the page or refuse, in the definitions' words.
-- Assumes nothing.
use Prim.Native.Nat.{ℕ, ◌≤◌, ◌<◌}
use mathlib.Core.Path.{◌≡◌, refl, ap, ◌∙◌}
use native.Mathlib.Omega.{arith}
use lib.ListN.{length}
use Rattle.scope.specs.Arm as scope
use Rattle.scope.specs.Names.{PopGS, PushGS}
use Rattle.scope.specs.Arm.{Effect, done, risen, push, pop}
use Rattle.std.specs.Prelude.{Option, Some, None, unwrap_or}
use Rattle.page.specs.Alone.{Pushed, Popped, Alone, alone_close, alone_new, alone_paint, alone_push, alone_pop, Leaves, leaves_to, leaves_no}
use Rattle.page.specs.Holds.{PageHolds}
use Rattle.page.specs.Views.{page_as, stack}
use Rattle.page.specs.declared.page.Page.{Page}
use Rattle.page.proofs.Stacks.{depth-saved}
use Rattle.page.proofs.Pages.{within-done}

-- a PushGS that may come is not refused
pub pushed_done : (p : Page) (a : Option Page) → Pushed p a → p.depth < 24 → page_as (unwrap_or a p) ≡ done push (page_as p)
pushed_done p (Some r) e h = e.1
pushed_done p None e h = absurd (omega arith)

-- with nothing saved PopGS leaves the page as it is
pub popped_done : (p : Page) (a : Option Page) → Popped p a → page_as (unwrap_or a p) ≡ done pop (page_as p)
unfolding done stack
popped_done p (Some r) e = e.1
popped_done p None e = rw e refl

-- the page after an effect by which no more than 24 are saved
pub leaves : {tag : ℕ} {p r : Page} {q : scope.Page} (e : Effect) → PageHolds p q → Alone tag q (done e q) → risen e q 0 ≤ 24 → page_as r ≡ done e (page_as p) → Leaves tag q (Some r)
leaves {q = q} e h a k f = leaves_to a (record { same = f ∙ ap (done e) h.same; few = let w = within-done e q 24 0 (let f = h.few in omega arith) in omega arith })

-- what is known of one of them, by its tag
pub alone-out : {tag : ℕ} {q q₁ : scope.Page} → Alone tag q q₁ → (tag ≡ 0x84 → ⊥) → (tag ≡ 0x85 → ⊥) → (tag ≡ 0x86 → ⊥)
    → (tag ≡ 0x60 → 0 < length q.saved → ⊥) → (tag ≡ 0x61 → length q.saved < 24 → ⊥) → ⊥
alone-out alone_close a b c d e = a refl
alone-out alone_new a b c d e = b refl
alone-out alone_paint a b c d e = c refl
alone-out (alone_push k) a b c d e = e refl k
alone-out (alone_pop k) a b c d e = d refl k

pub pushed_leaves : {p : Page} {q : scope.Page} (a : Option Page) → PageHolds p q → Pushed p a → Leaves PushGS q a
unfolding risen
pushed_leaves {p} {q} (Some r) h e = let d = depth-saved p q h.same in leaves push h (alone_push (omega (arith, e.0))) (omega (arith, e.0)) e.1
pushed_leaves {p} {q} None h e =
    let d = depth-saved p q h.same in
    leaves_no (λ q₁ x. alone-out x (λ y. omega (arith, y)) (λ y. omega (arith, y)) (λ y. omega (arith, y)) (λ y k. omega (arith, y)) (λ y k. omega (arith, k, d, e)))

pub popped_leaves : {p : Page} {q : scope.Page} (a : Option Page) → PageHolds p q → Popped p a → Leaves PopGS q a
unfolding risen
popped_leaves {p} {q} (Some r) h e = let d = depth-saved p q h.same in leaves pop h (alone_pop (omega (arith, e.0))) (omega arith) e.1
popped_leaves {p} {q} None h e =
    let d = depth-saved p q h.same in
    leaves_no (λ q₁ x. alone-out x (λ y. omega (arith, y)) (λ y. omega (arith, y)) (λ y. omega (arith, y)) (λ y k. omega (arith, k, d, e)) (λ y k. omega (arith, y)))
