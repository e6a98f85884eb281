-- `perform` meets its contract.
-- Assumes nothing.
use Rattle.page.specs.Views.{page_as}
use Rattle.scope.specs.Arm.{Page}
use mathlib.Core.List.{[], ◌∷◌}
use Rattle.scope.specs.Arm.{from, walk}
use mathlib.Core.Path.{◌≡◌, ap}
use Rattle.arm.proofs.moved.perform.Goals as goal

pub returns : goal.returns
unfolding walk
returns c q x h e = let a = c.args in
    let f : from (page_as a.page) a.performed ≡ from q a.performed = ap (λ (p : Page). from p a.performed) h.same in
    let k = rw f at c.from.ensures in
    let l = c.step.ensures (from q a.performed) k in
    c.answer.ensures q a.performed (x ∷ []) h.few (rw e l)
