-- `call` meets its contract.
-- Assumes nothing.
use Rattle.page.specs.Views.{page_as}
use Rattle.scope.specs.Arm.{Page}
use mathlib.Core.List.{◌∷◌}
use Rattle.scope.specs.Arm.{from}
use mathlib.Core.Path.{◌≡◌, ap}
use Rattle.arm.proofs.moved.call.Goals as goal

pub returns : goal.returns
returns c q x row h e m = let a = c.args in
    let f : from (page_as a.page) a.performed ≡ from q a.performed = ap (λ (p : Page). from p a.performed) h.same in
    let k = rw f at c.from.ensures in
    c.answer.ensures q a.performed (x ∷ row) h.few (c.call.ensures (from q a.performed) x row k e m)
