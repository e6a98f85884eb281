-- `come_to`: no turn changes the bytes or their order, and each keeps the attributes within their array.
-- Assumes nothing.
use Rattle.std.specs.Prelude.{◌≡◌}
use Rattle.items.specs.Rows.{Sized}
use Rattle.trail.proofs.walk.Walk.come_to.Given as goal

abbrev pub invariant-loop : goal.invariant-loop
invariant-loop l =
    (l.self.s.now ≡ l.fn.self.s.now) × (l.self.high ≡ l.fn.self.high) × (Sized l.fn.self.attrs l.fn.self.count → Sized l.self.attrs l.self.count)
