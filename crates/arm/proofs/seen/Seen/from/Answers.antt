-- `Seen::from` meets its contract.
-- Assumes nothing.
use Rattle.scope.specs.Arm.{from}
use native.Mathlib.Omega.{arith}
use mathlib.Core.Path.{refl}
use Rattle.arm.proofs.seen.Seen.from.Goals as goal

pub returns-then-performed-le-PERFORMED_MOST : goal.returns-then-performed-le-PERFORMED_MOST
unfolding from
returns-then-performed-le-PERFORMED_MOST c = record { count = omega arith; most = refl; source = refl; exact = λ m. record { page = refl; lost = refl; wrong = refl } }

pub returns-else-performed-le-PERFORMED_MOST : goal.returns-else-performed-le-PERFORMED_MOST
unfolding from
returns-else-performed-le-PERFORMED_MOST c = record { count = omega arith; most = refl; source = refl; exact = λ m. record { page = refl; lost = refl; wrong = refl } }
