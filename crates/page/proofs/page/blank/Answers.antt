-- `blank` meets its contract.
-- Assumes nothing.
use native.Mathlib.Omega.{arith}
use Rattle.page.specs.Views.{stack}
use mathlib.Core.Path.{refl}
use Rattle.page.proofs.page.blank.Goals as goal

pub returns : goal.returns
unfolding stack
returns c = record { same = refl; few = omega arith }
