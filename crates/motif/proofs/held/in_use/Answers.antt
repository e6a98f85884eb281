-- `in_use` meets its contract: fewer than 64, or 64.
-- Assumes nothing.
use native.Mathlib.Omega.{arith}
use mathlib.Core.Path.{◌≡◌, refl}
use mathlib.Core.Bool.{Bool, true, false}
use Prim.Native.Nat.{ℕ, min}
use lib.Dec.{ltb}
use borrow.Author.Tests.{ltb-true, ltb-false}
use Rattle.scope.specs.Choice.{pick}
use Rattle.motif.specs.Search.{few}
use Rattle.motif.proofs.held.in_use.Goals as goal

fewer : (n : ℕ) (b : Bool) → ltb n 64 ≡ b → min n 64 ≡ pick b n 64
fewer n true e = let h = ltb-true n 64 e in omega arith
fewer n false e = let h = ltb-false n 64 e in omega arith

pub returns-clause-value : goal.returns-clause-value
unfolding few
returns-clause-value c = rw c.min.ensures (fewer c.args.held _ refl)
