-- `row_bits` meets its contract.
-- Assumes nothing.
use native.Mathlib.Omega.{arith}
use Rattle.std.proofs.lemmas.Bool.Decides.{nat_tests}
use lib.Dec.{eqb}
use mathlib.Core.Path.{◌≡◌}
use mathlib.Core.Bool.{false}
use Rattle.scope.specs.Data.{bits_of}
use Rattle.due.proofs.due.row_bits.Goals as goal

pub returns-in-0-clause-value : goal.returns-in-0-clause-value
unfolding bits_of
returns-in-0-clause-value c = rw c.in-0.is (omega arith)

pub returns-in-1-clause-value : goal.returns-in-1-clause-value
unfolding bits_of
returns-in-1-clause-value c = rw c.in-1.is

pub returns-in_default-clause-value : goal.returns-in_default-clause-value
unfolding bits_of
returns-in_default-clause-value c =
    let a : eqb c.args.depth 0 ≡ false = grind (arith, nat_tests) in
    let b : eqb c.args.depth 1 ≡ false = grind (arith, nat_tests) in
    rw (a, b)
