-- `reads_rows` meets its contract.
-- Assumes nothing.
use native.Mathlib.Omega.{arith}
use Rattle.std.proofs.lemmas.Bool.Decides.{nat_tests}
use Rattle.scope.specs.Data.{reads_rows}
use Rattle.due.proofs.due.reads_rows.Goals as goal

pub returns-in-177 : goal.returns-in-177
unfolding reads_rows
returns-in-177 c = grind (arith, nat_tests)

pub returns-in_default : goal.returns-in_default
unfolding reads_rows
returns-in_default c = grind (arith, nat_tests)
