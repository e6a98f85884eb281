-- `due_of`: by the operator.
-- Assumes nothing.
use mathlib.Core.Path.{◌≡◌}
use mathlib.Core.Bool.{true, false, ◌||◌}
use native.Mathlib.Omega.{arith}
use Rattle.std.proofs.lemmas.Bool.Decides.{nat_tests}
use lib.Dec.{eqb}
use Rattle.scope.specs.Data.{due_of, reads_rows}
use Rattle.due.specs.Views.{points_due}
use Rattle.due.proofs.due.due_of.Goals as goal

pub returns-in-92 : goal.returns-in-92
unfolding due_of reads_rows
returns-in-92 c = λ z. rw (c.in-92.is, ← c.value_in.ensures.value z)

pub returns-in-177 : goal.returns-in-177
unfolding due_of reads_rows
returns-in-177 c = λ z.
    let a : eqb c.args.tag 0x5c ≡ false = grind (arith, nat_tests) in
    let b : (eqb c.args.tag 0xb1 || eqb c.args.tag 0xb4) ≡ true = grind (arith, nat_tests) in
    rw (a, b, ← c.block_due.ensures z)

pub returns-in-155 : goal.returns-in-155
unfolding due_of reads_rows points_due
returns-in-155 c = λ z.
    let a : eqb c.args.tag 0x5c ≡ false = grind (arith, nat_tests) in
    let b : (eqb c.args.tag 0xb1 || eqb c.args.tag 0xb4) ≡ false = grind (arith, nat_tests) in
    let d : (eqb c.args.tag 0x9b || eqb c.args.tag 0x9d) ≡ true = grind (arith, nat_tests) in
    rw (a, b, d) (c.points_due.ensures z)

pub returns-in_default : goal.returns-in_default
unfolding due_of reads_rows
returns-in_default c = λ z.
    let a : eqb c.args.tag 0x5c ≡ false = grind (arith, nat_tests) in
    let b : (eqb c.args.tag 0xb1 || eqb c.args.tag 0xb4) ≡ false = grind (arith, nat_tests) in
    let d : (eqb c.args.tag 0x9b || eqb c.args.tag 0x9d) ≡ false = grind (arith, nat_tests) in
    rw (a, b, d)
