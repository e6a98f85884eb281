-- The invariant: whether the number is among those of the line, the numbers from here on say.
use Rattle.std.proofs.Common.{◌≡◌, drop}
use Rattle.scope.specs.Choice.{among}
use Rattle.table.specs.Lines.{up_to_no}
use Rattle.rules.proofs.line.listed.Given as goal

abbrev pub invariant-loop-k : goal.invariant-loop-k
invariant-loop-k l = among (up_to_no (drop l.k-index l.fn.numbers)) l.number ≡ among (up_to_no l.fn.numbers) l.number
