-- `loses`: after t rounds the table shows who loses a name within t calls.
use mathlib.Core.List.{List}
use Rattle.scope.specs.Motif.{Motif}
use Rattle.scope.specs.Reach.{lost, holds, called_by}
use Rattle.motif.specs.Tables.{Tables}
use Rattle.calls.specs.Marks.{Shows}
use Rattle.calls.proofs.why.loses.Given as goal

abbrev pub invariant-loop-t : goal.invariant-loop-t
invariant-loop-t l = (ms : List Motif) → Tables l.motifs l.n ms → Shows ms l.n (lost (holds ms) (called_by ms) l._t) l.table
