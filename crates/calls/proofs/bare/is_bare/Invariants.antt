-- `is_bare`: after t rounds the table shows whose call comes to a pattern that is not defined within t levels.
use mathlib.Core.List.{List}
use Rattle.scope.specs.Motif.{Motif}
use Rattle.scope.specs.Reach.{called_by}
use Rattle.motif.specs.Tables.{Tables}
use Rattle.pattern_rows.specs.Numbers.{Few}
use Rattle.patterns.specs.Selects.{Selects}
use Rattle.calls.specs.Marks.{Shows, unmet}
use Rattle.calls.proofs.Baring.{bad_in}
use Rattle.calls.proofs.bare.is_bare.Given as goal

abbrev pub invariant-loop-t : goal.invariant-loop-t
invariant-loop-t l = (ms : List Motif) → Tables l.motifs l.n ms → Selects l.patterns ms → Few l.patterns → Shows ms l.n (unmet (bad_in l.patterns ms) (called_by ms) l._t) l.table
