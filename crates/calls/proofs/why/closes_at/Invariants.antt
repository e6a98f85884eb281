-- `closes_at`: after t rounds the table shows who reaches the motif of row v by t calls; the first turns that reached it are kept.
use Prim.Native.Nat.{suc, ◌≤◌}
use mathlib.Core.Path.{◌≡◌}
use mathlib.Core.List.{List}
use Rattle.scope.specs.Motif.{Motif}
use Rattle.scope.specs.Reach.{steps, called_by}
use Rattle.motif.specs.Held.{InRow}
use Rattle.motif.specs.Tables.{Tables}
use Rattle.calls.specs.Marks.{Shows, least}
use Rattle.calls.proofs.why.closes_at.Given as goal

abbrev pub invariant-loop-t : goal.invariant-loop-t
invariant-loop-t l = (l.there ≤ l.t)
    × (l.round ≤ l.t)
    × ((ms : List Motif) (m w : Motif) → Tables l.motifs l.n ms → InRow ms l.i m → InRow ms l.v w
    → Shows ms l.n (steps (called_by ms) l.t w.name) l.table
    × (l.there ≡ least (λ d. steps (called_by ms) d w.name m.name) l.t)
    × (l.round ≡ least (λ d. steps (called_by ms) (suc d) w.name w.name) l.t))
