-- `turns`: no motif of the rows before v closes a ring.
use Prim.Native.Nat.{ℕ, ◌<◌}
use mathlib.Core.Path.{◌≡◌}
use mathlib.Core.Bool.{false}
use mathlib.Core.List.{List}
use Rattle.scope.specs.Motif.{Motif}
use Rattle.motif.specs.Held.{InRow}
use Rattle.motif.specs.Tables.{Tables}
use Rattle.calls.specs.Marks.{closes}
use Rattle.calls.proofs.why.turns.Given as goal

abbrev pub invariant-loop-v : goal.invariant-loop-v
invariant-loop-v l =
    (ms : List Motif) (m : Motif) → Tables l.motifs l.n ms → InRow ms l.i m → (k : ℕ) (w : Motif) → k < l.v → InRow ms k w → closes ms w.name m.name ≡ false
