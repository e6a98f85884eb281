-- `place_of` meets its contract: what lies between lo and hi is halved in each turn, and the search from there is the whole search.
use Prim.Native.Nat.{◌-◌, ◌≤◌}
use Rattle.key.specs.Views.{key_as}
use Rattle.motif.specs.Held.{key_in, order_in}
use Rattle.motif.proofs.Halves.{Going}
use Rattle.motif.proofs.column.place_of.Given as goal

abbrev pub invariant-loop-lo : goal.invariant-loop-lo
invariant-loop-lo l = (l.lo ≤ l.hi) × (l.hi ≤ l.n) × (l.n ≤ 64) × Going (key_in l.motifs) (order_in l.motifs) (key_as l.key) l.n l.lo l.hi

abbrev pub decreases-loop-lo : goal.decreases-loop-lo
decreases-loop-lo l = l.hi - l.lo
