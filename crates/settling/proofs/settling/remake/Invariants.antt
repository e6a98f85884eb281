-- `remake`: after t - 1 rounds.
use Prim.Native.Nat.{◌-◌}
use mathlib.Core.Path.{◌≡◌}
use mathlib.Core.List.{List}
use lib.ListN.{length}
use Rattle.setting.specs.Views.{setting_as}
use Rattle.scope.specs.Motif.{Motif}
use Rattle.settling.specs.Making.{InStore, Rounded}
use Rattle.settling.proofs.settling.remake.Given as goal

abbrev pub invariant-loop-t : goal.invariant-loop-t
invariant-loop-t l = (length l.motifs ≡ length l.initial.motifs)
    × ((ms : List Motif) → InStore (setting_as l.set) l.work ms → Rounded l.initial.motifs l.n ms 0 → Rounded l.motifs l.n ms (l.t - 1))
