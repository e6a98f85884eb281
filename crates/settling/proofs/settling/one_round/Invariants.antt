-- `one_round`: the motifs before i have had their turn.
use Prim.Native.Nat.{ℕ, suc, ◌<◌}
use mathlib.Core.Path.{◌≡◌}
use mathlib.Core.List.{List}
use lib.ListN.{length}
use Rattle.setting.specs.Views.{setting_as}
use Rattle.scope.specs.Motif.{Motif}
use Rattle.settling.specs.Making.{InStore, Rounded, Turned}
use Rattle.settling.proofs.settling.one_round.Given as goal

abbrev pub invariant-loop-i : goal.invariant-loop-i
invariant-loop-i l = (length l.motifs ≡ length l.initial.motifs)
    × ((ms : List Motif) (d : ℕ) → l.t ≡ suc d → d < 32 → InStore (setting_as l.set) l.work ms → Rounded l.initial.motifs l.held ms d → Turned l.motifs l.held ms d l.i)
