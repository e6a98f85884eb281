-- The invariant: the definition stands somewhere that the code follows, judging from there is judging from the start, and what was selected since is noted.
use Prim.Native.Nat.{◌-◌, ◌≤◌}
use mathlib.Core.Path.{◌≡◌}
use mathlib.Core.List.{List}
use lib.ListN.{length}
use Rattle.setting.specs.Views.{setting_as}
use Rattle.scope.specs.Motif.{Motif, judged_inside}
use Rattle.motif.specs.Held.{Keeps}
use Rattle.stream.proofs.Walking.{starting, Stands}
use Rattle.stream.proofs.judging.operators.Given as goal

abbrev pub invariant-loop-on : goal.invariant-loop-on
invariant-loop-on l = (length l.attrs ≡ length l.initial.attrs) × (l.inside.at ≤ length l.s) × (l.inside.saved ≤ l.inside.at) × (length l.own ≡ length l.initial.own)
    × ((ms : List Motif) → length l.initial.attrs ≡ 80 → Keeps l.motifs l.held ms
    → Stands l.motifs ms (setting_as l.set) l.s (judged_inside (setting_as l.set) l.s (starting l.next)) l.initial.own l.own l.inside)

abbrev pub decreases-loop-on : goal.decreases-loop-on
decreases-loop-on l = length l.s - l.inside.at
