-- `note_all`: row after row.
use mathlib.Core.Path.{◌≡◌}
use mathlib.Core.List.{List}
use lib.ListN.{length}
use Rattle.setting.specs.Views.{setting_as}
use Rattle.scope.specs.Motif.{Motif}
use Rattle.motif.specs.Held.{Keeps}
use Rattle.settling.specs.Making.{InStore, NotedTo}
use Rattle.settling.proofs.settling.note_all.Given as goal

abbrev pub invariant-loop-i : goal.invariant-loop-i
invariant-loop-i l = (length l.motifs ≡ length l.initial.motifs)
    × ((ms : List Motif) → InStore (setting_as l.set) l.work ms → Keeps l.initial.motifs l.held ms → NotedTo l.motifs l.held ms l.i)
