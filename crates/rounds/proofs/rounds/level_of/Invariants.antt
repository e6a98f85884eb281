-- `level_of`: up to this round the motif has no level; the first that it gets stays.
use Rattle.std.proofs.Common.{◌-◌, ◌≡◌, false, List}
use Rattle.scope.specs.Motif.{Motif}
use Rattle.motif.specs.Held.{Keeps, InRow, level_in}
use Rattle.motif.specs.Tables.{calls_row, Noted, level_of}
use Rattle.rounds.specs.Rounds.{LevelsBut}
use Rattle.rounds.proofs.rounds.level_of.Given as goal

abbrev pub invariant-loop-t : goal.invariant-loop-t
invariant-loop-t l =
    (ms : List Motif) (m : Motif) → Keeps l.motifs l.held ms → Noted l.motifs l.held ms → InRow ms l.i m → level_in l.motifs l.i ≡ 0 → LevelsBut l.motifs ms l.i
    → calls_row ms m.ops l.i ≡ false → level_of ms (l.t - 1) m.name ≡ 0
