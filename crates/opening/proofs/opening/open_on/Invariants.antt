-- The invariant: it is a run from where it began.
use Prim.Native.Nat.{◌-◌}
use mathlib.Core.Path.{◌≡◌}
use lib.ListN.{length}
use Rattle.setting.specs.Views.{setting_as}
use Rattle.opening.specs.Opening.{Opens}
use Rattle.opening.proofs.opening.open_on.Given as goal

abbrev pub invariant-loop-here : goal.invariant-loop-here
invariant-loop-here l = (length l.attrs ≡ 80) × Opens l.job (setting_as l.set) l.initial.list l.list l.initial.here l.here

abbrev pub decreases-loop-here : goal.decreases-loop-here
decreases-loop-here l = length l.job - l.here.at
