-- The invariant: from where the code stood first, the definition comes to somewhere that the code stands too, and judging from there is judging from the first.
use Prim.Native.Nat.{ℕ, ◌-◌, ◌*◌, ◌≤◌}
use mathlib.Core.Path.{◌≡◌}
use mathlib.Core.List.{List}
use lib.ListN.{length, drop}
use Rattle.setting.specs.Views.{setting_as}
use Rattle.scope.specs.Judge as scope
use Rattle.scope.specs.Judge.{judged_from}
use Rattle.scope.specs.Verdict.{every, zeros}
use Rattle.state.specs.Standing.{Stands}
use Rattle.advancing.proofs.advancing.with_tables.Given as goal

abbrev pub invariant-loop-on : goal.invariant-loop-on
invariant-loop-on l = (length l.work ≡ length l.initial.work) × (length l.list ≡ length l.initial.list) × (length l.attrs ≡ 80) × (l.st.at ≤ length l.job) × (l.st.records ≤ l.st.at * 17)
    × (drop 16384 l.work ≡ drop 16384 l.initial.work)
    × ((d : scope.State) (first : List ℕ) → length first ≡ length l.initial.list
    → Stands (setting_as l.set) l.job first (record { table = zeros 704; patterns = zeros 4487; work = l.initial.work; list = l.initial.list }) l.initial.st d
    → (e : scope.State) × (Stands (setting_as l.set) l.job first (record { table = l.motifs; patterns = l.patterns; work = l.work; list = l.list }) l.st e
    × (judged_from every (setting_as l.set) l.job (length first) e ≡ judged_from every (setting_as l.set) l.job (length first) d)))

abbrev pub decreases-loop-on : goal.decreases-loop-on
decreases-loop-on l = length l.job - l.st.at
