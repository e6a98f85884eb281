-- The invariant: what is wrong, the attributes from here on say.
use Rattle.std.proofs.Common.{◌≡◌, ◌-◌, List, [], length}
use Rattle.scope.specs.Table.{Rule}
use Rattle.scope.specs.Attributes.{one_by_one}
use Rattle.items.specs.Rows.{rows_from, rows_of}
use Rattle.setting.specs.Views.{class_as}
use Rattle.rules.specs.Judging.{Stands}
use Rattle.rules.proofs.judge.one_by_one.Given as goal

abbrev pub invariant-loop-i : goal.invariant-loop-i
invariant-loop-i l = (rules : List Rule) → Stands (class_as l.set.class) l.numbers rules → length l.attrs ≡ 80
    → one_by_one l.set.high l.s rules (rows_of l.attrs l.i) (rows_from l.attrs l.i (l.i-end - l.i)) ≡ one_by_one l.set.high l.s rules [] (rows_of l.attrs l.i-end)
