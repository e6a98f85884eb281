-- `one_by_one`: attribute by attribute, as the definition goes.
-- Assumes nothing.
use Rattle.std.proofs.Common.{◌≡◌, ◌-◌, sym, ◌∙◌, arith}
use Rattle.items.specs.Rows.{row_at, rows_from, rows_of, Sized}
use Rattle.setting.specs.Views.{class_as}
use Rattle.rules.proofs.Faults.{one-bad, one-next, one_end}
use Rattle.rules.proofs.judge.one_by_one.Goals as goal

pub loop-i-init : goal.loop-i-init
unfolding rows_of rows_from
loop-i-init c = let e : c.at_most-i-end.result - 0 ≡ c.at_most-i-end.result = omega arith in
    λ rules st long. rw e

pub returns-in-Err : goal.returns-in-Err
unfolding row_at
returns-in-Err c = let a = c.args in
    λ rules st z. let y : Sized a.attrs.now c.loop-i.i = record { long = z.long; few = omega arith } in
    rw (← c.at_most-i-end.ensures.value z.few) (sym (one-bad a.set.high a.s.now rules a.attrs.now c.loop-i.i c.at_most-i-end.result (class_as a.set.class) a.numbers st c.loop-i-test.true c.in-Err.code (c.in-Err.ensures y))
    ∙ c.loop-i.invariant rules st z.long)

pub loop-i-preserved : goal.loop-i-preserved
loop-i-preserved c = let a = c.args in
    λ rules st long. let y : Sized a.attrs.now c.loop-i.i = record { long = long; few = omega arith } in
    sym (one-next a.set.high a.s.now rules a.attrs.now c.loop-i.i c.at_most-i-end.result (class_as a.set.class) a.numbers st c.loop-i-test.true (c.in_default.ensures y))
    ∙ c.loop-i.invariant rules st long

pub returns : goal.returns
returns c = let a = c.args in
    λ rules st z. rw (← c.at_most-i-end.ensures.value z.few) (sym (one_end a.set.high a.s.now rules a.attrs.now c.loop-i.i c.at_most-i-end.result c.loop-i-test.false)
    ∙ c.loop-i.invariant rules st z.long)
