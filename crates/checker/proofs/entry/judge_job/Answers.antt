-- `judge_job`: the header is that of the definitions, and so are the items behind it.
-- Assumes nothing.
use lib.Dec.{lit<}
use mathlib.Core.Path.{refl, sym}
use native.Mathlib.Omega.{arith}
use Rattle.scope.proofs.Placed.{header-placed}
use Rattle.checker.proofs.Entering.{header-no, header_is}
use Rattle.checker.proofs.entry.judge_job.Goals as goal

pub returns-in-Err : goal.returns-in-Err
returns-in-Err c = let a = c.args in
    let e = rw (c.in-Err.is, ← c.number.ensures) at c.header_of.ensures.result_value in
    let p = header-placed a.job.now _ _ (sym e) in
    record { lasts = record { work_long = refl; list_long = refl; rest = refl }; result_value = header-no a.gray a.job.now a.list.now c.told.result _ _ e (c.told.ensures (omega (arith, p, c.requires)) (lit< tt)) }

pub returns-in-Ok : goal.returns-in-Ok
returns-in-Ok c = let a = c.args in
    let e = rw c.in-Ok.is at c.header_of.ensures.result_value in
    let n = rw c.in-Ok.is at c.header_of.ensures.header_within in
    record { lasts = c.judge_items.ensures.lasts; result_value = header_is a.gray a.job.now a.list.now _ c.judge_items.result _ _ _ e (c.judge_items.ensures.judged_to c.requires.0 c.requires.1 n) }
