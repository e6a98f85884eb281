-- `check` meets its contract.
-- Assumes nothing.
use lib.ListN.{length}
use lib.Dec.{lit<}
use mathlib.Core.Path.{◌∙◌}
use Rattle.buffer.proofs.Parts.{cleared-alike}
use Rattle.checker.proofs.Entering.{short_work, long_job, lets_in, early, whole}
use Rattle.checker.proofs.entry.check.Goals as goal

pub returns-then-work-lt-WORK_LEAST : goal.returns-then-work-lt-WORK_LEAST
returns-then-work-lt-WORK_LEAST c = let a = c.args in
    let p = early a.gray a.job.now a.work.now a.list.now c.told.result 29 0 (short_work (length a.job.now) (length a.work.now) c.if-work-lt-WORK_LEAST.true) (c.told.ensures (lit< tt) (lit< tt)) in
    p

pub returns-then-job-gt-JOB_MOST : goal.returns-then-job-gt-JOB_MOST
returns-then-job-gt-JOB_MOST c = let a = c.args in
    let p = early a.gray a.job.now a.work.now a.list.now c.told-then-job-gt-JOB_MOST.result 1 61440 (long_job (length a.job.now) (length a.work.now) c.if-work-lt-WORK_LEAST.false c.if-job-gt-JOB_MOST.true) (c.told-then-job-gt-JOB_MOST.ensures (lit< tt) (lit< tt)) in
    p

pub returns : goal.returns
returns c = let a = c.args in
    let p = whole a.gray a.job.now a.work.now a.list.now c.judge_job-verdict.result _ _ (lets_in (length a.job.now) (length a.work.now) c.if-work-lt-WORK_LEAST.false c.if-job-gt-JOB_MOST.false) c.judge_job-verdict.ensures.result_value.0 c.judge_job-verdict.ensures.result_value.1
    (c.zero.ensures ∙ cleared-alike _ a.work.now c.judge_job-verdict.ensures.lasts.work_long c.if-work-lt-WORK_LEAST.false c.judge_job-verdict.ensures.lasts.rest) in
    p
