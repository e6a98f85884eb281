-- `judge_items`: where nothing is read nothing was promised; else it is `items_from`.
-- Assumes nothing.
use mathlib.Core.Path.{refl}
use native.Mathlib.Omega.{arith}
use Rattle.stepping.proofs.stepping.judge_items.Goals as goal

pub returns-then-job-gt-JOB_MOST : goal.returns-then-job-gt-JOB_MOST
returns-then-job-gt-JOB_MOST c = record { lasts = record { work_long = refl; list_long = refl; rest = refl }; judged_to = λ a b d. absurd (omega (arith, a, c.if-job-gt-JOB_MOST.true)) }

pub returns-then-work-lt-WORK_LEAST : goal.returns-then-work-lt-WORK_LEAST
returns-then-work-lt-WORK_LEAST c = record { lasts = record { work_long = refl; list_long = refl; rest = refl }; judged_to = λ a b d. absurd (omega (arith, b, c.if-work-lt-WORK_LEAST.true)) }

pub returns-then-job-next : goal.returns-then-job-next
returns-then-job-next c = record { lasts = record { work_long = refl; list_long = refl; rest = refl }; judged_to = λ a b d. absurd (omega (arith, d, c.if-job-next.true)) }
