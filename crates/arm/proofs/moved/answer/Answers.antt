-- `answer` meets its contract.
-- Assumes nothing.
use Rattle.std.proofs.lemmas.Result.{err_from_is_err_and}
use Rattle.arm.proofs.Keeping.{answer-to}
use Rattle.arm.specs.Holds.{moves_no}
use Rattle.scope.specs.Arm.{from, walk}
use mathlib.Core.Path.{sym}
use Rattle.arm.proofs.moved.answer.Goals as goal

pub returns-in_err-obeys : goal.returns-in_err-obeys
returns-in_err-obeys c q n row l h =
    let p = err_from_is_err_and c.from_residual.result c.from_residual.ensures.1 in
    rw (p.1, p.2) (moves_no (c.in_err-obeys.ensures (walk row (from q n)) h))

pub returns : goal.returns
returns c q n row l h = let a = c.args in answer-to a.opened a.bare a.seen q n row l h (sym (c.in_ok-obeys.ensures (walk row (from q n)) h))
