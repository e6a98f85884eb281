-- `ended` meets its contract.
-- Assumes nothing.
use Rattle.std.proofs.Common.{sym, ◌∙◌}
use Rattle.within.proofs.Turning.{ended-open, ended-closed}
use Rattle.within.proofs.inside.ended.Goals as goal

pub returns-in_default : goal.returns-in_default
returns-in_default c = let a = c.args in
    λ t ms w s e f. ended-open t ms s w a.len e a.inside.picture c.in_default.not-Nothing f.picture

pub returns : goal.returns
returns c = let a = c.args in
    λ t ms w s e f. ended-closed t ms s w a.len e _ (sym f.picture ∙ rw c.in-Nothing.is) (c.balanced.ensures t ms w f)
