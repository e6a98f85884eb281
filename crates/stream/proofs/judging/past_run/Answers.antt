-- `past_run`: the definition comes to the end of the run, operator by operator, where the code comes to at once.
-- Assumes nothing.
use mathlib.Core.Path.{refl}
use Rattle.setting.specs.Views.{setting_as}
use Rattle.stream.proofs.Strips.{run-comes}
use Rattle.stream.proofs.judging.past_run.Goals as goal

pub returns-clause-by_index : goal.returns-clause-by_index
returns-clause-by_index c = let a = c.args in
    λ t ms w f. run-comes t ms (setting_as a.set) a.s.now w a.inside _ c.run_from-run.result f (rw c.in-Nothing.is refl) c.run_from-run.ensures.strip
    refl refl refl refl refl c.keep.ensures
