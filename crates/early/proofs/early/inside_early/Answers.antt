-- `early::inside_early` meets its contract: case by case of what the session is at.
-- Assumes nothing.
use Rattle.early.proofs.Places.{drawn-hatched}
use Rattle.setting.specs.Views.{setting_as}
use Rattle.place.proofs.Standing.{rest-phase, is-drawn}
use Rattle.place.proofs.Hatched.{beside-own, selects-beside}
use Rattle.early.proofs.early.inside_early.Goals as goal

pub returns-in-Resting-clause-earlies_in : goal.returns-in-Resting-clause-earlies_in
returns-in-Resting-clause-earlies_in c = let a = c.args in
    rw c.in-Resting.is
    (λ x k h y s w m. c.resting_early.ensures (setting_as a.set) a.patterns.now x k.tables.keeps s (rw (← rest-phase y) at m))

pub returns-in-Reading-clause-selects : goal.returns-in-Reading-clause-selects
returns-in-Reading-clause-selects c =
    λ x k h y. selects-beside (beside-own c.reading_early.ensures.others c.reading_early.ensures.patterns_unchanged) k h.selects

pub returns-in-Drawing-clause-selects : goal.returns-in-Drawing-clause-selects
returns-in-Drawing-clause-selects c =
    rw c.in-Drawing.is (λ x k h y. c.drawing_early.ensures.selects x k.tables h.selects (drawn-hatched h y))

pub returns-in-Drawing-clause-earlies_in : goal.returns-in-Drawing-clause-earlies_in
returns-in-Drawing-clause-earlies_in c =
    rw c.in-Drawing.is (λ x k h y s w m. c.drawing_early.ensures.by_index _ x k.tables h.selects (drawn-hatched h y) s (is-drawn y) m)
