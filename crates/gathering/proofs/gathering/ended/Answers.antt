-- `gathering::ended` meets its contract: only a valid motif comes, and it is held, with what it selects.
-- Assumes nothing.
use Rattle.setting.specs.Views.{setting_as}
use Rattle.gathering.proofs.Ending.{other-after, hold_after}
use Rattle.gathering.proofs.gathering.ended.Goals as goal

pub returns-in_default-clause-by_index : goal.returns-in_default-clause-by_index
returns-in_default-clause-by_index c = let a = c.args in
    λ job attrs o page first count e nr. other-after job attrs (setting_as a.set) o a.work.now a.motifs.now a.patterns.now nr c.in_default.not-Held

pub returns-clause-by_index : goal.returns-clause-by_index
returns-clause-by_index c = let a = c.args in
    let k = c.hold-after in
    λ job attrs o page first count e nr. rw c.in-Held.is
    (hold_after job attrs (setting_as a.set) o a.work.now a.motifs.now a.patterns.now nr
    c.in-Held.made a.name.now k.new.work k.new.motifs c.keep_own.new.patterns a.joined a.kept k.result k.ensures.stored c.keep_own.ensures.own_kept e)
