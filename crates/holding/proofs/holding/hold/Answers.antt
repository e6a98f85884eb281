-- `holding::holding::hold` meets its contract: there is room, so the motif takes the place of the one that its name holds, or becomes held as the last one.
-- Assumes nothing.
use mathlib.Core.Path.{sym, ◌∙◌}
use Rattle.scope.proofs.Apart.{clash-of}
use Rattle.setting.specs.Views.{setting_as}
use Rattle.adding.specs.Comes.{Comes}
use Rattle.adding.proofs.NewName.{kept_new, row-left}
use Rattle.holding.proofs.Swapped.{kept-swapped}
use Rattle.holding.proofs.Exchanged.{found_at, found_none}
use Rattle.holding.proofs.holding.hold.Goals as goal

pub returns-then-not-fits-clause-stored : goal.returns-then-not-fits-clause-stored
returns-then-not-fits-clause-stored c = λ ms ops bytes s h k j b n g v q. clash-of (sym (c.fits.ensures.value h k) ∙ c.if-not-fits.true)

pub returns-in-Some-clause-stored : goal.returns-in-Some-clause-stored
returns-in-Some-clause-stored c = λ ms ops bytes s h k j b n g v q.
    let a = c.args in
    let w = found_at (c.in-Some.ensures.finds ms s.tables.keeps) in
    let y : Comes (setting_as a.set) a.work.now a.motifs.now a.kept a.joined a.name.now ms bytes ops = record { stored = s; long = j; behind = b; named = n; valid = v } in
    rw (kept-swapped a.name.now bytes ops ms w.1) (c.replaced.ensures.by_index a.name.now ms bytes ops w.0 y w.1 w.2)

pub returns-in-None-clause-stored : goal.returns-in-None-clause-stored
returns-in-None-clause-stored c = λ ms ops bytes s h k j b n g v q.
    let a = c.args in
    let w = found_none (c.in-None.ensures.finds ms s.tables.keeps) in
    let y : Comes (setting_as a.set) a.work.now a.motifs.now a.kept a.joined a.name.now ms bytes ops = record { stored = s; long = j; behind = b; named = n; valid = v } in
    rw (kept_new a.name.now bytes ops ms w) (c.added.ensures.stored ms bytes ops y w (row-left a.name.now ms w g) q)
