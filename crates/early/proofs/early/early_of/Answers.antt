-- `early::early_of` meets its contract: between sessions nothing is judged.
-- Assumes nothing.
use Rattle.setting.specs.Views.{setting_as}
use Rattle.place.proofs.Hatched.{place_kept}
use Rattle.early.proofs.Around.{outer-fine, inner-early}
use Rattle.early.proofs.early.early_of.Goals as goal

pub returns-in-Outside-clause-earlies : goal.returns-in-Outside-clause-earlies
returns-in-Outside-clause-earlies c = let a = c.args in
    rw c.in-Outside.is (λ q st h s w m. outer-fine (setting_as a.set) a.attrs.now q a.o st h m)

pub returns-in-Inside-clause-place_holds : goal.returns-in-Inside-clause-place_holds
returns-in-Inside-clause-place_holds c =
    rw c.in-Inside.is (λ q h. place_kept c.inside_early.ensures.other_rows c.inside_early.ensures.selects h)

pub returns-in-Inside-clause-earlies : goal.returns-in-Inside-clause-earlies
returns-in-Inside-clause-earlies c = let a = c.args in
    rw c.in-Inside.is (λ q st h s w m. inner-early (setting_as a.set) q a.o st c.inside_early.result c.inside_early.ensures.earlies_in h s w m)
