-- `read_on` meets its contract: case by case.
-- Assumes nothing.
use mathlib.Core.Path.{refl}
use Rattle.scope.specs.Motif.{read_on}
use Rattle.order.proofs.picture.read_on.Goals as goal

pub returns-in-Nothing : goal.returns-in-Nothing
unfolding read_on
returns-in-Nothing c = rw c.in-Nothing.is (λ h. refl)

pub returns-in-Being : goal.returns-in-Being
unfolding read_on
returns-in-Being c = rw c.in-Being.is (λ h. rw (c.with_rows.ensures h))

pub returns-in-Hatching : goal.returns-in-Hatching
unfolding read_on
returns-in-Hatching c = rw c.in-Hatching.is (λ h. rw (c.with_rows-in-Hatching.ensures h))
