-- `unpacked`: part by part.
-- Assumes nothing.
use mathlib.Core.Path.{refl}
use Rattle.order.specs.Pictures.{hatch_in}
use Rattle.order.proofs.picture.unpacked.Goals as goal

pub returns : goal.returns
unfolding hatch_in
returns c = refl
