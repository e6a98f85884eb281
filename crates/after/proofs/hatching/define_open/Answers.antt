-- `hatching::define_open` meets its contract: nothing is defined but by EndRastPattern, where a pattern is open.
-- Assumes nothing.
use Rattle.due.specs.Views.{image_as}
use Rattle.after.proofs.Defining.{defines-other, defines-none, defines-image}
use Rattle.after.proofs.hatching.define_open.Goals as goal

pub returns-then-tag-ne-END_RAST_PATTERN : goal.returns-then-tag-ne-END_RAST_PATTERN
returns-then-tag-ne-END_RAST_PATTERN c = defines-other c.args.tag c.if-tag-ne-END_RAST_PATTERN.true

pub returns-in-Nothing : goal.returns-in-Nothing
returns-in-Nothing c = rw c.in-Nothing.is (defines-none c.args.tag)

pub returns-in-Being : goal.returns-in-Being
returns-in-Being c = rw c.in-Being.is (defines-image c.args.tag)

pub returns-in-Hatching : goal.returns-in-Hatching
returns-in-Hatching c = rw (c.in-Hatching.is, c.if-tag-ne-END_RAST_PATTERN.false, ← c.unpacked.ensures) (c.define_hatch.ensures (image_as c.in-Hatching.field-0))
