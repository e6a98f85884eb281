-- Each glyph takes at least one byte off the rest.
-- Assumes nothing.
use Rattle.std.proofs.Common.{length}
use Rattle.text.proofs.named.name.Given as goal

abbrev pub decreases-loop-rest : goal.decreases-loop-rest
decreases-loop-rest g l = length l.rest
