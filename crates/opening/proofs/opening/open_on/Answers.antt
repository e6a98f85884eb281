-- The invariant: it is a run from where it began.
-- Assumes nothing.
use mathlib.Core.Path.{refl, ◌∙◌}
use native.Mathlib.Omega.{arith}
use Rattle.opening.proofs.Opens.{opens-none, opens-then}
use Rattle.opening.proofs.opening.open_on.Goals as goal

pub loop-here-init : goal.loop-here-init
loop-here-init c = (refl, opens-none)

pub shape_of-list-then-next-here : goal.shape_of-list-then-next-here
shape_of-list-then-next-here c = let i = c.loop-here.invariant in
    (c.open_one-next.ensures.opens i.0).long ∙ i.1.long

pub returns-then-next-here : goal.returns-then-next-here
returns-then-next-here c = let i = c.loop-here.invariant in
    opens-then i.1 (c.open_one-next.ensures.opens i.0)

pub loop-here-smaller : goal.loop-here-smaller
loop-here-smaller c = let w = (c.open_one-next.ensures.opens c.loop-here.invariant.0).within in
    omega (arith, w)

pub loop-here-preserved : goal.loop-here-preserved
loop-here-preserved c = let i = c.loop-here.invariant in
    (c.open_one-next.ensures.attrs_len_unchanged ∙ i.0, opens-then i.1 (c.open_one-next.ensures.opens i.0))
