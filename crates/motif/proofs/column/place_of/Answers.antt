-- `place_of` meets its contract: what lies between lo and hi is halved in each turn, and the search from there is the whole search.
-- Assumes nothing.
use mathlib.Core.Path.{sym, ◌∙◌}
use native.Mathlib.Omega.{arith}
use Rattle.key.specs.Views.{key_as}
use Rattle.motif.specs.Sorted.{middle}
use Rattle.motif.specs.Held.{key_in, order_in}
use Rattle.motif.specs.Search.{place_of}
use Rattle.motif.proofs.Halves.{going_start, going-up, going-down, going-over}
use Rattle.motif.proofs.column.place_of.Goals as goal

pub loop-lo-init : goal.loop-lo-init
loop-lo-init c = let a = c.args in (omega arith, omega arith, c.requires, going_start (key_in a.motifs.now) (order_in a.motifs.now) (key_as a.key) a.n c.requires)

pub loop-lo-preserved-then-is_before : goal.loop-lo-preserved-then-is_before
unfolding middle
loop-lo-preserved-then-is_before c = let a = c.args in (
  omega arith,
  c.loop-lo.invariant.1,
  c.loop-lo.invariant.2,
  going-up (key_in a.motifs.now) (order_in a.motifs.now) (key_as a.key) a.n c.loop-lo.lo c.loop-lo.hi (omega arith) (sym c.is_before.ensures ∙ c.if-is_before.true)
      c.loop-lo.invariant.3,
)

pub loop-lo-preserved : goal.loop-lo-preserved
unfolding middle
loop-lo-preserved c = let a = c.args in (
  omega arith,
  omega arith,
  c.loop-lo.invariant.2,
  going-down (key_in a.motifs.now) (order_in a.motifs.now) (key_as a.key) a.n c.loop-lo.lo c.loop-lo.hi (omega arith) (sym c.is_before.ensures ∙ c.if-is_before.false)
      c.loop-lo.invariant.3,
)

pub returns : goal.returns
unfolding place_of
returns c = let a = c.args in
    record { upper_bound = omega arith; value = going-over (key_in a.motifs.now) (order_in a.motifs.now) (key_as a.key) a.n c.loop-lo.lo c.loop-lo.hi (omega arith) c.loop-lo.invariant.3 }
