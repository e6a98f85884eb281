-- Two tests that are both needed.
-- Assumes nothing.
use Rattle.std.proofs.Common.{◌≡◌, refl, sym, Bool, true, false}
use mathlib.Core.Bool.{true≢false}
use Rattle.scope.specs.Choice.{pick}

pub both_left : (a b : Bool) → pick a b false ≡ true → a ≡ true
both_left true b e = refl
both_left false b e = e

pub both_right : (a b : Bool) → pick a b false ≡ true → b ≡ true
both_right true b e = e
both_right false b e = absurd (true≢false (sym e))
