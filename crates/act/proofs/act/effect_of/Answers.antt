-- `act::act::effect_of` meets its contract: by the tag.
-- Assumes nothing.
use native.Mathlib.Omega.{arith}
use Rattle.scope.specs.Arm.{effect_of}
use Rattle.act.specs.Acts.{space_effect}
use Rattle.act.proofs.act.effect_of.Goals as goal

pub returns-in-97 : goal.returns-in-97
unfolding effect_of
returns-in-97 c z = rw c.in-97.is

pub returns-in-96 : goal.returns-in-96
unfolding effect_of
returns-in-96 c z = rw c.in-96.is

pub returns-in-107 : goal.returns-in-107
unfolding effect_of
returns-in-107 c z = rw c.in-107.is

pub returns-in-133 : goal.returns-in-133
unfolding effect_of
returns-in-133 c z = rw c.in-133.is

pub returns-in-106 : goal.returns-in-106
unfolding effect_of space_effect
returns-in-106 c z = rw c.in-106.is (c.space_effect.ensures z)

pub returns-in-87 : goal.returns-in-87
unfolding effect_of
returns-in-87 c z = rw c.in-87.is

pub returns-in_default : goal.returns-in_default
unfolding effect_of
returns-in_default c z = grind arith
