-- As many PopGS as PushGS, and no PopGS below the start.
-- Assumes nothing.
use Rattle.std.specs.Prelude.{ℕ, zero, suc, ◌≡◌, List, [], ◌∷◌}
use Rattle.scope.specs.Arm.{Effect, push, pop, put, Stroke}
use Rattle.scope.specs.Motif.{Own, does, calls}

-- with d saved, the effect takes off nothing that is not there
abbrev pub may_do : Effect → ℕ → Type 0
may_do push d = Unit
may_do pop zero = ⊥
may_do pop (suc d) = Unit
may_do (put c g) d = Unit

-- with d saved before, so many are saved after the effect
abbrev pub depth_after : Effect → ℕ → ℕ
depth_after push d = suc d
depth_after pop zero = zero
depth_after pop (suc d) = d
depth_after (put c g) d = d

-- with d saved before the row, it takes off nothing that is not there, and e are saved after it
unfoldable pub Level : ℕ → List Stroke → ℕ → Type 0
Level d [] e = d ≡ e
Level d (x ∷ l) e = may_do x.act.effect d × Level (depth_after x.act.effect d) l e

-- as many PopGS as PushGS, and no PopGS below the start
unfoldable pub Balanced : List Stroke → Type 0
Balanced l = Level 0 l 0

-- the same of a motif's own operators, where a call leaves what is saved
unfoldable pub OwnLevel : ℕ → List Own → ℕ → Type 0
OwnLevel d [] e = d ≡ e
OwnLevel d (does o a ∷ os) e = may_do a.effect d × OwnLevel (depth_after a.effect d) os e
OwnLevel d (calls o n ∷ os) e = OwnLevel d os e
