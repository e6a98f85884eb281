-- One operator more: whom the operators call, and whether they name a motif that is not held. A call adds its name at the end; any other operator adds none.
-- Assumes nothing.
use Prim.Native.Nat.{ℕ, suc, ◌-◌, ◌<◌}
use mathlib.Core.Path.{◌≡◌, refl, ap, ◌∙◌}
use mathlib.Core.Bool.{Bool, true, false, not}
use mathlib.Core.List.{List, [], ◌∷◌, ◌++◌, append-nil}
use native.Mathlib.Omega.{arith}
use lib.Dec.{eqb}
use borrow.Author.Tests.{ne_eqb}
use Rattle.scope.specs.Choice.{pick}
use Rattle.scope.specs.Reading.{Operator}
use Rattle.scope.specs.Arm.{Act}
use Rattle.scope.specs.Motif.{Own, does, calls, Motif, Held, held_as, is_held}
use Rattle.scope.specs.Reach.{Name, any, names_in, holds}
use Rattle.motif.specs.Held.{InRow}
use Rattle.motif.specs.Tables.{row_of, calls_row, lacks_one}

-- one of some names, or of a name more
any-more : (f : Name → Bool) (ns : List Name) (n : Name) → any f (ns ++ (n ∷ [])) ≡ pick (f n) true (any f ns)
unfolding any
any-more f [] n = refl
any-more f (x ∷ ns) n = by (f x) (f n) (any-more f ns n)
  where
    by : (a b : Bool) → any f (ns ++ (n ∷ [])) ≡ pick b true (any f ns) → pick a true (any f (ns ++ (n ∷ []))) ≡ pick b true (pick a true (any f ns))
    by true true e = refl
    by true false e = refl
    by false b e = e

-- the names of operators, one after the other
names_append : (os qs : List Own) → names_in (os ++ qs) ≡ names_in os ++ names_in qs
unfolding names_in
names_append [] qs = refl
names_append (does o a ∷ os) qs = names_append os qs
names_append (calls o n ∷ os) qs = ap (λ (l : List Name). n ∷ l) (names_append os qs)

names_call : (os : List Own) (o : Operator) (n : Name) → names_in (os ++ (calls o n ∷ [])) ≡ names_in os ++ (n ∷ [])
unfolding names_in
names_call os o n = names_append os (calls o n ∷ [])

names_deed : (os : List Own) (o : Operator) (a : Act) → names_in (os ++ (does o a ∷ [])) ≡ names_in os
unfolding names_in
names_deed os o a = names_append os (does o a ∷ []) ∙ append-nil (names_in os)

-- an operator that is no call changes neither
module _ (ms : List Motif) (os : List Own) (o : Operator) (a : Act) where
  pub deed-row : (j : ℕ) → calls_row ms (os ++ (does o a ∷ [])) j ≡ calls_row ms os j
  unfolding calls_row
  deed-row j = ap (any (λ x. eqb (row_of ms x) j)) (names_deed os o a)

  pub deed-lacks : lacks_one ms (os ++ (does o a ∷ [])) ≡ lacks_one ms os
  unfolding lacks_one
  deed-lacks = ap (any (λ x. not (holds ms x))) (names_deed os o a)

module _ (ms : List Motif) (os : List Own) (o : Operator) (n : Name) where
  call-row : (j : ℕ) → calls_row ms (os ++ (calls o n ∷ [])) j ≡ pick (eqb (row_of ms n) j) true (calls_row ms os j)
  unfolding calls_row
  call-row j = ap (any (λ x. eqb (row_of ms x) j)) (names_call os o n) ∙ any-more (λ x. eqb (row_of ms x) j) (names_in os) n

  call-lacks : lacks_one ms (os ++ (calls o n ∷ [])) ≡ pick (not (holds ms n)) true (lacks_one ms os)
  unfolding lacks_one
  call-lacks = ap (any (λ x. not (holds ms x))) (names_call os o n) ∙ any-more (λ x. not (holds ms x)) (names_in os) n

  -- a call of a held name calls its row
  pub held-row : (i : ℕ) (m : Motif) → held_as n ms ≡ Held.is m → InRow ms i m → (j : ℕ) → calls_row ms (os ++ (calls o n ∷ [])) j ≡ pick (eqb i j) true (calls_row ms os j)
  unfolding row_of
  held-row i m h r j = let e : suc i - 1 ≡ i = omega arith in call-row j ∙ rw (h, r.row, e)

  pub held-lacks : (m : Motif) → held_as n ms ≡ Held.is m → lacks_one ms (os ++ (calls o n ∷ [])) ≡ lacks_one ms os
  unfolding is_held
  held-lacks m h = call-lacks ∙ rw h

  -- a call of any other calls no row, and lacks one
  pub none_row : held_as n ms ≡ Held.none → (j : ℕ) → j < 64 → calls_row ms (os ++ (calls o n ∷ [])) j ≡ calls_row ms os j
  unfolding row_of
  none_row h j l = call-row j ∙ rw (h, ne_eqb 64 j (λ e. omega arith))

  pub none-lacks : held_as n ms ≡ Held.none → lacks_one ms (os ++ (calls o n ∷ [])) ≡ true
  unfolding is_held
  none-lacks h = call-lacks ∙ rw h
