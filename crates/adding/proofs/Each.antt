-- Something that holds of each of some names; and what a row, a test of all or a test of one makes of it.
-- Assumes nothing.
use Prim.Native.Nat.{ℕ}
use mathlib.Core.Path.{◌≡◌, refl, ap}
use mathlib.Core.Bool.{Bool, true, false}
use mathlib.Core.List.{List, [], ◌∷◌, ◌++◌}
use Rattle.scope.specs.Choice.{pick}
use Rattle.scope.specs.Arm.{idle, Stroke}
use Rattle.scope.specs.Motif.{Own, does, calls}
use Rattle.scope.specs.Calls.{flat}
use Rattle.scope.specs.Reach.{Name, all, any, names_in}
use Rattle.scope.proofs.Apart.{clash-of}
use Rattle.scope.proofs.Graph.{pick_true}

unfoldable pub Each : (Name → Type 0) → List Name → Type 0
Each P [] = Unit {0}
Each P (x ∷ xs) = P x × Each P xs

pub each_map : (P Q : Name → Type 0) → ((x : Name) → P x → Q x) → (l : List Name) → Each P l → Each Q l
unfolding Each
each_map P Q h [] e = tt
each_map P Q h (x ∷ xs) e = (h x e.0, each_map P Q h xs e.1)

pub each_both : (P Q : Name → Type 0) (l : List Name) → Each P l → Each Q l → Each (λ x. P x × Q x) l
unfolding Each
each_both P Q [] e f = tt
each_both P Q (x ∷ xs) e f = ((e.0, f.0), each_both P Q xs e.1 f.1)

pub all-each : (q : Name → Bool) (l : List Name) → all q l ≡ true → Each (λ x. q x ≡ true) l
unfolding Each all
all-each q [] e = tt
all-each q (x ∷ xs) e = let p = pick_true (q x) (all q xs) e in (p.0, all-each q xs p.1)

none_any : (a b : Bool) → pick a true b ≡ false → (a ≡ false) × (b ≡ false)
none_any true b e = clash-of e
none_any false b e = (refl, e)

pub any_none : (q : Name → Bool) (l : List Name) → any q l ≡ false → Each (λ x. q x ≡ false) l
unfolding Each any
any_none q [] e = tt
any_none q (x ∷ xs) e = let p = none_any (q x) (any q xs) e in (p.0, any_none q xs p.1)

pub none_each : (q : Name → Bool) (l : List Name) → Each (λ x. q x ≡ false) l → any q l ≡ false
unfolding Each any
none_each q [] e = refl
none_each q (x ∷ xs) e = rw e.0 (none_each q xs e.1)

-- what agrees on each of the names gives the same of all, of one, and in a row of operators that call them
pub all_same : (f g : Name → Bool) (l : List Name) → Each (λ x. f x ≡ g x) l → all f l ≡ all g l
unfolding Each all
all_same f g [] e = refl
all_same f g (x ∷ xs) e = λ i. pick (e.0 i) (all_same f g xs e.1 i) false

pub any_same : (f g : Name → Bool) (l : List Name) → Each (λ x. f x ≡ g x) l → any f l ≡ any g l
unfolding Each any
any_same f g [] e = refl
any_same f g (x ∷ xs) e = λ i. pick (e.0 i) true (any_same f g xs e.1 i)

pub flat-same : (f g : Name → List Stroke) (k : ℕ) (os : List Own) → Each (λ x. f x ≡ g x) (names_in os) → flat f k os ≡ flat g k os
unfolding Each flat names_in
flat-same f g k [] e = refl
flat-same f g k (does o a ∷ os) e = ap (λ l. record { motif = k; op = o; act = a } ∷ l) (flat-same f g k os e)
flat-same f g k (calls o n ∷ os) e = λ i. record { motif = k; op = o; act = idle } ∷ (e.0 i ++ flat-same f g k os e.1 i)
