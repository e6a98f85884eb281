-- Balanced rows, one after the other, and as a motif's own operators give them.
use Prim.Native.Nat.{ℕ, zero, suc, ◌+◌, ◌-◌, ◌<◌}
use native.Mathlib.Omega.{arith}
use native.Mathlib.Nat.{suc-add, zero-add}
use mathlib.Core.Path.{◌≡◌, refl, sym, ap}
use mathlib.Core.Bool.{Bool, true, false}
use mathlib.Core.List.{List, [], ◌∷◌, ◌++◌}
use lib.Dec.{eqb}
use borrow.Author.Tests.{eqb-true, leb-true}
use Rattle.scope.specs.Setting.{Setting}
use Rattle.scope.specs.Choice.{pick, among}
use Rattle.scope.specs.Item.{Attribute}
use Rattle.scope.specs.Attributes.{value_in}
use Rattle.scope.specs.Arm.{Effect, push, pop, put, kept, to, effect_of, Act, idle, Stroke}
use Rattle.scope.specs.Order.{drawn}
use Rattle.scope.specs.Reading.{Operator}
use Rattle.scope.specs.Motif.{Own, does, calls, saved_after}
use Rattle.scope.specs.Calls.{flat}
use Rattle.summary.specs.Balance.{may_do, depth_after, Level, Balanced, OwnLevel}

may-above : (e : Effect) (d k : ℕ) → may_do e d → may_do e (d + k)
may-above push d k m = tt
may-above pop zero k m = absurd m
may-above pop (suc d) k m = rw (suc-add d k) tt
may-above (put c g) d k m = tt

depth-above : (e : Effect) (d k : ℕ) → may_do e d → depth_after e (d + k) ≡ depth_after e d + k
depth-above push d k m = sym (suc-add d k)
depth-above pop zero k m = absurd m
depth-above pop (suc d) k m = rw (suc-add d k) refl
depth-above (put c g) d k m = refl

-- a row does the same on top of k states more
pub level-above : (l : List Stroke) (d e k : ℕ) → Level d l e → Level (d + k) l (e + k)
unfolding Level
level-above [] d e k m = ap (λ (n : ℕ). n + k) m
level-above (x ∷ l) d e k m =
    (may-above x.act.effect d k m.0, rw (depth-above x.act.effect d k m.0) (level-above l (depth_after x.act.effect d) e k m.1))

pub level-append : (l r : List Stroke) (d e g : ℕ) → Level d l e → Level e r g → Level d (l ++ r) g
unfolding Level
level-append [] r d e g m n = rw m n
level-append (x ∷ l) r d e g m n = (m.0, level-append l r (depth_after x.act.effect d) e g m.1 n)

-- a balanced row leaves as many saved as there were
pub balanced-level : (l : List Stroke) (d : ℕ) → Balanced l → Level d l d
unfolding Balanced
balanced-level l d m = rw (zero-add d) at (level-above l 0 0 d m)

-- an operator more
pub level-step : (l : List Stroke) (x : Stroke) (d e : ℕ) → Level d l e → may_do x.act.effect e → Level d (l ++ (x ∷ [])) (depth_after x.act.effect e)
unfolding Level
level-step l x d e m n = level-append l (x ∷ []) d e (depth_after x.act.effect e) m (n, refl)

-- a call more
pub level-call : (l r : List Stroke) (x : Stroke) (d e : ℕ) → Level d l e → x.act ≡ idle → Balanced r → Level d (l ++ (x ∷ r)) e
unfolding Level
level-call l r x d e m i b = level-append l (x ∷ r) d e e m (rw i (tt, balanced-level r e b))

-- a motif's own operators, where each call performs a balanced row
pub own-level : (f : List ℕ → List Stroke) (k : ℕ) → ((n : List ℕ) → Balanced (f n)) → (os : List Own) (d e : ℕ) → OwnLevel d os e → Level d (flat f k os) e
unfolding Level OwnLevel flat
own-level f k b [] d e m = m
own-level f k b (does o a ∷ os) d e m = (m.0, own-level f k b os (depth_after a.effect d) e m.1)
own-level f k b (calls o n ∷ os) d e m = (tt, level-append (f n) (flat f k os) d d e (balanced-level (f n) d (b n)) (own-level f k b os d e m))

own-append : (os qs : List Own) (d e g : ℕ) → OwnLevel d os e → OwnLevel e qs g → OwnLevel d (os ++ qs) g
unfolding OwnLevel
own-append [] qs d e g m n = rw m n
own-append (does o a ∷ os) qs d e g m n = (m.0, own-append os qs (depth_after a.effect d) e g m.1 n)
own-append (calls o k ∷ os) qs d e g m n = own-append os qs d e g m n

-- an own operator more, and a call more
pub own-does : (os : List Own) (o : Operator) (a : Act) (d e : ℕ) → OwnLevel d os e → may_do a.effect e → OwnLevel d (os ++ (does o a ∷ [])) (depth_after a.effect e)
unfolding OwnLevel
own-does os o a d e m n = own-append os (does o a ∷ []) d e (depth_after a.effect e) m (n, refl)

pub own-calls : (os : List Own) (o : Operator) (n : List ℕ) (d e : ℕ) → OwnLevel d os e → OwnLevel d (os ++ (calls o n ∷ [])) e
unfolding OwnLevel
own-calls os o n d e m = own-append os (calls o n ∷ []) d e e m refl

-- an operator's tag says what its effect does to the number saved
depth-pop : (n : ℕ) → depth_after pop n ≡ n - 1
depth-pop zero = refl
depth-pop (suc n) = omega arith

pub saved-depth : (set : Setting) (s : List ℕ) (tag : ℕ) (l : List Attribute) (n : ℕ) → depth_after (effect_of set s tag l) n ≡ saved_after tag n
unfolding effect_of saved_after
saved-depth set s tag l n = go (eqb tag 0x61) (eqb tag 0x60) (eqb tag 0x6b) (eqb tag 0x85) (eqb tag 0x6a) (eqb tag 0x57)
  where
    go : (a b c d e f : Bool)
        → depth_after
        (pick a push (pick b pop (pick c (put (to true) kept) (pick d (put (to false) kept) (pick e (put kept (to (eqb (value_in set.high s l 3) 1))) (pick f (put (to false) (to set.gray)) (put kept kept))))))) n
        ≡ pick a (suc n) (pick b (n - 1) n)
    go true b c d e f = refl
    go false true c d e f = depth-pop n
    go false false true d e f = refl
    go false false false true e f = refl
    go false false false false true f = refl
    go false false false false false true = refl
    go false false false false false false = refl

may-pop : (n : ℕ) → 0 < n → may_do pop n
may-pop zero h = absurd (omega arith)
may-pop (suc n) h = tt

pub may-saved : (set : Setting) (s : List ℕ) (tag : ℕ) (l : List Attribute) (n : ℕ) → (tag ≡ 0x60 → 0 < n) → may_do (effect_of set s tag l) n
unfolding effect_of
may-saved set s tag l n h = go (eqb tag 0x61) (eqb tag 0x60) (eqb tag 0x6b) (eqb tag 0x85) (eqb tag 0x6a) (eqb tag 0x57) (λ e. h (eqb-true tag 0x60 e))
  where
    go : (a b c d e f : Bool) → (b ≡ true → 0 < n)
        → may_do
        (pick a push (pick b pop (pick c (put (to true) kept) (pick d (put (to false) kept) (pick e (put kept (to (eqb (value_in set.high s l 3) 1))) (pick f (put (to false) (to set.gray)) (put kept kept))))))) n
    go true b c d e f k = tt
    go false true c d e f k = may-pop n (k refl)
    go false false true d e f k = tt
    go false false false true e f k = tt
    go false false false false true f k = tt
    go false false false false false true k = tt
    go false false false false false false k = tt

-- a PopGS that may come in a motif finds something saved
pub drawn-pop : (n tag : ℕ) → drawn n tag ≡ true → tag ≡ 0x60 → 0 < n
unfolding drawn among
drawn-pop n tag h e = leb-true 1 n (rw e at h)
