-- Rows of operators: walked one after the other, counted, and as a motif's own operators give them.
use Prim.Native.Nat.{ℕ, ◌+◌}
use native.Mathlib.Omega.{arith}
use mathlib.Core.Path.{◌≡◌, refl, sym, ap, ◌∙◌}
use mathlib.Core.Bool.{Bool}
use mathlib.Core.List.{List, [], ◌∷◌, ◌++◌, append_assoc, append-nil}
use lib.ListN.{length}
use Rattle.scope.specs.Arm.{Act, idle, Seen, step, Stroke, walk, from}
use Rattle.summary.specs.Sums.{fresh}
use Rattle.scope.specs.Reading.{Operator}
use Rattle.scope.specs.Motif.{Own, does, calls}
use Rattle.scope.specs.Calls.{flat}

pub walk-append : (xs ys : List Stroke) (w : Seen) → walk (xs ++ ys) w ≡ walk ys (walk xs w)
unfolding walk
walk-append [] ys w = refl
walk-append (x ∷ xs) ys w = walk-append xs ys (step x.act w)

-- each operator performed counts one
pub walk-count : (xs : List Stroke) (w : Seen) → (walk xs w).count ≡ w.count + length xs
unfolding walk step
walk-count [] w = omega arith
walk-count (x ∷ xs) w = let p = walk-count xs (step x.act w) in omega arith

-- from a start
pub fresh-count : (xs : List Stroke) (b : Bool) → (walk xs (fresh b)).count ≡ length xs
unfolding fresh from
fresh-count xs b = walk-count xs (fresh b) ∙ omega arith

pub flat_append : (f : List ℕ → List Stroke) (k : ℕ) (os qs : List Own) → flat f k (os ++ qs) ≡ flat f k os ++ flat f k qs
unfolding flat
flat_append f k [] qs = refl
flat_append f k (does o a ∷ os) qs = ap (λ (l : List Stroke). record { motif = k; op = o; act = a } ∷ l) (flat_append f k os qs)
flat_append f k (calls o n ∷ os) qs =
    ap (λ (l : List Stroke). record { motif = k; op = o; act = idle } ∷ (f n ++ l)) (flat_append f k os qs)
    ∙ ap (λ (l : List Stroke). record { motif = k; op = o; act = idle } ∷ l) (sym (append_assoc (f n) (flat f k os) (flat f k qs)))

-- an operator more
pub flat-does : (f : List ℕ → List Stroke) (k : ℕ) (os : List Own) (o : Operator) (a : Act)
    → flat f k (os ++ (does o a ∷ [])) ≡ flat f k os ++ (record { motif = k; op = o; act = a } ∷ [])
unfolding flat
flat-does f k os o a = flat_append f k os (does o a ∷ [])

-- a call more
pub flat-calls : (f : List ℕ → List Stroke) (k : ℕ) (os : List Own) (o : Operator) (n : List ℕ)
    → flat f k (os ++ (calls o n ∷ [])) ≡ flat f k os ++ (record { motif = k; op = o; act = idle } ∷ f n)
unfolding flat
flat-calls f k os o n =
    flat_append f k os (calls o n ∷ [])
    ∙ ap (λ (l : List Stroke). flat f k os ++ (record { motif = k; op = o; act = idle } ∷ l)) (append-nil (f n))
