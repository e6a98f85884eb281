-- The walk with its cuts: a motif already running is met exactly if a ring is reached and closed within the nesting.
-- Assumes nothing.
use Prim.Native.Nat.{ℕ, zero, suc, ◌+◌, ◌-◌, ◌≤◌}
use mathlib.Core.Path.{◌≡◌, refl, ap, ◌∙◌}
use mathlib.Core.Bool.{Bool, true, false, ◌||◌}
use mathlib.Core.List.{List, [], ◌∷◌}
use native.Mathlib.Omega.{arith}
use Rattle.scope.specs.Choice.{pick, same}
use Rattle.scope.specs.Calls.{is_one, Met}
use Rattle.scope.specs.Reach.{Name, any, steps}
use Rattle.scope.proofs.Apart.{same-eq, same_refl}
use Rattle.scope.proofs.Graph.{clash, met_all, walked, or_true, pick_some}

module _ (held : Name → Bool) (calls : Name → List Name) where
  -- a motif that calls itself, directly or through others
  any-again : (f : Name → Bool) (g : Name → Met) → ((j : Name) → f j ≡ true → (g j).again ≡ true) → (l : List Name) → any f l ≡ true → (met_all g l).again ≡ true
  unfolding any met_all
  any-again f g h [] e = clash e
  any-again f g h (j ∷ js) e = go (f j) refl e (any-again f g h js)
    where
      go : (b : Bool) → f j ≡ b → pick b true (any f js) ≡ true → (any f js ≡ true → (met_all g js).again ≡ true) → ((g j).again || (met_all g js).again) ≡ true
      go true t e k = rw (h j t) refl
      go false t e k = or_true held calls (g j).again (met_all g js).again (k e)

  again-now : (d : ℕ) (run : List Name) (i : Name) → held i ≡ true → is_one i run ≡ true → (walked held calls d run i).again ≡ true
  unfolding walked
  again-now zero run i h m = rw (h, m) refl
  again-now (suc d) run i h m = rw (h, m) refl

  module _ (bare : (i : Name) → held i ≡ false → calls i ≡ []) where
    has-calls : (f : Name → Bool) (i : Name) → any f (calls i) ≡ true → held i ≡ true
    unfolding any
    has-calls f i e = go (held i) refl
      where
        go : (b : Bool) → held i ≡ b → b ≡ true
        go true t = refl
        go false t = clash (rw (bare i t) at e)

    -- one step on: cut by a motif that runs, or through the calls
    on : (d : ℕ) (run : List Name) (i : Name) (b : Bool) → is_one i run ≡ b → held i ≡ true → (met_all (walked held calls d (i ∷ run)) (calls i)).again ≡ true → (walked held calls (suc d) run i).again ≡ true
    unfolding walked
    on d run i true m h e = rw (h, m) refl
    on d run i false m h e = rw (h, m) e

    hits : (t d : ℕ) (run : List Name) (v i : Name) → steps calls t v i ≡ true → is_one v run ≡ true → held v ≡ true → t ≤ d → (walked held calls d run i).again ≡ true
    unfolding steps is_one
    hits zero d run v i e m h l = let q = same-eq i v e in again-now d run i (ap held q ∙ h) (ap (λ x. is_one x run) q ∙ m)
    hits (suc t) zero run v i e m h l = absurd (omega arith)
    hits (suc t) (suc d) run v i e m h l =
        let k : t ≤ d = omega arith in
        on d run i (is_one i run) refl (has-calls (steps calls t v) i e)
        (any-again (steps calls t v) (walked held calls d (i ∷ run)) (λ j f. hits t d (i ∷ run) v j f (pick_some held calls (same v i) (is_one v run) m) h k) (calls i) e)

    pub ring-again : (a c d : ℕ) (run : List Name) (v i : Name) → steps calls a v i ≡ true → steps calls (suc c) v v ≡ true → a + suc c ≤ d → (walked held calls d run i).again ≡ true
    unfolding steps is_one
    ring-again a c zero run v i e f l = absurd (omega arith)
    ring-again zero c (suc d) run v i e f l =
        let q = same-eq i v e in
        let h : held v ≡ true = has-calls (steps calls c v) v f in
        let k : c ≤ d = omega arith in
        let z : same v v ≡ true = same_refl v in
        rw q (on d run v (is_one v run) refl h (any-again (steps calls c v) (walked held calls d (v ∷ run)) (λ j g. hits c d (v ∷ run) v j g (rw z refl) h k) (calls v) f))
    ring-again (suc a) c (suc d) run v i e f l =
        let k : a + suc c ≤ d = omega arith in
        on d run i (is_one i run) refl (has-calls (steps calls a v) i e)
        (any-again (steps calls a v) (walked held calls d (i ∷ run)) (λ j g. ring-again a c d (i ∷ run) v j g f k) (calls i) e)

  data In (j : Name) : List Name → Type 0 where
    here : {l : List Name} → In j (j ∷ l)
    there : {k : Name} {l : List Name} → In j l → In j (k ∷ l)

  any-in : (f : Name → Bool) {j : Name} {l : List Name} → In j l → f j ≡ true → any f l ≡ true
  unfolding any
  any-in f here e = rw e refl
  any-in f (there {k = k} {l = l} p) e = pick_some held calls (f k) (any f l) (any-in f p e)

  record Some (g : Name → Met) (l : List Name) : Type 0 where
    which : Name
    is_in : In which l
    so : (g which).again ≡ true

  some : (g : Name → Met) (l : List Name) → (met_all g l).again ≡ true → Some g l
  unfolding met_all
  some g [] e = clash e
  some g (j ∷ js) e = go (g j).again refl e (some g js)
    where
      go : (b : Bool) → (g j).again ≡ b → (b || (met_all g js).again) ≡ true → ((met_all g js).again ≡ true → Some g js) → Some g (j ∷ js)
      go true t e k = record { which = j; is_in = here; so = t }
      go false t e k = let z = k e in record { which = z.which; is_in = there z.is_in; so = z.so }

  -- where it is met: a running motif is reached, or there is a ring
  pub data Turns (run : List Name) (d : ℕ) (i : Name) : Type 0 where
    back : (r : Name) (t : ℕ) → is_one r run ≡ true → t ≤ d → steps calls t r i ≡ true → Turns run d i
    ring : (v : Name) (a c : ℕ) → steps calls a v i ≡ true → steps calls (suc c) v v ≡ true → a + suc c ≤ d → Turns run d i

  at-start : (d : ℕ) (run : List Name) (i : Name) → is_one i run ≡ true → Turns run d i
  unfolding steps
  at-start d run i m = let z : 0 ≤ d = omega arith in back i 0 m z (same_refl i)

  behind : (d : ℕ) (run : List Name) (i j : Name) → In j (calls i) → Turns (i ∷ run) d j → Turns run (suc d) i
  unfolding steps is_one
  behind d run i j p (back r t m l e) = go (same r i) refl m
    where
      go : (b : Bool) → same r i ≡ b → pick b true (is_one r run) ≡ true → Turns run (suc d) i
      go true q m =
          let w = same-eq r i q in
          let z : 0 + suc t ≤ suc d = omega arith in
          ring i 0 t (same_refl i) (any-in (steps calls t i) p (rw w at e)) z
      go false q m = let z : suc t ≤ suc d = omega arith in back r (suc t) m z (any-in (steps calls t r) p e)
  behind d run i j p (ring v a c e f l) = let z : suc a + suc c ≤ suc d = omega arith in ring v (suc a) c (any-in (steps calls a v) p e) f z

  pub again-turns : (d : ℕ) (run : List Name) (i : Name) → (walked held calls d run i).again ≡ true → Turns run d i
  unfolding walked
  again-turns zero run i e = go (held i) (is_one i run) refl e
    where
      go : (h m : Bool) → is_one i run ≡ m → (pick {A = Met} h (pick {A = Met} m (record { missing = false; again = true; deep = false }) (record { missing = false; again = false; deep = true })) (record { missing = true; again = false; deep = false })).again ≡ true → Turns run zero i
      go true true m e = at-start zero run i m
      go true false m e = clash e
      go false b m e = clash e
  again-turns (suc d) run i e = go (held i) (is_one i run) refl e (λ f. let z = some (walked held calls d (i ∷ run)) (calls i) f in behind d run i z.which z.is_in (again-turns d (i ∷ run) z.which z.so))
    where
      go : (h m : Bool) → is_one i run ≡ m → (pick {A = Met} h (pick {A = Met} m (record { missing = false; again = true; deep = false }) (met_all (walked held calls d (i ∷ run)) (calls i))) (record { missing = true; again = false; deep = false })).again ≡ true
          → ((met_all (walked held calls d (i ∷ run)) (calls i)).again ≡ true → Turns run (suc d) i) → Turns run (suc d) i
      go true true m e k = at-start (suc d) run i m
      go true false m e k = k e
      go false b m e k = clash e
