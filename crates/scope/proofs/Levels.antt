-- What rounds over whom each motif calls settle of a call, at what is held: a motif that nests within a level unfolds to what it is within that level, and meets
-- nothing; and 21 and 32 in the words of Reach.
-- Assumes nothing.
use Prim.Native.Nat.{ℕ, zero, suc, ◌+◌, ◌-◌, ◌≤◌}
use mathlib.Core.Path.{◌≡◌, refl, sym, ap, ◌∙◌}
use mathlib.Core.Logic.{◌↔◌}
use mathlib.Core.Bool.{Bool, true, false}
use mathlib.Core.List.{List, [], ◌∷◌, ◌++◌}
use native.Mathlib.Omega.{arith}
use Rattle.scope.specs.Choice.{pick}
use Rattle.scope.specs.Setting.{Setting}
use Rattle.scope.specs.Arm.{idle, Stroke}
use Rattle.scope.specs.Motif.{Own, does, Motif, Held, held_as, is_held}
use Rattle.scope.specs.Calls.{flat, is_one, call_by, call_of, unfolded, Met, nothing, both, met_in, met_by, met}
use Rattle.scope.specs.Reach.{Name, all, fits, lost, names_in, names_of, holds, called_by, Ring}
use Rattle.scope.specs.Plain.{called}
use Rattle.scope.specs.Claims.{MissingExactly, RingExactly, NestsExactly}
use Rattle.scope.proofs.Graph.{clash, met_all, walked, Without, pick_true, fits_more, quiet, nothing-fits, missing-lost, lost-missing}
use Rattle.scope.proofs.GraphRings.{Turns, again-turns, ring-again}
use Rattle.scope.proofs.Bare.{bare_by, bare, unfolded-bare}
use Rattle.scope.specs.Sound.{Sound}
use Rattle.scope.proofs.Sound.{known_of, called-bare}

flat-all : (f g : Name → List Stroke) (k : ℕ) (q : Name → Bool) → ((n : Name) → q n ≡ true → f n ≡ g n) → (os : List Own) → all q (names_in os) ≡ true → flat f k os ≡ flat g k os
unfolding flat all names_in
flat-all f g k q h [] e = refl
flat-all f g k q h (does o a ∷ os) e = ap (λ l. record { motif = k; op = o; act = a } ∷ l) (flat-all f g k q h os e)
flat-all f g k q h (Own.calls o n ∷ os) e =
    let p = pick_true (q n) (all q (names_in os)) e in
    λ i. record { motif = k; op = o; act = idle } ∷ (h n p.0 i ++ flat-all f g k q h os p.1 i)

met_all_lem : (f g : Name → Met) → ((n : Name) → f n ≡ g n) → (os : List Own) → met_in f os ≡ met_all g (names_in os)
unfolding met_in met_all names_in
met_all_lem f g h [] = refl
met_all_lem f g h (does o a ∷ os) = met_all_lem f g h os
met_all_lem f g h (Own.calls o n ∷ os) = λ i. both (h n i) (met_all_lem f g h os i)

module _ (held : List Motif) where
  no-calls : (n : Name) → holds held n ≡ false → called_by held n ≡ []
  unfolding names_of is_held
  no-calls n e = by (held_as n held) e
    where
      by : (x : Held) → is_held x ≡ false → names_of x ≡ []
      by (Held.is m) f = clash (sym f)
      by Held.none f = refl

  -- what a call meets is what the walk over names meets
  pub met-walked : (d : ℕ) (run : List Name) (n : Name) → met held d run n ≡ walked (holds held) (called_by held) d run n
  unfolding met walked call_of call_by met_by names_of is_held
  met-walked zero run n = by (is_one n run) (held_as n held)
    where
      by : (b : Bool) (x : Held) → met_by (λ m. record { missing = false; again = false; deep = true }) (call_by b x)
          ≡ pick (is_held x) (pick b (record { missing = false; again = true; deep = false }) (record { missing = false; again = false; deep = true })) (record { missing = true; again = false; deep = false })
      by b Held.none = refl
      by true (Held.is m) = refl
      by false (Held.is m) = refl
  met-walked (suc d) run n = by (is_one n run) (held_as n held) (met-walked d (n ∷ run))
    where
      by : (b : Bool) (x : Held) → ((c : Name) → met held d (n ∷ run) c ≡ walked (holds held) (called_by held) d (n ∷ run) c)
          → met_by (λ m. met_in (met held d (n ∷ run)) m.ops) (call_by b x)
          ≡ pick (is_held x) (pick b (record { missing = false; again = true; deep = false }) (met_all (walked (holds held) (called_by held) d (n ∷ run)) (names_of x))) (record { missing = true; again = false; deep = false })
      by b Held.none ih = refl
      by true (Held.is m) ih = refl
      by false (Held.is m) ih = met_all_lem (met held d (n ∷ run)) (walked (holds held) (called_by held) d (n ∷ run)) ih m.ops

  -- a motif that nests within k unfolds to the same within more
  bare-more : (k : ℕ) (n : Name) → fits (holds held) (called_by held) k n ≡ true → bare held k n ≡ bare held (suc k) n
  unfolding fits bare bare_by names_of is_held
  bare-more zero n e = clash e
  bare-more (suc k) n e = by (held_as n held) e (bare-more k)
    where
      by : (x : Held) → pick (is_held x) (all (fits (holds held) (called_by held) k) (names_of x)) false ≡ true
          → ((c : Name) → fits (holds held) (called_by held) k c ≡ true → bare held k c ≡ bare held (suc k) c) → bare_by (bare held k) x ≡ bare_by (bare held (suc k)) x
      by Held.none f ih = refl
      by (Held.is m) f ih = flat-all (bare held k) (bare held (suc k)) m.number (fits (holds held) (called_by held) k) ih m.ops f

  bare-up : (k e : ℕ) (n : Name) → fits (holds held) (called_by held) k n ≡ true → (fits (holds held) (called_by held) (k + e) n ≡ true) × (bare held k n ≡ bare held (k + e) n)
  bare-up k zero n f = let z : k + 0 ≡ k = omega arith in rw z (f, refl)
  bare-up k (suc e) n f =
      let z : k + suc e ≡ suc (k + e) = omega arith in
      let u = bare-up k e n f in
      rw z (fits_more (holds held) (called_by held) (k + e) n u.0, u.1 ∙ bare-more (k + e) n u.0)

  -- a motif with a level: its call meets nothing and unfolds to what it is within that level
  pub level-clear : (k d : ℕ) (n : Name) → k ≤ d → fits (holds held) (called_by held) k n ≡ true → met held d [] n ≡ nothing
  unfolding Without
  level-clear k d n l f = met-walked d [] n ∙ quiet (holds held) (called_by held) k d [] n l f tt

  pub level-unfolds : (k d : ℕ) (n : Name) → k ≤ d → fits (holds held) (called_by held) k n ≡ true → unfolded held d [] n ≡ bare held k n
  level-unfolds k d n l f =
      let e : k + (d - k) ≡ d = omega arith in
      unfolded-bare held d [] n (level-clear k d n l f) ∙ ap (λ m. bare held m n) (sym e) ∙ sym (bare-up k (d - k) n f).1

  -- and one without is refused
  pub clear_level : (d : ℕ) (n : Name) → met held (suc d) [] n ≡ nothing → fits (holds held) (called_by held) (suc d) n ≡ true
  clear_level d n e = nothing-fits (holds held) (called_by held) d [] n (sym (met-walked (suc d) [] n) ∙ e)

  -- the 32 of the plain arm is no bound to a call that meets nothing: with more it performs the same
  pub deeper : {set : Setting} → Sound set held → (d e : ℕ) (n : Name) → met held (suc d) [] n ≡ nothing → called set (known_of held) (suc d + e) n ≡ called set (known_of held) (suc d) n
  deeper {set} k d e n c = called-bare k (suc d + e) n ∙ sym (bare-up (suc d) e n (clear_level d n c)).1 ∙ sym (called-bare k (suc d) n)

  -- 21: exactly if a name not held is reached
  pub missing-reached : (d : ℕ) (n : Name) → ((met held d [] n).missing ≡ true) ↔ (lost (holds held) (called_by held) d n ≡ true)
  unfolding Without
  missing-reached d n =
      let w = ap (λ (m : Met). m.missing) (met-walked d [] n) in
      let l : d ≤ d = omega arith in
      ((λ e. missing-lost (holds held) (called_by held) d [] n (sym w ∙ e)), λ f. w ∙ lost-missing (holds held) (called_by held) d d [] n l f tt)

  ring_of : (d : ℕ) (n : Name) → Turns (holds held) (called_by held) [] d n → Ring held d n
  unfolding is_one
  ring_of d n (Turns.back r t m l e) = clash m
  ring_of d n (Turns.ring v a c e f l) = record { which = v; way = a; round = c; reached = e; closed = f; short = l }

  pub again-ring : (d : ℕ) (n : Name) → ((met held d [] n).again ≡ true) ↔ Ring held d n
  again-ring d n =
      let w = ap (λ (m : Met). m.again) (met-walked d [] n) in
      ((λ e. ring_of d n (again-turns (holds held) (called_by held) d [] n (sym w ∙ e))), λ r. w ∙ ring-again (holds held) (called_by held) no-calls r.way r.round d [] r.which n r.reached r.closed r.short)

pub missing-exactly : MissingExactly
missing-exactly held d name = missing-reached held d name

pub ring-exactly : RingExactly
ring-exactly held d name = again-ring held d name

pub nests-exactly : NestsExactly
nests-exactly held d name =
    let l : suc d ≤ suc d = omega arith in
    (clear_level held d name, level-clear held (suc d) (suc d) name l)
