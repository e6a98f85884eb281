-- Levels of names. A motif that nests within d nests within more, so its level says within how many it nests: it has a level from 1 to d, after d rounds or more, exactly
-- if it nests within d.
-- Assumes nothing.
use Prim.Native.Nat.{ℕ, zero, suc, ◌+◌, ◌≤◌}
use mathlib.Core.Path.{◌≡◌, refl, sym, ◌∙◌}
use mathlib.Core.Bool.{Bool, true, false}
use mathlib.Core.List.{List}
use native.Mathlib.Omega.{arith}
use lib.Dec.{eqb, ltb}
use borrow.Author.Tests.{lt-ltb, le-ltb, eq-eqb, ne_eqb}
use Rattle.scope.specs.Choice.{pick}
use Rattle.scope.specs.Motif.{Motif}
use Rattle.scope.specs.Reach.{Name, fits, holds, called_by}
use Rattle.scope.proofs.Graph.{clash, fits_more}
use Rattle.motif.specs.Tables.{level_of}
use Rattle.rounds.specs.Rounds.{earlier_of}

-- a motif nests within d, all names held
abbrev pub nests : List Motif → (d : ℕ) → Name → Bool
nests ms d x = fits (holds ms) (called_by ms) d x

module _ (ms : List Motif) where
  -- nothing nests within no level
  pub none-nests : (x : Name) → nests ms 0 x ≡ false
  unfolding fits
  none-nests x = refl

  -- a level is one of the rounds
  pub level-most : (d : ℕ) (x : Name) → level_of ms d x ≤ d
  unfolding level_of
  level-most zero x = omega arith
  level-most (suc d) x = by (eqb (level_of ms d x) 0) (nests ms (suc d) x) (level-most d x)
    where
      by : (a b : Bool) → level_of ms d x ≤ d → pick a (pick b (suc d) 0) (level_of ms d x) ≤ suc d
      by true true h = omega arith
      by true false h = omega arith
      by false b h = omega arith

  -- a motif that nests within d has a level, and one that does not has none
  pub level-some : (d : ℕ) (x : Name) → nests ms d x ≡ true → eqb (level_of ms d x) 0 ≡ false
  unfolding level_of
  level-some zero x e = clash (sym (none-nests x) ∙ e)
  level-some (suc d) x e = rw e (by (eqb (level_of ms d x) 0) refl)
    where
      by : (a : Bool) → eqb (level_of ms d x) 0 ≡ a → eqb (pick a (suc d) (level_of ms d x)) 0 ≡ false
      by true t = let q : suc d ≡ 0 → ⊥ = λ z. omega arith in ne_eqb (suc d) 0 q
      by false t = t

  pub level-none : (d : ℕ) (x : Name) → nests ms d x ≡ false → eqb (level_of ms d x) 0 ≡ true
  unfolding level_of
  level-none zero x e = eq-eqb 0 0 refl
  level-none (suc d) x e = rw (e, level-none d x (before (nests ms d x) refl)) (eq-eqb 0 0 refl)
    where
      before : (b : Bool) → nests ms d x ≡ b → nests ms d x ≡ false
      before true t = clash (sym e ∙ fits_more (holds ms) (called_by ms) d x t)
      before false t = t

  -- a level of an earlier round, after that round
  now : (d : ℕ) (x : Name) → earlier_of true (level_of ms d x) (suc d) ≡ nests ms d x
  unfolding earlier_of
  now d x = by (nests ms d x) refl
    where
      by : (b : Bool) → nests ms d x ≡ b → pick (eqb (level_of ms d x) 0) false (ltb (level_of ms d x) (suc d)) ≡ b
      by true e =
          let h : level_of ms d x ≤ d = level-most d x in
          rw (level-some d x e) (lt-ltb (level_of ms d x) (suc d) (omega arith))
      by false e = rw (level-none d x e)

  -- one round more
  on : (d e : ℕ) (x : Name) → d ≤ e → earlier_of true (level_of ms (suc e) x) (suc d) ≡ earlier_of true (level_of ms e x) (suc d)
  unfolding earlier_of level_of
  on d e x h = by (eqb (level_of ms e x) 0) refl (nests ms (suc e) x)
    where
      by : (a : Bool) → eqb (level_of ms e x) 0 ≡ a → (b : Bool)
          → earlier_of true (pick a (pick b (suc e) 0) (level_of ms e x)) (suc d) ≡ pick (eqb (level_of ms e x) 0) false (ltb (level_of ms e x) (suc d))
      by true t true =
          let q : suc e ≡ 0 → ⊥ = λ z. omega arith in
          rw (t, ne_eqb (suc e) 0 q) (le-ltb (suc e) (suc d) (omega arith))
      by true t false = rw t
      by false t b = rw t

  -- and after any more
  pub under-level : (d k : ℕ) (x : Name) → earlier_of true (level_of ms (d + k) x) (suc d) ≡ nests ms d x
  under-level d zero x = let z : d + 0 ≡ d = omega arith in rw z (now d x)
  under-level d (suc k) x =
      let z : d + suc k ≡ suc (d + k) = omega arith in
      let h : d ≤ d + k = omega arith in
      rw z (on d (d + k) x h ∙ under-level d k x)
