-- What is known of calls stays true where one more of them was found to lack no pattern.
-- Assumes nothing.
use Prim.Native.Nat.{ℕ, ◌<◌}
use mathlib.Core.Path.{◌≡◌, refl, ◌∙◌}
use mathlib.Core.Bool.{Bool, true, false}
use mathlib.Core.List.{List, []}
use native.Mathlib.Omega.{arith}
use lib.Dec.{eqb}
use borrow.Author.Tests.{eqb-true, eqb-false}
use Rattle.scope.specs.Motif.{Motif}
use Rattle.scope.specs.Calls.{unfolded}
use Rattle.motif.specs.Held.{Keeps, InRow}
use Rattle.motif.proofs.Rowed.{in_below}
use Rattle.pattern_rows.specs.Numbers.{OfPage, OfSession, known_in, SameRows}
use Rattle.patterns.specs.Selects.{wants_from, missing_of, Selects}
use Rattle.patterns.proofs.Forgets.{quiet-too}

module _ {p p₁ : List ℕ} (s : SameRows p p₁) where
  missing-same : (ns : List ℕ) → missing_of p ns ≡ false → missing_of p₁ ns ≡ false
  missing-same ns e = rw (s.rows OfPage (omega arith), s.rows OfSession (omega arith)) e

  pub learned : {t : List ℕ} {n : ℕ} {ms : List Motif} (i : ℕ) → Keeps t n ms → ((k : ℕ) → (k ≡ i → ⊥) → known_in p₁ k ≡ known_in p k)
      → ((m : Motif) → InRow ms i m → missing_of p (wants_from (unfolded ms 32 [] m.name) []) ≡ false) → Selects p ms → Selects p₁ ms
  learned {ms = ms} i keeps others found h =
      record {
        at = λ k m r. let l : k < 67 = omega (arith, in_below keeps.rows r, keeps.most) in s.rows k l ∙ h.at k m r;
        quiet = quiet-too s h.quiet;
        known = λ k m r z. missing-same _ (by k m r z (eqb k i) refl);
      }
    where
      by : (k : ℕ) (m : Motif) → InRow ms k m → (known_in p₁ k ≡ 0 → ⊥) → (b : Bool) → eqb k i ≡ b
          → missing_of p (wants_from (unfolded ms 32 [] m.name) []) ≡ false
      by k m r z true e = found m (rw (eqb-true k i e) at r)
      by k m r z false e = h.known k m r (λ y. z (others k (eqb-false k i e) ∙ y))
