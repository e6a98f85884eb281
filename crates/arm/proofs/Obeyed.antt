-- A row is judged 0 exactly if the plain arm comes to its end, no operator breaking a rule where it is performed.
use Prim.Native.Nat.{ℕ, ◌≤◌}
use native.Mathlib.Omega.{arith}
use mathlib.Core.Path.{◌≡◌, refl}
use mathlib.Core.Logic.{◌↔◌}
use mathlib.Core.Bool.{Bool, true}
use mathlib.Core.List.{List, [], ◌∷◌}
use Rattle.scope.specs.Arm.{Page, Seen, Stroke, walk, from}
use Rattle.scope.specs.Judge.{some_missing}
use Rattle.scope.specs.Plain.{stays, comes, deeds}
use Rattle.scope.proofs.Rows as scope
use Rattle.scope.proofs.Rows.{Around, arm_of, row-clean, clean_row, staying}
use Rattle.arm.specs.Codes.{code_of}
use Rattle.arm.proofs.Clean.{Clean, clean_code, code-clean}

-- a pattern that was selected is not defined
abbrev bare_of : Around → Seen → Bool
bare_of o w = some_missing o.of_page o.of_session w.wants

module _ (o : Around) (w : Seen) where
  clean_in : Clean o.opened (bare_of o w) w → scope.Clean o w
  clean_in h = record { source = h.source; most = h.most; lost = h.lost; wrong = h.wrong; there = h.there; count = h.count }

  clean_out : scope.Clean o w → Clean o.opened (bare_of o w) w
  clean_out h = record { source = h.source; most = h.most; lost = h.lost; wrong = h.wrong; there = h.there; count = h.count }

module _ (o : Around) (w : Seen) where
  comes-clean : (l : List Stroke) → scope.Clean o w → comes (deeds stays l) (arm_of o w) ≡ true → scope.Clean o (walk l w)
  unfolding walk
  comes-clean [] h e = h
  comes-clean (x ∷ l) h e = row-clean o stays x l w staying h e

  clean_comes : (l : List Stroke) → scope.Clean o (walk l w) → comes (deeds stays l) (arm_of o w) ≡ true
  unfolding comes deeds
  clean_comes [] h = refl
  clean_comes (x ∷ l) h = clean_row o stays x l w staying h

-- the row is judged from a page q with n performed; the source stays open or closed, and the patterns that are defined stay
pub judged-as_performed : (o : Around) (row : List Stroke) (q : Page) (n : ℕ) → n ≤ 1_000_000
    → (code_of o.opened (bare_of o (walk row (from q n))) (walk row (from q n)) ≡ 0) ↔ (comes (deeds stays row) (arm_of o (from q n)) ≡ true)
judged-as_performed o l q n h =
    let w = walk l (from q n) in
    let start : scope.Clean o (from q n) = unfold from some_missing in record { source = refl; most = omega arith; lost = refl; wrong = refl; there = refl; count = h } in (
      λ z. clean_comes o (from q n) l (clean_in o w (clean_code o.opened (bare_of o w) w z)),
      λ e. code-clean o.opened (bare_of o w) w (clean_out o w (comes-clean o (from q n) l start e)),
    )
