-- The plain arm's way through a job goes operator by operator, and what it has performed before stands in front of what it performs then.
-- Assumes nothing.
use Prim.Native.Nat.{ℕ, zero, suc, ◌-◌, ◌<◌}
use mathlib.Core.Path.{◌≡◌, sym, ap, ◌∙◌}
use mathlib.Core.Bool.{Bool}
use mathlib.Core.List.{List, [], ◌++◌, append-nil, append_assoc}
use native.Mathlib.Omega.{arith}
use lib.ListN.{length}
use Rattle.scope.specs.Iterate.{onward, iterate, unroll}
use Rattle.scope.specs.Reading.{Read}
use Rattle.scope.specs.Setting.{Setting}
use Rattle.scope.specs.Plain.{Deed, Unrolled, context_at, on_operator, on_next, deeds_for, unroll_step}
use Rattle.scope.proofs.Ends.{GoodRead, read-good}
use Rattle.scope.proofs.Falls.{unroll-falls}

module _ (set : Setting) (s : List ℕ) where
  -- the row of operators from where the arm stands
  abbrev pub unrolled : Unrolled → List Deed
  unrolled = iterate (unroll_step set s) [] (λ u. length s - u.at)

  -- one operator, and the rest of the way
  pub unrolled-step : (u : Unrolled) → unrolled u ≡ onward unrolled (unroll_step set s u)
  unrolled-step u = unroll (unroll_step set s) [] (λ u. length s - u.at) (unroll-falls set s) u

  abbrev with_row : Unrolled → List Deed → Unrolled
  with_row u row = record { at = u.at; doing = u.doing; known = u.known; arm = u.arm; row = row }

  module _ (n : ℕ) (ih : (u : Unrolled) (row : List Deed) → length s - u.at < n → unrolled (with_row u row) ≡ row ++ unrolled (with_row u [])) where
    gather_on : (u : Unrolled) (row : List Deed) → length s - u.at < suc n → {may : ℕ → Bool} {r : Read} → GoodRead (length s) u.at may r
        → onward unrolled (on_next set s (with_row u row) r) ≡ row ++ onward unrolled (on_next set s (with_row u []) r)
    unfolding on_next on_operator
    gather_on u row h (GoodRead.operator {o = o} p q m) =
        let d = deeds_for set s u.doing u.known o in
        let v = on_operator set s u o in
        let k : length s - o.next < n = omega arith in
        ih v (row ++ d) k ∙ append_assoc row d (unrolled (with_row v [])) ∙ ap (λ t. row ++ t) (sym (ih v d k))
    gather_on u row h GoodRead.ended = sym (append-nil row)
    gather_on u row h (GoodRead.no k) = sym (append-nil row)

  -- what was performed before stands in front
  pub gathered : (n : ℕ) (u : Unrolled) (row : List Deed) → length s - u.at < n → unrolled (with_row u row) ≡ row ++ unrolled (with_row u [])
  unfolding unroll_step context_at
  gathered zero u row h = absurd (omega arith)
  gathered (suc n) u row h =
      unrolled-step (with_row u row) ∙ gather_on n (gathered n) u row h (read-good (context_at set u) s u.at)
      ∙ ap (λ t. row ++ t) (sym (unrolled-step (with_row u [])))
