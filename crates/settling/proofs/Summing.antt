-- A motif that gets its level calls only motifs that have theirs, so the row that its operators perform, where a call performs what the table sums up, is what it
-- unfolds to.
-- Assumes nothing.
use Prim.Native.Nat.{ℕ, suc, ◌-◌, ◌≤◌, ◌<◌}
use mathlib.Core.Path.{◌≡◌, refl, sym, ap, ◌∙◌}
use mathlib.Core.Bool.{Bool, true, false}
use mathlib.Core.List.{List, [], ◌∷◌, ◌++◌}
use native.Mathlib.Omega.{arith}
use lib.Dec.{eqb}
use Rattle.scope.specs.Arm.{idle, Stroke}
use Rattle.scope.specs.Motif.{Own, does, Motif, Held, held_as}
use Rattle.scope.specs.Calls.{flat, unfolded}
use Rattle.scope.specs.Reach.{Name, all, names_in}
use Rattle.scope.proofs.Graph.{pick_true}
use Rattle.scope.proofs.Bare.{bare_by, bare}
use Rattle.scope.proofs.Levels.{level-unfolds}
use Rattle.summary.specs.Sums.{SumsAs}
use Rattle.motif.specs.Held.{Keeps, InRow, level_in, sum_in}
use Rattle.motif.specs.Tables.{settled_row, SumFor, SumsUp}
use Rattle.motif.proofs.Rowed.{held-row, held_in}
use Rattle.rounds.proofs.Levels.{nests}
use Rattle.rounds.proofs.Called.{nests-held, nests-turn, named}

-- the row that the table sums up for what a name holds, and for a name
unfoldable pub summed_by : List ℕ → List Motif → Name → Held → List Stroke
summed_by t ms x (Held.is m) = settled_row ms (level_in t (m.number - 1)) x
summed_by t ms x Held.none = []

unfoldable pub summed_row : List ℕ → List Motif → Name → List Stroke
summed_row t ms x = summed_by t ms x (held_as x ms)

-- rows that agree of all names called
flat-same : (f g : Name → List Stroke) (k : ℕ) (q : Name → Bool) → ((x : Name) → q x ≡ true → f x ≡ g x) → (os : List Own) → all q (names_in os) ≡ true → flat f k os ≡ flat g k os
unfolding flat all names_in
flat-same f g k q h [] e = refl
flat-same f g k q h (does o a ∷ os) e = ap (λ l. record { motif = k; op = o; act = a } ∷ l) (flat-same f g k q h os e)
flat-same f g k q h (Own.calls o n ∷ os) e =
    let p = pick_true (q n) (all q (names_in os)) e in
    λ i. record { motif = k; op = o; act = idle } ∷ (h n p.0 i ++ flat-same f g k q h os p.1 i)

module _ (t : List ℕ) (n : ℕ) (ms : List Motif) (keeps : Keeps t n ms) where
  -- these are the rows that the table sums up
  pub sums_up : ((k : ℕ) (m : Motif) → InRow ms k m → SumsAs (sum_in t k) (settled_row ms (level_in t k) m.name)) → SumsUp t ms (summed_row t ms)
  unfolding SumsUp summed_row summed_by
  sums_up s = λ x. by x (held_as x ms) refl
    where
      by : (x : Name) (h : Held) → held_as x ms ≡ h → SumFor t h (summed_by t ms x h)
      by x Held.none e = refl
      by x (Held.is m) e =
          let r = held_in x keeps.rows e in
          let z = (held-row x keeps.rows e).0 in
          rw z at (s (m.number - 1) m r)

  module _ (d : ℕ) (small : d < 32) (has : (k : ℕ) (m : Motif) → InRow ms k m → nests ms d m.name ≡ true → eqb (level_in t k) 0 ≡ false) where
    -- one that has its level from earlier rounds
    row-bare : (x : Name) → nests ms d x ≡ true → summed_row t ms x ≡ bare ms d x
    unfolding summed_row summed_by settled_row
    row-bare x e =
        let y = named ms x (nests-held ms d x e) in
        let r = held_in x keeps.rows y.1 in
        let z = (held-row x keeps.rows y.1).0 in
        let f : eqb (level_in t (y.0.number - 1)) 0 ≡ false = has (y.0.number - 1) y.0 r (ap (nests ms d) z ∙ e) in
        let l : d ≤ 32 = omega arith in
        rw (y.1, f) (level-unfolds ms d 32 x l e)

    -- one level more
    bare-turn : (i : ℕ) (m : Motif) → InRow ms i m → bare ms (suc d) m.name ≡ flat (bare ms d) m.number m.ops
    unfolding bare bare_by
    bare-turn i m r = rw r.held

    -- the motif that gets its level
    pub row-unfolds : (i : ℕ) (m : Motif) → InRow ms i m → nests ms (suc d) m.name ≡ true → flat (summed_row t ms) m.number m.ops ≡ unfolded ms 32 [] m.name
    row-unfolds i m r e =
        let l : suc d ≤ 32 = omega arith in
        flat-same (summed_row t ms) (bare ms d) m.number (nests ms d) row-bare m.ops (sym (nests-turn ms i m r d) ∙ e)
        ∙ sym (bare-turn i m r) ∙ sym (level-unfolds ms (suc d) 32 m.name l e)
