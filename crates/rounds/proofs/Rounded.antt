-- A motif's turn in a round: where the levels of those that it calls are right, it gets the level that it has after this round.
-- Assumes nothing.
use Prim.Native.Nat.{ℕ, zero, suc, ◌+◌, ◌-◌, ◌≤◌, ◌<◌}
use mathlib.Core.Path.{◌≡◌, refl, sym, ap, ◌∙◌}
use mathlib.Core.Bool.{Bool, true, false}
use mathlib.Core.List.{List}
use native.Mathlib.Omega.{arith}
use lib.Dec.{eqb, ltb}
use borrow.Author.Tests.{ltb-false, lt-leb}
use Rattle.scope.specs.Choice.{pick}
use Rattle.scope.specs.Motif.{Motif}
use Rattle.scope.specs.Reach.{Name}
use Rattle.scope.proofs.Graph.{clash}
use Rattle.key.specs.Mark.{mark}
use Rattle.motif.specs.Search.{few}
use Rattle.motif.specs.Held.{Keeps, InRow, level_in, calls_in, missing_in}
use Rattle.motif.specs.Tables.{calls_row, Noted, level_of}
use Rattle.motif.proofs.Rowed.{in_below}
use Rattle.rounds.specs.Rounds.{earlier_of, ready_of, next_of, LevelsBut}
use Rattle.rounds.proofs.Levels.{nests, under-level}
use Rattle.rounds.proofs.Called.{ready_nests}

-- one row down
pub ready_down : (t : List ℕ) (i c j : ℕ) (b : Bool) → 0 < j → earlier_of (mark (calls_in t i) (j - 1)) (level_in t (j - 1)) c ≡ b
    → ready_of t j i c ≡ pick b (ready_of t (j - 1) i c) false
unfolding ready_of
ready_down t i c zero b h e = absurd (omega arith)
ready_down t i c (suc j) b h e =
    let z : suc j - 1 ≡ j = omega arith in
    let f : earlier_of (mark (calls_in t i) j) (level_in t j) c ≡ b = rw z at e in
    rw (z, f)

-- rows that a table keeps are those in use
pub few-most : (n : ℕ) → n ≤ 64 → few n ≡ n
unfolding few
few-most n h = by (ltb n 64) refl
  where
    by : (b : Bool) → ltb n 64 ≡ b → pick b n 64 ≡ n
    by true e = refl
    by false e = let l : 64 ≤ n = ltb-false n 64 e in omega arith

module _ (t : List ℕ) (n : ℕ) (ms : List Motif) (keeps : Keeps t n ms) (noted : Noted t n ms) (i : ℕ) (m : Motif) (r : InRow ms i m) (d : ℕ) where
  -- the levels of those that it calls are right, and so is its own
  pub next-is : ((j : ℕ) (x : Motif) → InRow ms j x → calls_row ms m.ops j ≡ true → earlier_of true (level_in t j) (suc d) ≡ nests ms d x.name)
      → level_in t i ≡ level_of ms d m.name → next_of t (few n) i (suc d) ≡ level_of ms (suc d) m.name
  unfolding next_of level_of
  next-is right own =
      let l : i < n = in_below keeps.rows r in
      let h : n ≤ 64 = keeps.most in
      let w : i < 64 = omega arith in
      rw (lt-leb 64 i w, few-most n h, own, ← ready_nests t n ms keeps noted i m r d right) (by (eqb (missing_in t i) 0) (ready_of t n i (suc d)))
    where
      by : (a b : Bool) → pick (eqb (level_of ms d m.name) 0) (pick a (pick b (suc d) 0) 0) (level_of ms d m.name)
          ≡ pick (eqb (level_of ms d m.name) 0) (pick (pick a b false) (suc d) 0) (level_of ms d m.name)
      by true b = refl
      by false b = refl

  -- so where all others have their levels already
  pub next-alone : d < 32 → level_in t i ≡ 0 → LevelsBut t ms i → calls_row ms m.ops i ≡ false → level_of ms d m.name ≡ 0 → next_of t (few n) i (suc d) ≡ level_of ms (suc d) m.name
  next-alone h own others apart none = next-is right (own ∙ sym none)
    where
      right : (j : ℕ) (x : Motif) → InRow ms j x → calls_row ms m.ops j ≡ true → earlier_of true (level_in t j) (suc d) ≡ nests ms d x.name
      right j x q c =
          let z : j ≡ i → ⊥ = λ e. clash (sym apart ∙ ap (calls_row ms m.ops) (sym e) ∙ c) in
          let k : d + (32 - d) ≡ 32 = omega arith in
          let e : level_in t j ≡ level_of ms (d + (32 - d)) x.name = others.others j x q z ∙ ap (λ y. level_of ms y x.name) (sym k) in
          rw e (under-level ms d (32 - d) x.name)

-- a level stays
pub level-stays : (ms : List Motif) (d k : ℕ) (x : Name) → eqb (level_of ms d x) 0 ≡ false → level_of ms (d + k) x ≡ level_of ms d x
unfolding level_of
level-stays ms d zero x e = let z : d + 0 ≡ d = omega arith in ap (λ y. level_of ms y x) z
level-stays ms d (suc k) x e =
    let z : d + suc k ≡ suc (d + k) = omega arith in
    let f = level-stays ms d k x e in
    ap (λ y. level_of ms y x) z ∙ rw (f, e)
