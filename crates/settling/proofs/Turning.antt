-- A motif's turn in a round. The motifs before it have their levels after this round, those behind it their levels from before; a level of this very round is not an
-- earlier one, so of both kinds those with an earlier level are those that nest within the rounds before.
-- Assumes nothing.
use Prim.Native.Nat.{ℕ, suc, ◌+◌, ◌*◌, ◌≤◌, ◌<◌}
use mathlib.Core.Path.{◌≡◌, refl, sym, ap, ◌∙◌}
use mathlib.Core.Bool.{Bool, true, false}
use mathlib.Core.List.{List}
use native.Mathlib.Omega.{arith}
use lib.ListN.{length, set, length-set}
use lib.Dec.{eqb, ltb}
use borrow.Author.Tests.{ltb-true, ltb-false, eqb-true, eqb-false}
use Rattle.scope.specs.Choice.{pick}
use Rattle.scope.specs.Arm.{Stroke}
use Rattle.scope.specs.Motif.{Motif}
use Rattle.scope.specs.Calls.{flat}
use Rattle.scope.specs.Reach.{Name}
use Rattle.scope.proofs.Graph.{clash}
use Rattle.summary.specs.Sums.{SumsAs}
use Rattle.motif.specs.Search.{few}
use Rattle.motif.specs.Held.{InRow, cell, level_in, sum_in}
use Rattle.motif.specs.Tables.{level_of, settled_row, Tables, SumsUp}
use Rattle.motif.proofs.Rowed.{in_below, keeps-beside}
use Rattle.rounds.specs.Rounds.{earlier_of, next_of}
use Rattle.rounds.proofs.Levels.{nests, level-none, under-level}
use Rattle.rounds.proofs.Rounded.{next-is, level-stays}
use Rattle.settling.specs.Making.{Rounded, Turned}
use Rattle.settling.proofs.Cells.{cell-there, cell_row, cell-column}
use Rattle.settling.proofs.Summing.{summed_row, sums_up, row-unfolds}

-- row i with its level and its summary
abbrev pub turned : (t : List ℕ) → (i level sum : ℕ) → List ℕ
turned t i level sum = set (set t (i * 10 + 5) level) (i * 10 + 6) sum

-- an earlier level is one
some_level : (level c : ℕ) → earlier_of true level c ≡ true → eqb level 0 ≡ false
unfolding earlier_of
some_level level c e = by (eqb level 0) e
  where
    by : (b : Bool) → pick b false (ltb level c) ≡ true → b ≡ false
    by true e = clash e
    by false e = refl

module _ (t : List ℕ) (i level sum : ℕ) where
  -- the first of the two stores
  abbrev one : List ℕ
  one = set t (i * 10 + 5) level

  -- other rows and columns are as they were
  other_row : (k c : ℕ) → (k ≡ i → ⊥) → c < 10 → cell (turned t i level sum) k c ≡ cell t k c
  other_row k c h l = cell_row one i 6 sum k c h (omega arith) l ∙ cell_row t i 5 level k c h (omega arith) l

  other-column : (k c : ℕ) → 6 < c → c < 10 → cell (turned t i level sum) k c ≡ cell t k c
  other-column k c h l = cell-column one i 6 sum k c (λ y. omega arith) (omega arith) l ∙ cell-column t i 5 level k c (λ y. omega arith) (omega arith) l

  module _ (l : length t ≡ 704) (h : i < 64) where
    -- and the row has what was stored
    its_level : level_in (turned t i level sum) i ≡ level
    its_level = cell-column one i 6 sum i 5 (λ y. omega arith) (omega arith) (omega arith) ∙ cell-there t i 5 level l h (omega arith)

    its_sum : sum_in (turned t i level sum) i ≡ sum
    its_sum = cell-there one i 6 sum (simp length-set l) h (omega arith)

module _ (t : List ℕ) (n : ℕ) (ms : List Motif) (d i : ℕ) (w : Turned t n ms d i) where
  -- in the midst of the round, a level of an earlier round
  right : (j : ℕ) (x : Motif) → InRow ms j x → earlier_of true (level_in t j) (suc d) ≡ nests ms d x.name
  right j x r = by (ltb j i) refl
    where
      by : (b : Bool) → ltb j i ≡ b → earlier_of true (level_in t j) (suc d) ≡ nests ms d x.name
      by true e =
          let z : d + 1 ≡ suc d = omega arith in
          rw (w.done j x r (ltb-true j i e)) (rw z at (under-level ms d 1 x.name))
      by false e =
          let z : d + 0 ≡ d = omega arith in
          rw (w.todo j x r (ltb-false j i e)) (rw z at (under-level ms d 0 x.name))

  module _ (level sum : ℕ) (small : d < 32) (h : i < 64) (next : level ≡ next_of t (few n) i (suc d))
      (kept : (level_in t i ≡ 0 → ⊥) → sum ≡ sum_in t i) (none : level ≡ 0 → sum ≡ sum_in t i)
      (made : (m : Motif) → InRow ms i m → level_in t i ≡ 0 → (level ≡ 0 → ⊥) → (f : Name → List Stroke) → SumsUp t ms f → (k : ℕ) → SumsAs sum (flat f k m.ops)) where
    -- it gets the level that it has after this round
    new-level : (m : Motif) → InRow ms i m → level ≡ level_of ms (suc d) m.name
    new-level m r = let l : i ≤ i = omega arith in next ∙ next-is t n ms w.keeps w.noted i m r d (λ j x q c. right j x q) (w.todo i m r l)

    -- one that had its level keeps it
    same-level : (m : Motif) → InRow ms i m → eqb (level_in t i) 0 ≡ false → level ≡ level_in t i
    same-level m r e =
        let l : i ≤ i = omega arith in
        let z : d + 1 ≡ suc d = omega arith in
        let f = w.todo i m r l in
        new-level m r ∙ ap (λ y. level_of ms y m.name) (sym z) ∙ level-stays ms d 1 m.name (ap (λ y. eqb y 0) (sym f) ∙ e) ∙ sym f

    -- one that has a level now nests within this round
    nests-now : (m : Motif) → InRow ms i m → (level ≡ 0 → ⊥) → nests ms (suc d) m.name ≡ true
    nests-now m r z = by (nests ms (suc d) m.name) refl
      where
        by : (b : Bool) → nests ms (suc d) m.name ≡ b → b ≡ true
        by true e = refl
        by false e = absurd (z (new-level m r ∙ eqb-true (level_of ms (suc d) m.name) 0 (level-none ms (suc d) m.name e)))

    -- what its summary sums up now
    sum-now : (m : Motif) → InRow ms i m → (b : Bool) → eqb (level_in t i) 0 ≡ b → (c : Bool) → eqb level 0 ≡ c → SumsAs sum (settled_row ms level m.name)
    unfolding settled_row
    sum-now m r false e c f = rw (kept (eqb-false (level_in t i) 0 e), same-level m r e) (w.summed i m r)
    sum-now m r true e true f =
        let z : level ≡ level_in t i = eqb-true level 0 f ∙ sym (eqb-true (level_in t i) 0 e) in
        rw (none (eqb-true level 0 f), z) (w.summed i m r)
    sum-now m r true e false f =
        let z : level ≡ 0 → ⊥ = eqb-false level 0 f in
        let u = row-unfolds t n ms w.keeps d small (λ k x q y. some_level (level_in t k) (suc d) (right k x q ∙ y)) i m r (nests-now m r z) in
        rw (f, ← u) (made m r (eqb-true (level_in t i) 0 e) z (summed_row t ms) (sums_up t n ms w.keeps w.summed) m.number)

    -- one turn more
    pub turned_more : Turned (turned t i level sum) n ms d (i + 1)
    turned_more =
        record {
          keeps = keeps-beside i 6 sum h (omega arith) (omega arith) (keeps-beside i 5 level h (omega arith) (omega arith) w.keeps);
          noted = record {
            whom = λ k j m r l. rw (other-column t i level sum k 7 (omega arith) (omega arith)) (w.noted.whom k j m r l);
            lacks = λ k m r. rw (other-column t i level sum k 8 (omega arith) (omega arith)) (w.noted.lacks k m r);
          };
          done = λ k m r l. done_at k m r l (eqb k i) refl;
          todo = λ k m r l. let z : k ≡ i → ⊥ = λ y. omega arith in let q : i ≤ k = omega arith in other_row t i level sum k 5 z (omega arith) ∙ w.todo k m r q;
          summed = λ k m r. sum-at k m r (eqb k i) refl;
        }
      where
        done_at : (k : ℕ) (m : Motif) → InRow ms k m → k < i + 1 → (b : Bool) → eqb k i ≡ b → level_in (turned t i level sum) k ≡ level_of ms (suc d) m.name
        done_at k m r l true e =
            let z : k ≡ i = eqb-true k i e in
            let u : InRow ms i m = rw z at r in
            rw z (its_level t i level sum w.keeps.sized h ∙ new-level m u)
        done_at k m r l false e =
            let z : k ≡ i → ⊥ = eqb-false k i e in
            let q : k < i = omega arith in
            other_row t i level sum k 5 z (omega arith) ∙ w.done k m r q

        sum-at : (k : ℕ) (m : Motif) → InRow ms k m → (b : Bool) → eqb k i ≡ b → SumsAs (sum_in (turned t i level sum) k) (settled_row ms (level_in (turned t i level sum) k) m.name)
        sum-at k m r true e =
            let z : k ≡ i = eqb-true k i e in
            let u : InRow ms i m = rw z at r in
            rw (z, its_level t i level sum w.keeps.sized h, its_sum t i level sum w.keeps.sized h) (sum-now m u (eqb (level_in t i) 0) refl (eqb level 0) refl)
        sum-at k m r false e =
            let z : k ≡ i → ⊥ = eqb-false k i e in
            rw (other_row t i level sum k 5 z (omega arith), other_row t i level sum k 6 z (omega arith)) (w.summed k m r)

-- after the last turn
pub turned-all : (t : List ℕ) (n : ℕ) (ms : List Motif) (d : ℕ) → Turned t n ms d n → Rounded t n ms (suc d)
turned-all t n ms d w =
    record {
      keeps = w.keeps;
      noted = w.noted;
      settled = record { level = λ k m r. w.done k m r (in_below w.keeps.rows r); summed = w.summed };
    }

-- after 32 rounds the table is made
pub made : {t : List ℕ} {n : ℕ} {ms : List Motif} → Rounded t n ms 32 → Tables t n ms
made w = record { keeps = w.keeps; noted = w.noted; settled = w.settled }
