-- A row that is written has the numbers written, and the rows before it are as they were; so what the table says of the motifs held is as it was.
-- Assumes nothing.
use Prim.Native.Nat.{ℕ, zero, suc, ◌+◌, ◌-◌, ◌*◌, ◌≤◌, ◌<◌}
use mathlib.Core.Logic.{◌≢◌}
use mathlib.Core.Path.{◌≡◌, refl, ap, ◌∙◌, subst}
use mathlib.Core.Bool.{not}
use mathlib.Core.List.{List, [], ◌∷◌}
use native.Mathlib.Omega.{arith}
use lib.ListN.{length, get_or, set, length-set}
use lib.Seq.{get_or-set_same, get_or-set_other}
use lib.Dec.{eqb}
use Rattle.scope.specs.Arm.{Stroke}
use Rattle.scope.specs.Motif.{Own, Motif, Held, held_as}
use Rattle.scope.specs.Reach.{Name}
use Rattle.summary.specs.Sums.{SumsAs}
use Rattle.key.specs.Mark.{mark}
use Rattle.motif.specs.Held.{Rows, rows_none, rows_more, InRow, cell}
use Rattle.motif.specs.Tables.{Noted, Settled, SumFor, SumsUp}
use Rattle.motif.proofs.Rowed.{held-row, in_below}
use Rattle.within.specs.Judging.{Makes}
use Rattle.within.specs.declared.inside.Made.{Made}
use Rattle.adding.specs.Rowing.{written}

pub written-length : (vs t : List ℕ) (at k : ℕ) → length (written t at k vs) ≡ length t
unfolding written
written-length [] t at k = refl
written-length (v ∷ vs) t at k = written-length vs (set t (at + k) v) at (suc k) ∙ length-set t (at + k) v

-- what stands before is as it was
pub written-before : (vs t : List ℕ) (at k j : ℕ) → j < at + k → get_or (written t at k vs) j 0 ≡ get_or t j 0
unfolding written
written-before [] t at k j h = refl
written-before (v ∷ vs) t at k j h =
    let l : j < at + suc k = omega arith in
    let z : j ≢ at + k = λ y. omega arith in
    written-before vs (set t (at + k) v) at (suc k) j l ∙ get_or-set_other t (at + k) j v 0 z

-- and what stands behind
pub written_behind : (vs t : List ℕ) (at k j : ℕ) → at + k + length vs ≤ j → get_or (written t at k vs) j 0 ≡ get_or t j 0
unfolding written
written_behind [] t at k j h = refl
written_behind (v ∷ vs) t at k j h =
    let l : at + suc k + length vs ≤ j = omega arith in
    let z : j ≢ at + k = λ y. omega arith in
    written_behind vs (set t (at + k) v) at (suc k) j l ∙ get_or-set_other t (at + k) j v 0 z

-- and the numbers stand there
pub written_at : (vs t : List ℕ) (at k i : ℕ) → i < length vs → at + k + length vs ≤ length t → get_or (written t at k vs) (at + k + i) 0 ≡ get_or vs i 0
unfolding written
written_at [] t at k i h l = absurd (omega arith)
written_at (v ∷ vs) t at k zero h l =
    let e : at + k + 0 ≡ at + k = omega arith in
    let b : at + k < at + suc k = omega arith in
    let m : at + k < length t = omega arith in
    rw e (written-before vs (set t (at + k) v) at (suc k) (at + k) b ∙ get_or-set_same t (at + k) v 0 m)
written_at (v ∷ vs) t at k (suc i) h l =
    let e : at + k + suc i ≡ at + suc k + i = omega arith in
    let g : i < length vs = omega arith in
    let m : at + suc k + length vs ≤ length (set t (at + k) v) = simp length-set (omega arith) in
    rw e (written_at vs (set t (at + k) v) at (suc k) i g m)

pub row-cell : (vs t : List ℕ) (n c : ℕ) → c < length vs → n * 10 + length vs ≤ length t → cell (written t (n * 10) 0 vs) n c ≡ get_or vs c 0
row-cell vs t n c h l =
    let e : n * 10 + 0 + c ≡ n * 10 + c = omega arith in
    let m : n * 10 + 0 + length vs ≤ length t = omega arith in
    rw e at (written_at vs t (n * 10) 0 c h m)

-- the first n rows are the same in both
pub record Alike (s t : List ℕ) (n : ℕ) : Type 0 where
  pub sized : length t ≡ length s
  pub cells : (k c : ℕ) → k < n → c < 10 → cell t k c ≡ cell s k c

pub written-alike : (vs t : List ℕ) (n : ℕ) → Alike t (written t (n * 10) 0 vs) n
written-alike vs t n =
    record {
      sized = written-length vs t (n * 10) 0;
      cells = λ k c h l. let z : k * 10 + c < n * 10 + 0 = omega arith in written-before vs t (n * 10) 0 (k * 10 + c) z;
    }

-- a key is its three numbers
pub three : {a b c x y z : ℕ} → a ≡ x → b ≡ y → c ≡ z → a ∷ b ∷ c ∷ [] ≡ x ∷ y ∷ z ∷ []
three a b c = λ j. a j ∷ b j ∷ c j ∷ []

module _ {s t : List ℕ} {n : ℕ} (a : Alike s t n) where
  rows_alike : {k : ℕ} {ms : List Motif} → k ≤ n → Rows s k ms → Rows t k ms
  rows_alike l rows_none = rows_none
  rows_alike l (rows_more {n = k} {m = m} {ms = ms} p q r u e f w) =
      let h : k < n = omega arith in
      let g : k ≤ n = omega arith in
      rows_more (three (a.cells k 0 h (omega arith)) (a.cells k 1 h (omega arith)) (a.cells k 2 h (omega arith)) ∙ p) q (a.cells k 3 h (omega arith) ∙ r)
      (a.cells k 4 h (omega arith) ∙ u) e f (rows_alike g w)

  module _ {ms : List Motif} (w : Rows s n ms) where
    pub rows_same : Rows t n ms
    rows_same = let l : n ≤ n = omega arith in rows_alike l w

    -- a number of a motif's row is as it was
    cell_same : {i : ℕ} {m : Motif} (c : ℕ) → c < 10 → InRow ms i m → cell t i c ≡ cell s i c
    cell_same {i} c h r = a.cells i c (in_below w r) h

    pub noted-same : Noted s n ms → Noted t n ms
    noted-same k =
        record {
          whom = λ i j m r h. ap (λ x. mark x j) (cell_same 7 (omega arith) r) ∙ k.whom i j m r h;
          lacks = λ i m r. ap (λ x. not (eqb x 0)) (cell_same 8 (omega arith) r) ∙ k.lacks i m r;
        }

    pub settled_same : (d : ℕ) → Settled s ms d → Settled t ms d
    settled_same d k =
        record {
          level = λ i m r. cell_same 5 (omega arith) r ∙ k.level i m r;
          summed = λ i m r. rw (cell_same 6 (omega arith) r, cell_same 5 (omega arith) r) (k.summed i m r);
        }

    sums_back : (f : Name → List Stroke) → SumsUp t ms f → SumsUp s ms f
    unfolding SumsUp
    sums_back f k name = by (held_as name ms) refl (k name)
      where
        by : (x : Held) → held_as name ms ≡ x → SumFor t x (f name) → SumFor s x (f name)
        by (Held.is m) e h =
            let r = held-row name w e in
            let l : m.number - 1 < n = omega (arith, r.1, r.2) in
            subst (λ v. SumsAs v (f name)) (a.cells (m.number - 1) 6 l (omega arith)) h
        by Held.none e h = h

    pub makes-same : {made : Made} {ops : List Own} → Makes s ms made ops → Makes t ms made ops
    makes-same k = record { whom = k.whom; lacks = k.lacks; summed = λ f u d. k.summed f (sums_back f u) d }
