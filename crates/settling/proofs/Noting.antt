-- A row is noted: four numbers of it are stored, and no other row changes. When all rows are noted, no round is done yet.
-- Assumes nothing.
use Prim.Native.Nat.{ℕ, ◌+◌, ◌*◌, ◌<◌}
use mathlib.Core.Path.{◌≡◌, refl, ◌∙◌}
use mathlib.Core.Bool.{Bool, true, false, not}
use mathlib.Core.List.{List}
use native.Mathlib.Omega.{arith}
use lib.ListN.{length, set, length-set}
use lib.Dec.{eqb}
use borrow.Author.Tests.{eqb-true, eqb-false}
use Rattle.scope.specs.Motif.{Motif}
use Rattle.summary.specs.Sums.{SumsAs}
use Rattle.summary.proofs.Empty.{empty-sums}
use Rattle.key.specs.Mark.{mark}
use Rattle.motif.specs.Held.{InRow, cell, level_in, sum_in, calls_in, missing_in}
use Rattle.motif.specs.Tables.{calls_row, lacks_one, level_of, settled_row}
use Rattle.motif.proofs.Rowed.{in_below, keeps-beside}
use Rattle.settling.specs.Making.{NotedTo, Rounded}
use Rattle.settling.proofs.Cells.{cell-there, cell_row, cell-column}

-- row i with no level, nothing that it comes to, whom it calls and whether it misses a name
abbrev pub noted : (t : List ℕ) → (i calls missing : ℕ) → List ℕ
noted t i calls missing = set (set (set (set t (i * 10 + 5) 0) (i * 10 + 6) 48) (i * 10 + 7) calls) (i * 10 + 8) missing

module _ (t : List ℕ) (i calls missing : ℕ) where
  -- the table after the first three of the four stores
  abbrev one : List ℕ
  one = set t (i * 10 + 5) 0

  abbrev two : List ℕ
  two = set (set t (i * 10 + 5) 0) (i * 10 + 6) 48

  abbrev three : List ℕ
  three = set (set (set t (i * 10 + 5) 0) (i * 10 + 6) 48) (i * 10 + 7) calls

  -- other rows are as they were
  other : (k c : ℕ) → (k ≡ i → ⊥) → c < 10 → cell (noted t i calls missing) k c ≡ cell t k c
  other k c h l =
      cell_row three i 8 missing k c h (omega arith) l ∙ cell_row two i 7 calls k c h (omega arith) l ∙ cell_row one i 6 48 k c h (omega arith) l
      ∙ cell_row t i 5 0 k c h (omega arith) l

  module _ (l : length t ≡ 704) (h : i < 64) where
    -- and the row has what was stored
    its_level : level_in (noted t i calls missing) i ≡ 0
    its_level =
        cell-column three i 8 missing i 5 (λ y. omega arith) (omega arith) (omega arith) ∙ cell-column two i 7 calls i 5 (λ y. omega arith) (omega arith) (omega arith)
        ∙ cell-column one i 6 48 i 5 (λ y. omega arith) (omega arith) (omega arith) ∙ cell-there t i 5 0 l h (omega arith)

    its_sum : sum_in (noted t i calls missing) i ≡ 48
    its_sum =
        cell-column three i 8 missing i 6 (λ y. omega arith) (omega arith) (omega arith) ∙ cell-column two i 7 calls i 6 (λ y. omega arith) (omega arith) (omega arith)
        ∙ cell-there one i 6 48 (simp length-set l) h (omega arith)

    its_calls : calls_in (noted t i calls missing) i ≡ calls
    its_calls = cell-column three i 8 missing i 7 (λ y. omega arith) (omega arith) (omega arith) ∙ cell-there two i 7 calls (simp length-set l) h (omega arith)

    its_missing : missing_in (noted t i calls missing) i ≡ missing
    its_missing = cell-there three i 8 missing (simp length-set l) h (omega arith)

-- one row more
pub noted_more : (t : List ℕ) (n : ℕ) (ms : List Motif) (i calls missing : ℕ) → i < 64 → NotedTo t n ms i
    → ((m : Motif) → InRow ms i m → (j : ℕ) → j < 64 → mark calls j ≡ calls_row ms m.ops j) → ((m : Motif) → InRow ms i m → not (eqb missing 0) ≡ lacks_one ms m.ops)
    → NotedTo (noted t i calls missing) n ms (i + 1)
noted_more t n ms i calls missing h w whom lacks =
    record {
      keeps = keeps-beside i 8 missing h (omega arith) (omega arith)
          (keeps-beside i 7 calls h (omega arith) (omega arith) (keeps-beside i 6 48 h (omega arith) (omega arith) (keeps-beside i 5 0 h (omega arith) (omega arith) w.keeps)));
      whom = λ k j m r l q. whom-at k j m r l q (eqb k i) refl;
      lacks = λ k m r l. lacks-at k m r l (eqb k i) refl;
      unsettled = λ k m r l. level-at k m r l (eqb k i) refl;
      empty = λ k m r l. sum-at k m r l (eqb k i) refl;
    }
  where
    s : length t ≡ 704
    s = w.keeps.sized

    below : (k : ℕ) → k < i + 1 → eqb k i ≡ false → k < i
    below k l e = omega (arith, eqb-false k i e)

    whom-at : (k j : ℕ) (m : Motif) → InRow ms k m → k < i + 1 → j < n → (x : Bool) → eqb k i ≡ x → mark (calls_in (noted t i calls missing) k) j ≡ calls_row ms m.ops j
    whom-at k j m r l q true e =
        let z : k ≡ i = eqb-true k i e in
        let u : InRow ms i m = rw z at r in
        let v : j < 64 = omega (arith, w.keeps.most) in
        rw (z, its_calls t i calls missing s h) (whom m u j v)
    whom-at k j m r l q false e = rw (other t i calls missing k 7 (eqb-false k i e) (omega arith)) (w.whom k j m r (below k l e) q)

    lacks-at : (k : ℕ) (m : Motif) → InRow ms k m → k < i + 1 → (x : Bool) → eqb k i ≡ x → not (eqb (missing_in (noted t i calls missing) k) 0) ≡ lacks_one ms m.ops
    lacks-at k m r l true e =
        let z : k ≡ i = eqb-true k i e in
        let u : InRow ms i m = rw z at r in
        rw (z, its_missing t i calls missing s h) (lacks m u)
    lacks-at k m r l false e = rw (other t i calls missing k 8 (eqb-false k i e) (omega arith)) (w.lacks k m r (below k l e))

    level-at : (k : ℕ) (m : Motif) → InRow ms k m → k < i + 1 → (x : Bool) → eqb k i ≡ x → level_in (noted t i calls missing) k ≡ 0
    level-at k m r l true e = rw (eqb-true k i e) (its_level t i calls missing s h)
    level-at k m r l false e = other t i calls missing k 5 (eqb-false k i e) (omega arith) ∙ w.unsettled k m r (below k l e)

    sum-at : (k : ℕ) (m : Motif) → InRow ms k m → k < i + 1 → (x : Bool) → eqb k i ≡ x → sum_in (noted t i calls missing) k ≡ 48
    sum-at k m r l true e = rw (eqb-true k i e) (its_sum t i calls missing s h)
    sum-at k m r l false e = other t i calls missing k 6 (eqb-false k i e) (omega arith) ∙ w.empty k m r (below k l e)

-- when all are, no round is done
pub noted-all : (t : List ℕ) (n : ℕ) (ms : List Motif) → NotedTo t n ms n → Rounded t n ms 0
unfolding level_of settled_row
noted-all t n ms w =
    record {
      keeps = w.keeps;
      noted = record { whom = λ i j m r l. w.whom i j m r (in_below w.keeps.rows r) l; lacks = λ i m r. w.lacks i m r (in_below w.keeps.rows r) };
      settled = record { level = λ i m r. w.unsettled i m r (in_below w.keeps.rows r); summed = summed_at };
    }
  where
    summed_at : (i : ℕ) (m : Motif) → InRow ms i m → SumsAs (sum_in t i) (settled_row ms (level_in t i) m.name)
    summed_at i m r =
        let l = in_below w.keeps.rows r in
        rw (w.unsettled i m r l, w.empty i m r l) empty-sums
