-- Where the motifs' bytes begin, made anew row by row: the first i rows are right, and the next bytes begin behind theirs.
-- Assumes nothing.
use Prim.Native.Nat.{ℕ, suc, ◌+◌, ◌*◌, ◌/◌, ◌%◌, ◌≤◌, ◌<◌}
use mathlib.Core.Logic.{◌≢◌}
use mathlib.Core.Path.{◌≡◌, refl, ap, ◌∙◌}
use mathlib.Core.List.{List}
use native.Mathlib.Omega.{arith}
use native.Mathlib.Numerals.{add-one}
use lib.ListN.{length, get_or, set, length-set}
use lib.Seq.{get_or-set_same, get_or-set_other}
use Rattle.scope.specs.Motif.{Motif, bytes_held}
use Rattle.motif.specs.Sorted.{Sorted}
use Rattle.motif.specs.Held.{Rows, rows_none, rows_more, key_in, long_in, order_in}
use Rattle.motif.proofs.Sorting.{sorted-alike}
use Rattle.holding.specs.Laid.{Named, named_none, named_more, Laid}
use Rattle.adding.proofs.Cells.{three}

pub laid_none : (t : List ℕ) → Laid t t 0 0
unfolding bytes_held
laid_none t = record { sized = refl; beside = λ k c h l. refl; rows = first }
  where
    first : (ms : List Motif) → length t ≡ 704 → Named t 0 ms → bytes_held ms ≤ 16384 → Rows t 0 ms × (0 ≡ bytes_held ms)
    first ms s named_none l = (rows_none, refl)

-- START of row i changes nothing of the rows below
rows-below : {t : List ℕ} {n : ℕ} {ms : List Motif} (i v : ℕ) → n ≤ i → Rows t n ms → Rows (set t (i * 10 + 3) v) n ms
rows-below i v l rows_none = rows_none
rows-below {t} i v l (rows_more {n = n} p q r s e f k) =
    let h : n ≤ i = omega arith in
    rows_more (three (other 0 (omega arith)) (other 1 (omega arith)) (other 2 (omega arith)) ∙ p) q (other 3 (omega arith) ∙ r) (other 4 (omega arith) ∙ s) e f (rows-below i v h k)
  where
    other : (c : ℕ) → c < 10 → get_or (set t (i * 10 + 3) v) (n * 10 + c) 0 ≡ get_or t (n * 10 + c) 0
    other c w = let z : n * 10 + c ≢ i * 10 + 3 = λ y. omega arith in get_or-set_other t (i * 10 + 3) (n * 10 + c) v 0 z

module _ (before t : List ℕ) (i start long : ℕ) (small : i < 64) (k : Laid before t i start) (e : long_in t i ≤ 16384 → long ≡ long_in t i) where
  -- other numbers stay
  other : (n c : ℕ) → c < 10 → (c ≡ 3 → suc i ≤ n) → get_or (set t (i * 10 + 3) start) (n * 10 + c) 0 ≡ get_or before (n * 10 + c) 0
  other n c h l =
      let z : n * 10 + c ≢ i * 10 + 3 = λ y. let q : c ≡ 3 = omega arith in omega (arith, l q) in
      get_or-set_other t (i * 10 + 3) (n * 10 + c) start 0 z ∙ k.beside n c h (λ q. omega (arith, l q))

  more : (ms : List Motif) → length before ≡ 704 → Named before (suc i) ms → bytes_held ms ≤ 16384 → Rows (set t (i * 10 + 3) start) (suc i) ms × (start + long ≡ bytes_held ms)
  unfolding bytes_held
  more ms s (named_more {m = m} {ms = xs} a b d f g w) l =
      let r = k.rows xs s w (omega arith) in
      let y : long_in t i ≡ length m.bytes = k.beside i 4 (omega arith) (λ z. absurd (omega arith)) ∙ d in
      let v : long ≡ long_in t i = e (omega arith) in
      let size : i * 10 + 3 < length t = let q = k.sized in omega arith in
      let n : i ≤ i = omega arith in (
        rows_more (three (other i 0 (omega arith) (λ z. absurd (omega arith))) (other i 1 (omega arith) (λ z. absurd (omega arith))) (other i 2 (omega arith) (λ z. absurd (omega arith))) ∙ a) b
            (get_or-set_same t (i * 10 + 3) start 0 size ∙ r.1) (other i 4 (omega arith) (λ z. absurd (omega arith)) ∙ d) f g (rows-below i start n r.0),
        omega (arith, r.1),
      )

  pub laid_more : Laid before (set t (i * 10 + 3) start) (i + 1) (start + long)
  laid_more = rw add-one (record { sized = simp length-set k.sized; beside = other; rows = more })

-- names and column are as they were, and so is the order
pub laid-sorted : {n : ℕ} (before t : List ℕ) (i start : ℕ) → i ≤ 64 → Laid before t i start → Sorted (key_in before) (order_in before) n → Sorted (key_in t) (order_in t) n
laid-sorted before t i start h k =
    sorted-alike (λ j l. three (k.beside j 0 (omega arith) (λ z. absurd (omega arith))) (k.beside j 1 (omega arith) (λ z. absurd (omega arith))) (k.beside j 2 (omega arith) (λ z. absurd (omega arith))))
    (λ j l. ap (λ x. x % 64) (column j))
  where
    column : (j : ℕ) → get_or t (640 + j) 0 ≡ get_or before (640 + j) 0
    column j =
        let e : (64 + j / 10) * 10 + j % 10 ≡ 640 + j = omega arith in
        let l : j % 10 < 10 = omega arith in
        rw e at (k.beside (64 + j / 10) (j % 10) l (λ z. omega arith))
