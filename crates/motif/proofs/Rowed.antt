-- Laws of the rows that keep the held motifs: each row is that of one motif, and each motif has one row; numbers of the columns behind the first five may change,
-- and leave the order of names as it was.
-- Assumes nothing.
use Prim.Native.Nat.{ℕ, suc, ◌+◌, ◌-◌, ◌*◌, ◌%◌, ◌≤◌, ◌<◌}
use mathlib.Core.Logic.{◌≢◌}
use mathlib.Core.Path.{◌≡◌, refl, sym, ap, ◌∙◌}
use mathlib.Core.Bool.{Bool, true, false}
use mathlib.Core.List.{List, [], ◌∷◌}
use native.Mathlib.Omega.{arith}
use lib.ListN.{length, get_or, set, length-set}
use lib.Seq.{get_or-set_other}
use lib.Dec.{eqb}
use borrow.Author.Tests.{eqb-true, eqb-false}
use Rattle.scope.specs.Choice.{same}
use Rattle.scope.specs.Motif.{Motif, Held, held_as}
use Rattle.scope.proofs.Apart.{same_refl, same-eq}
use Rattle.motif.specs.Sorted.{Sorted}
use Rattle.motif.specs.Held.{Rows, rows_none, rows_more, Keeps, InRow, key_in, order_in}
use Rattle.motif.proofs.Sorting.{sorted_none, sorted-alike}

-- which motif is held, if any
abbrev held_or : Motif → Held → Motif
held_or d (Held.is m) = m
held_or d Held.none = d

abbrev is_one : Held → ℕ
is_one (Held.is m) = 1
is_one Held.none = 0

pub is_same : {a b : Motif} → Held.is a ≡ Held.is b → a ≡ b
is_same {a} {b} e = ap (held_or a) e

pub none_is : {A : Type 0} {m : Motif} → Held.none ≡ Held.is m → A
none_is e = absurd (let z : ◌≡◌ {A = ℕ} 0 1 = ap is_one e in omega arith)

module _ (m : Motif) (ms : List Motif) (name : List ℕ) where
  pub held-here : same m.name name ≡ true → held_as name (m ∷ ms) ≡ Held.is m
  unfolding held_as
  held-here t = rw (held_as, t)

  pub held_on : same m.name name ≡ false → held_as name (m ∷ ms) ≡ held_as name ms
  unfolding held_as
  held_on t = rw (held_as, t)

-- the first of the motifs is held under its name
pub held_first : (m : Motif) (ms : List Motif) → held_as m.name (m ∷ ms) ≡ Held.is m
held_first m ms = held-here m ms m.name (same_refl m.name)

-- as many motifs as rows
pub rows-length : {t : List ℕ} {n : ℕ} {ms : List Motif} → Rows t n ms → length ms ≡ n
rows-length rows_none = refl
rows-length (rows_more a b c d e f k) = ap suc (rows-length k)

-- a motif that is held has a number from 1 to n, and is held under its own name
pub held-row : {t : List ℕ} {n : ℕ} {ms : List Motif} {m : Motif} (name : List ℕ) → Rows t n ms → held_as name ms ≡ Held.is m
    → (m.name ≡ name) × (m.number ≤ n) × (0 < m.number)
unfolding held_as
held-row name rows_none h = none_is h
held-row {n = suc n} {m = m} name (rows_more {m = x} {ms = xs} a b c d e f k) h = by (same x.name name) refl (λ y. held-row name k y)
  where
    by : (t : Bool) → same x.name name ≡ t → (held_as name xs ≡ Held.is m → (m.name ≡ name) × (m.number ≤ n) × (0 < m.number))
        → (m.name ≡ name) × (m.number ≤ suc n) × (0 < m.number)
    by true t ih =
        let z : x ≡ m = is_same (sym (held-here x xs name t) ∙ h) in
        rw (← z) (same-eq x.name name t, omega arith, omega arith)
    by false t ih = let r = ih (sym (held_on x xs name t) ∙ h) in (r.0, omega (arith, r.1), r.2)

pub held_in : {t : List ℕ} {n : ℕ} {ms : List Motif} {m : Motif} (name : List ℕ) → Rows t n ms → held_as name ms ≡ Held.is m → InRow ms (m.number - 1) m
held_in {ms = ms} name k h = let r = held-row name k h in record { held = ap (λ x. held_as x ms) r.0 ∙ h; row = omega (arith, r.2) }

pub in_below : {t : List ℕ} {n i : ℕ} {ms : List Motif} {m : Motif} → Rows t n ms → InRow ms i m → i < n
in_below {m = m} k r = let z = held-row m.name k r.held in omega (arith, r.row, z.1)

-- a motif held before another one, whose name is new, is held still
module _ (x : Motif) (xs : List Motif) (new : held_as x.name xs ≡ Held.none) where
  pub still-held : {m : Motif} (name : List ℕ) → held_as name xs ≡ Held.is m → held_as name (x ∷ xs) ≡ Held.is m
  still-held {m} name h = by (same x.name name) refl
    where
      by : (b : Bool) → same x.name name ≡ b → held_as name (x ∷ xs) ≡ Held.is m
      by true b = none_is (sym new ∙ ap (λ l. held_as l xs) (same-eq x.name name b) ∙ h)
      by false b = held_on x xs name b ∙ h

-- every row has its motif
pub row-held : {t : List ℕ} {n : ℕ} {ms : List Motif} → Rows t n ms → (i : ℕ) → i < n → (m : Motif) × InRow ms i m
row-held rows_none i h = absurd (omega arith)
row-held {t} {n = suc n} (rows_more {m = x} {ms = xs} a b c d e f k) i h = by (eqb i n) refl (λ w. row-held k i w)
  where
    by : (q : Bool) → eqb i n ≡ q → (i < n → (m : Motif) × InRow xs i m) → (m : Motif) × InRow (x ∷ xs) i m
    by true q ih = (x, record { held = held_first x xs; row = e ∙ ap suc (sym (eqb-true i n q)) })
    by false q ih =
        let z : i < n = omega (arith, eqb-false i n q) in
        let r = ih z in
        (r.0, record { held = still-held x xs f r.0.name r.1.held; row = r.1.row })

-- and only one
pub row_one : {t : List ℕ} {n i : ℕ} {ms : List Motif} {a b : Motif} → Rows t n ms → InRow ms i a → InRow ms i b → a ≡ b
unfolding held_as
row_one rows_none a b = none_is a.held
row_one {t} {n = suc n} {i = i} {a = a} {b = b} (rows_more {m = x} {ms = xs} p q r s e f k) u v = by (same x.name a.name) (same x.name b.name) refl refl (λ y z. row_one k y z)
  where
    under : (m : Motif) → InRow (x ∷ xs) i m → same x.name m.name ≡ false → InRow xs i m
    under m w z = record { held = sym (held_on x xs m.name z) ∙ w.held; row = w.row }

    top : (m : Motif) → InRow (x ∷ xs) i m → same x.name m.name ≡ true → x ≡ m
    top m w z = is_same (sym (held-here x xs m.name z) ∙ w.held)

    high : (m l : Motif) → InRow (x ∷ xs) i m → same x.name m.name ≡ true → InRow (x ∷ xs) i l → same x.name l.name ≡ false → ⊥
    high m l w z y o =
        let below = in_below k (under l y o) in
        let same-x : x.number ≡ suc i = ap (λ (c : Motif). c.number) (top m w z) ∙ w.row in
        omega (arith, below, same-x, e)

    by : (c d : Bool) → same x.name a.name ≡ c → same x.name b.name ≡ d → (InRow xs i a → InRow xs i b → a ≡ b) → a ≡ b
    by true true c d ih = sym (top a u c) ∙ top b v d
    by true false c d ih = absurd (high a b u c v d)
    by false true c d ih = absurd (high b a v d u c)
    by false false c d ih = ih (under a u c) (under b v d)

-- a number of a row that is not of its name changes nothing of the order
pub sorted-beside : (t : List ℕ) {n : ℕ} (i k v : ℕ) → i < 64 → 3 ≤ k → k < 10 → Sorted (key_in t) (order_in t) n → Sorted (key_in (set t (i * 10 + k) v)) (order_in (set t (i * 10 + k) v)) n
sorted-beside t i k v q l h s = sorted-alike (λ j w. λ x. other j 0 (omega arith) x ∷ other j 1 (omega arith) x ∷ other j 2 (omega arith) x ∷ []) (λ j w. ap (λ x. x % 64) (column j)) s
  where
    other : (j c : ℕ) → c < 3 → get_or (set t (i * 10 + k) v) (j * 10 + c) 0 ≡ get_or t (j * 10 + c) 0
    other j c w = let z : j * 10 + c ≢ i * 10 + k = λ y. omega arith in get_or-set_other t (i * 10 + k) (j * 10 + c) v 0 z

    column : (j : ℕ) → get_or (set t (i * 10 + k) v) (640 + j) 0 ≡ get_or t (640 + j) 0
    column j = let z : 640 + j ≢ i * 10 + k = λ y. omega arith in get_or-set_other t (i * 10 + k) (640 + j) v 0 z

-- a number of a column behind the first five may change
pub rows-beside : {t : List ℕ} {n : ℕ} {ms : List Motif} (i k v : ℕ) → 5 ≤ k → k < 10 → Rows t n ms → Rows (set t (i * 10 + k) v) n ms
rows-beside i k v l h rows_none = rows_none
rows-beside {t} i k v l h (rows_more {n = n} {m = m} {ms = ms} p q r s e f u) =
    rows_more (ap3 (other 0 (omega arith)) (other 1 (omega arith)) (other 2 (omega arith)) ∙ p) q (other 3 (omega arith) ∙ r) (other 4 (omega arith) ∙ s) e f (rows-beside i k v l h u)
  where
    other : (c : ℕ) → c < 5 → get_or (set t (i * 10 + k) v) (n * 10 + c) 0 ≡ get_or t (n * 10 + c) 0
    other c w = let z : n * 10 + c ≢ i * 10 + k = λ y. omega arith in get_or-set_other t (i * 10 + k) (n * 10 + c) v 0 z

    ap3 : {a b c x y z : ℕ} → a ≡ x → b ≡ y → c ≡ z → a ∷ b ∷ c ∷ [] ≡ x ∷ y ∷ z ∷ []
    ap3 a b c = λ j. a j ∷ b j ∷ c j ∷ []

-- and the column is as it was
pub keeps-beside : {t : List ℕ} {n : ℕ} {ms : List Motif} (i k v : ℕ) → i < 64 → 5 ≤ k → k < 10 → Keeps t n ms → Keeps (set t (i * 10 + k) v) n ms
keeps-beside {t} i k v q l h s =
    record { sized = simp length-set s.sized; most = s.most; rows = rows-beside i k v l h s.rows; sorted = sorted-beside t i k v q (omega arith) h s.sorted }

-- no motif is held
pub keeps-none : (t : List ℕ) → length t ≡ 704 → Keeps t 0 []
keeps-none t h = record { sized = h; most = omega arith; rows = rows_none; sorted = sorted_none (key_in t) (order_in t) }
