-- The search of a name by halving finds the row of the motif that is held under it: the keys of two names are the same where the names are, and in a sorted column
-- a name that is there stands at the first place whose name is not before it.
-- Assumes nothing.
use Prim.Native.Nat.{ℕ, ◌+◌, ◌-◌, ◌*◌, ◌≤◌, ◌<◌}
use mathlib.Core.Path.{◌≡◌, refl, sym, ap, ◌∙◌}
use mathlib.Core.Bool.{Bool, true, false}
use mathlib.Core.List.{List, [], ◌∷◌}
use native.Mathlib.Omega.{arith}
use native.Mathlib.Nat.{add-zero, mod-lt}
use lib.ListN.{get_or}
use lib.Dec.{eqb, ltb}
use borrow.Author.Tests.{lt-ltb, le-ltb, ltb-true, ltb-false}
use Rattle.scope.specs.Choice.{pick, same}
use Rattle.scope.specs.Motif.{Motif, Held, held_as}
use Rattle.scope.proofs.Apart.{same_refl, same-eq, clash-of}
use Rattle.scope.proofs.Ends.{pick_all}
use Rattle.key.specs.Keys.{key_of}
use Rattle.key.proofs.Packs.{Bytes, key-eq}
use Rattle.motif.specs.Before.{before}
use Rattle.motif.specs.Held.{Keeps, InRow, Finds, finds_at, finds_none, cell, key_in, order_in}
use Rattle.motif.specs.Search.{place_of, row_at, find_in, Row}
use Rattle.std.specs.Bool.{then_some}
use Rattle.std.specs.Prelude.{Option, Some, None}
use Rattle.motif.proofs.Ordered.{Three, lower, level, higher, three, not-before}
use Rattle.motif.proofs.Halves.{First, place_first}
use Rattle.motif.proofs.Rowed.{held-row, held_in, in_below, row-held}
use Rattle.motif.proofs.Stored.{row-key, row-name}

-- three numbers are the same as three others, one after the other
same-three : (a b c x y z : ℕ) → same (a ∷ b ∷ c ∷ []) (x ∷ y ∷ z ∷ []) ≡ pick (eqb c z) (pick (eqb a x) (eqb b y) false) false
unfolding same
same-three a b c x y z = by (eqb a x) (eqb b y) (eqb c z)
  where
    by : (s t u : Bool) → elim s [ true ↦ elim t [ true ↦ elim u [ true ↦ true | false ↦ false ] | false ↦ false ] | false ↦ false ] ≡ pick u (pick s t false) false
    by true true true = refl
    by true true false = refl
    by true false true = refl
    by true false false = refl
    by false true true = refl
    by false true false = refl
    by false false true = refl
    by false false false = refl

-- row i is that of a key
pub same_row : (t : List ℕ) (i a b c : ℕ)
    → same (key_in t i) (a ∷ b ∷ c ∷ []) ≡ pick (eqb (get_or t (i * 10 + 2) 0) c) (pick (eqb (get_or t (i * 10) 0) a) (eqb (get_or t (i * 10 + 1) 0) b) false) false
same_row t i a b c =
    same-three (cell t i 0) (cell t i 1) (cell t i 2) a b c
    ∙ ap (λ (k : ℕ). pick (eqb (cell t i 2) c) (pick (eqb (get_or t k 0) a) (eqb (cell t i 1) b) false) false) (add-zero (i * 10))

-- a row of the column is one of 64
pub order_row : (t : List ℕ) (p : ℕ) → order_in t p < 64
order_row t p = mod-lt (get_or t (640 + p) 0) (omega arith)

find_row : (t key : List ℕ) (n : ℕ) → Row (find_in t key n)
unfolding find_in row_at
find_row t key n =
    pick_all Row (ltb (place_of t key n) n) (λ _. pick_all Row (same (key_in t (order_in t (place_of t key n))) key) (λ _. order_row t (place_of t key n)) (λ _. tt)) (λ _. tt)

-- the search, by what stands at the place that was come to
module _ (t key : List ℕ) (n p : ℕ) (e : p ≡ place_of t key n) where
  pub find_over : n ≤ p → None ≡ find_in t key n
  unfolding find_in row_at
  find_over h = rw (← e, le-ltb p n h)

  pub find_here : p < n → then_some (same (key_in t (order_in t p)) key) (order_in t p) ≡ find_in t key n
  unfolding find_in row_at
  find_here h = rw (← e, lt-ltb p n h) (by (same (key_in t (order_in t p)) key))
    where
      by : (b : Bool) → then_some b (order_in t p) ≡ pick b (Some (order_in t p)) None
      by true = refl
      by false = refl

module _ {t : List ℕ} {n : ℕ} {ms : List Motif} (k : Keeps t n ms) (name : List ℕ) (q : Bytes name) where
  -- a row that has the key is that of the motif held under the name
  here : (p : ℕ) → p < n → same (key_in t (order_in t p)) (key_of name) ≡ true → Finds ms name (Some (order_in t p))
  here p h e =
      let r = row-held k.rows (order_in t p) (k.sorted.below p h) in
      let z : key_of r.0.name ≡ key_of name = sym (row-key k.rows r.1) ∙ same-eq (key_in t (order_in t p)) (key_of name) e in
      let y : r.0.name ≡ name = key-eq r.0.name name (row-name k.rows r.1) q z in
      finds_at (ap (λ x. held_as x ms) (sym y) ∙ r.1.held) r.1

  -- and where a motif is held under the name, the first place whose name is not before it is its place
  only : (p : ℕ) → First (key_in t) (order_in t) (key_of name) n p → (m : Motif) → held_as name ms ≡ Held.is m → (p < n) × (same (key_in t (order_in t p)) (key_of name) ≡ true)
  only p f m h = by e.0 e.1.0 key (three e.0 p)
    where
      r : InRow ms (m.number - 1) m
      r = held_in name k.rows h

      e : (j : ℕ) × ((j < n) × (order_in t j ≡ m.number - 1))
      e = k.sorted.each (m.number - 1) (in_below k.rows r)

      key : key_in t (order_in t e.0) ≡ key_of name
      key = ap (key_in t) e.1.1 ∙ row-key k.rows r ∙ ap key_of (held-row name k.rows h).0

      by : (j : ℕ) → j < n → key_in t (order_in t j) ≡ key_of name → Three j p → (p < n) × (same (key_in t (order_in t p)) (key_of name) ≡ true)
      by j l w (lower a) = absurd (not-before (key_in t (order_in t j)) (key_of name) w (f.lower j a))
      by j l w (level a) = (omega arith, rw (← a, w) (same_refl (key_of name)))
      by j l w (higher a) =
          let u : p ≤ p = omega arith in
          let v : before (key_in t (order_in t p)) (key_of name) ≡ true = rw (← w) (k.sorted.rising p j a l) in
          clash-of (sym v ∙ f.upper p u (omega arith))

  -- the search finds what is held under the name
  pub find_held : Finds ms name (find_in t (key_of name) n)
  unfolding find_in row_at place_of
  find_held = by (ltb p n) refl (same (key_in t (order_in t p)) (key_of name)) refl (held_as name ms) refl
    where
      p : ℕ
      p = place_of t (key_of name) n

      f : First (key_in t) (order_in t) (key_of name) n p
      f = place_first (key_in t) (order_in t) (key_of name) n k.sorted k.most

      by : (u : Bool) → ltb p n ≡ u → (v : Bool) → same (key_in t (order_in t p)) (key_of name) ≡ v → (x : Held) → held_as name ms ≡ x
          → Finds ms name (pick u (pick v (Some (order_in t p)) None) None)
      by true u true v x e = here p (ltb-true p n u) v
      by true u false v Held.none e = finds_none e
      by true u false v (Held.is m) e = clash-of (sym (only p f m e).1 ∙ v)
      by false u v w Held.none e = finds_none e
      by false u v w (Held.is m) e = absurd (omega (arith, ltb-false p n u, (only p f m e).0))

-- what a search through the rows in use promises
module _ (t name : List ℕ) (held n : ℕ) (r : Option ℕ) (e : r ≡ find_in t (key_of name) n) where
  pub found_row : Row r
  found_row = rw e (find_row t (key_of name) n)

  pub found_finds : Bytes name → (held ≤ 64 → n ≡ held) → (ms : List Motif) → Keeps t held ms → Finds ms name r
  found_finds q u ms k = rw (e, u k.most) (find_held k name q)
