-- A number put in among others, element by element; so a row whose name is new comes into the column at its place, the column stays sorted, and the rows stay as they
-- were.
-- Assumes nothing.
use Prim.Native.Nat.{ℕ, suc, ◌+◌, ◌-◌, ◌*◌, ◌%◌, ◌≤◌, ◌<◌}
use mathlib.Core.Path.{◌≡◌, refl, sym, ap, ◌∙◌}
use mathlib.Core.Bool.{true}
use mathlib.Core.List.{List, [], ◌∷◌, ◌++◌}
use native.Mathlib.Omega.{arith}
use native.Mathlib.Numerals.{add-one}
use lib.ListN.{length, get_or, take, drop, set, length-drop, length-append, get_or-append}
use lib.Seq.{paste, length-paste, take-suc, length-take-le, get_or-take, get_or-drop, get_or-append-add}
use mathlib.Core.List.{append_assoc}
use Rattle.std.proofs.lemmas.List.{set_at}
use borrow.Author.Tests.{lt-ltb}
use Rattle.scope.specs.Motif.{Motif, Held, held_as}
use Rattle.key.specs.Keys.{key_of}
use Rattle.key.proofs.Packs.{Bytes, key-eq}
use Rattle.motif.specs.Before.{before}
use Rattle.motif.specs.Sorted.{Sorted}
use Rattle.motif.specs.Held.{Rows, key_in, order_in}
use Rattle.motif.specs.Search.{place_of, put_in, entered_in}
use Rattle.motif.proofs.Ordered.{other_way}
use Rattle.motif.proofs.Halves.{First, place_first, place-within}
use Rattle.motif.proofs.Sorting.{Put, sorted_more, sorted-alike}
use Rattle.motif.proofs.Rowed.{none_is, row-held}
use Rattle.motif.proofs.Stored.{row-key, row-name}

-- what stands from a place on moves up by one, and the number is written at the place
pub put_over : (t : List ℕ) (at count v : ℕ) → at < length t → set (paste t (at + 1) (drop at t) count) at v ≡ put_in t at count v
unfolding put_in
put_over t at count v h =
    let f : take (at + 1) t ≡ take at t ++ (get_or t at 0 ∷ []) = rw add-one (take-suc t at 0 h) in
    let e : at + 1 + count ≡ at + suc count = omega arith in
    let l : length (take at t) ≡ at = length-take-le at t (omega arith) in
    rw (f, e) (simp append_assoc (set_at (take at t) (get_or t at 0) (take count (drop at t) ++ drop (at + suc count) t) v at l))

module _ (t : List ℕ) (at count v : ℕ) (room : at + count < length t) where
  moved : length (v ∷ take count (drop at t)) ≡ suc count
  moved = ap suc (length-take-le count (drop at t) (simp length-drop (omega arith)))

  first-long : length (take at t) ≡ at
  first-long = length-take-le at t (omega arith)

  both_long : length (take at t ++ (v ∷ take count (drop at t))) ≡ at + suc count
  both_long = let a = first-long in let b = moved in length-append (take at t) (v ∷ take count (drop at t)) ∙ omega arith

  pub put-length : length (put_in t at count v) ≡ length t
  unfolding put_in
  put-length = length-paste t at (v ∷ drop at t) (suc count) (omega arith) (simp length-drop (omega arith))

  -- what stands before is as it was
  pub put-before : (i : ℕ) → i < at → get_or (put_in t at count v) i 0 ≡ get_or t i 0
  unfolding put_in
  put-before i h =
      let a = first-long in
      let b = both_long in
      get_or-append (take at t ++ (v ∷ take count (drop at t))) (drop (at + suc count) t) 0 i (omega arith)
      ∙ get_or-append (take at t) (v ∷ take count (drop at t)) 0 i (omega arith) ∙ get_or-take at t i 0 h

  inside : (j : ℕ) → j < suc count → get_or (put_in t at count v) (at + j) 0 ≡ get_or (v ∷ take count (drop at t)) j 0
  unfolding put_in
  inside j h =
      let b = both_long in
      let z : get_or (take at t ++ (v ∷ take count (drop at t))) (length (take at t) + j) 0 ≡ get_or (v ∷ take count (drop at t)) j 0 =
      get_or-append-add (take at t) (v ∷ take count (drop at t)) j 0 in
      get_or-append (take at t ++ (v ∷ take count (drop at t))) (drop (at + suc count) t) 0 (at + j) (omega arith) ∙ (rw first-long at z)

  -- the number stands at its place, and those behind it one further
  pub put-here : get_or (put_in t at count v) at 0 ≡ v
  put-here = let e : at + 0 ≡ at = omega arith in rw e at (inside 0 (omega arith))

  pub put-moved : (j : ℕ) → j < count → get_or (put_in t at count v) (at + suc j) 0 ≡ get_or t (at + j) 0
  put-moved j h = inside (suc j) (omega arith) ∙ get_or-take count (drop at t) j 0 h ∙ get_or-drop at t j 0

-- row n comes into the column
module _ (t : List ℕ) (n : ℕ) (key : List ℕ) (sized : length t ≡ 704) (room : n < 64) where
  abbrev p : ℕ
  p = place_of t key n

  low : p ≤ n
  unfolding place_of
  low = place-within (key_in t) (order_in t) key n

  fits : 640 + p + (n - p) < length t
  fits = let l = low in omega arith

  entered : entered_in t n key ≡ put_in t (640 + p) (n - p) n
  unfolding entered_in
  entered = rw (lt-ltb n 64 room)

  pub entered-length : length (entered_in t n key) ≡ length t
  entered-length = rw entered (put-length t (640 + p) (n - p) n fits)

  -- the rows are as they were
  pub entered-cell : (i : ℕ) → i < 640 → get_or (entered_in t n key) i 0 ≡ get_or t i 0
  entered-cell i h = rw entered (put-before t (640 + p) (n - p) n fits i (omega arith))

  keys : (i : ℕ) → i < 64 → key_in (entered_in t n key) i ≡ key_in t i
  keys i h = λ j. entered-cell (i * 10 + 0) (omega arith) j ∷ entered-cell (i * 10 + 1) (omega arith) j ∷ entered-cell (i * 10 + 2) (omega arith) j ∷ []

  put : Put (order_in t) n p (order_in (entered_in t n key))
  put =
      rw entered
      (record {
        within = low;
        lows = λ k h. let z : 640 + k < 640 + p = omega arith in ap (λ x. x % 64) (put-before t (640 + p) (n - p) n fits (640 + k) z);
        at = ap (λ x. x % 64) (put-here t (640 + p) (n - p) n fits) ∙ small;
        highs = λ k h l. ap (λ x. x % 64) (high k h l);
      })
    where
      small : n % 64 ≡ n
      small = omega arith

      high : (k : ℕ) → p ≤ k → k < n → get_or (put_in t (640 + p) (n - p) n) (640 + suc k) 0 ≡ get_or t (640 + k) 0
      high k h l =
          let j : k - p < n - p = omega arith in
          let e : 640 + p + suc (k - p) ≡ 640 + suc k = omega arith in
          let f : 640 + p + (k - p) ≡ 640 + k = omega arith in
          rw (e, f) at (put-moved t (640 + p) (n - p) n fits (k - p) j)

  -- a name that none of the rows before it has keeps the column sorted
  pub entered-sorted : Sorted (key_in t) (order_in t) n → key_in t n ≡ key → ((i : ℕ) → i < n → key_in t i ≡ key → ⊥)
      → Sorted (key_in (entered_in t n key)) (order_in (entered_in t n key)) (suc n)
  unfolding place_of
  entered-sorted sorted e new = sorted-alike (λ i h. keys i (omega arith)) (λ k h. refl) (sorted_more put sorted under above)
    where
      f : First (key_in t) (order_in t) key n p
      f = place_first (key_in t) (order_in t) key n sorted (omega arith)

      under : (k : ℕ) → k < p → before (key_in t (order_in t k)) (key_in t n) ≡ true
      under k h = rw e (f.lower k h)

      above : (k : ℕ) → p ≤ k → k < n → before (key_in t n) (key_in t (order_in t k)) ≡ true
      above k h l = rw e (other_way (key_in t (order_in t k)) key (f.upper k h l) (new (order_in t k) (sorted.below k l)))

-- no row has the key of a name that is not held
pub key-new : {t : List ℕ} {n : ℕ} {ms : List Motif} → Rows t n ms → (name : List ℕ) → Bytes name → held_as name ms ≡ Held.none → (i : ℕ) → i < n → key_in t i ≡ key_of name → ⊥
key-new {ms = ms} k name q none i h e =
    let r = row-held k i h in
    let y : r.0.name ≡ name = key-eq r.0.name name (row-name k r.1) q (sym (row-key k r.1) ∙ e) in
    none_is (sym none ∙ ap (λ x. held_as x ms) (sym y) ∙ r.1.held)
