-- Rows of 66 cells: what is not written of them says the same numbers as before, and a number that is written behind the last one comes to them.
-- Assumes nothing.
use Prim.Native.Nat.{ℕ, zero, suc, ◌+◌, ◌*◌, ◌-◌, ◌≤◌, ◌<◌, min}
use mathlib.Core.Logic.{◌≢◌}
use mathlib.Core.Path.{◌≡◌, refl, sym, ap, ◌∙◌}
use mathlib.Core.Bool.{Bool, true, false}
use mathlib.Core.List.{List, [], ◌∷◌, ◌++◌}
use native.Mathlib.Omega.{arith}
use lib.ListN.{length, get_or, take, drop, set, length-set, length-append, length-drop, get_or-append}
use lib.Seq.{get_or-set_same, get_or-set_other, length-take-le, get_or-take, get_or-drop, get_or-append-add}
use borrow.Rule.Slice.PartMut.{put_mid, post_of}
use lib.Dec.{leb}
use borrow.Author.Tests.{le-leb, lt-leb}
use Rattle.scope.specs.Choice.{pick, among}
use Rattle.scope.specs.Session.{defined}
use Rattle.pattern_rows.specs.Numbers.{numbers_to, numbers_in, noted, Others}
use Rattle.pattern_rows.proofs.Cells.{in_length}

-- the same cells say the same numbers, also where they stand in two lists
pub to_same : (s t : List ℕ) (p q c : ℕ) → ((k : ℕ) → k < c → get_or s (p + suc k) 0 ≡ get_or t (q + suc k) 0) → numbers_to s p c ≡ numbers_to t q c
unfolding numbers_to
to_same s t p q zero h = refl
to_same s t p q (suc c) h =
    let l : c < suc c = omega arith in
    let e = h c l in
    let f = to_same s t p q c (λ k m. let g : k < suc c = omega arith in h k g) in
    λ j. e j ∷ f j

pub in_same : (s t : List ℕ) (r q : ℕ) → ((k : ℕ) → k < 66 → get_or s (r * 66 + k) 0 ≡ get_or t (q * 66 + k) 0) → numbers_in s r ≡ numbers_in t q
unfolding numbers_in
in_same s t r q h =
    let a : r * 66 + 0 ≡ r * 66 = omega arith in
    let b : q * 66 + 0 ≡ q * 66 = omega arith in
    let z : 0 < 66 = omega arith in
    let e : get_or s (r * 66) 0 ≡ get_or t (q * 66) 0 = rw (a, b) at (h 0 z) in
    ap (λ c. numbers_to s (r * 66) (min c 65)) e
    ∙ to_same s t (r * 66) (q * 66) (min (get_or t (q * 66) 0) 65) (λ k l. let m : suc k < 66 = omega arith in h (suc k) m)

-- so many cells written over from a place on, and all else as it was
module _ (a k : ℕ) (t zs : List ℕ) (long : length zs ≡ k) (room : a + k ≤ length t) where
  abbrev over : List ℕ
  over = put_mid a k t zs

  head : length (take a t) ≡ a
  head = length-take-le a t (omega arith)

  pub over-length : length over ≡ length t
  over-length = let h = head in simp (length-append, length-drop) (omega arith)

  pub over-before : (j : ℕ) → j < a → get_or over j 0 ≡ get_or t j 0
  over-before j l = let h = head in get_or-append (take a t) (zs ++ post_of a k t) 0 j (omega arith) ∙ get_or-take a t j 0 l

  over_from : (j : ℕ) → get_or over (a + j) 0 ≡ get_or (zs ++ post_of a k t) j 0
  over_from j = let z : get_or (take a t ++ (zs ++ post_of a k t)) (length (take a t) + j) 0 ≡ get_or (zs ++ post_of a k t) j 0 =
      get_or-append-add (take a t) (zs ++ post_of a k t) j 0 in rw head at z

  pub over-there : (j : ℕ) → j < k → get_or over (a + j) 0 ≡ get_or zs j 0
  over-there j l = over_from j ∙ get_or-append zs (post_of a k t) 0 j (omega arith)

  pub over-behind : (j : ℕ) → a + k ≤ j → get_or over j 0 ≡ get_or t j 0
  over-behind j l =
      let e : a + (k + (j - (a + k))) ≡ j = omega arith in
      let z : get_or (zs ++ post_of a k t) (length zs + (j - (a + k))) 0 ≡ get_or (post_of a k t) (j - (a + k)) 0 = get_or-append-add zs (post_of a k t) (j - (a + k)) 0 in
      rw e at (over_from (k + (j - (a + k))) ∙ rw long at z ∙ get_or-drop k (drop a t) (j - (a + k)) 0 ∙ get_or-drop a t (k + (j - (a + k))) 0)

-- a row that says it has none
pub in_none : (t : List ℕ) (row : ℕ) → get_or t (row * 66) 0 ≡ 0 → numbers_in t row ≡ []
unfolding numbers_in numbers_to
in_none t row e = rw e

-- a store in a row leaves the other rows
pub set-rows : (t : List ℕ) (row k v : ℕ) → k < 66 → (r : ℕ) → (r ≡ row → ⊥) → numbers_in (set t (row * 66 + k) v) r ≡ numbers_in t r
set-rows t row k v h r d =
    in_same (set t (row * 66 + k) v) t r r
    (λ j l. let z : r * 66 + j ≢ row * 66 + k = λ y. omega (arith, d) in get_or-set_other t (row * 66 + k) (r * 66 + j) v 0 z)

-- and what is known of calls
pub set-others : (t : List ℕ) (row k v : ℕ) → row < 67 → k < 66 → Others t row (set t (row * 66 + k) v)
set-others t row k v b h =
    record {
      long = length-set t (row * 66 + k) v;
      same = set-rows t row k v h;
      known = λ i. let z : 4423 + i ≢ row * 66 + k = λ y. omega arith in get_or-set_other t (row * 66 + k) (4423 + i) v 0 z;
    }

pub others-too : {t u v : List ℕ} {row : ℕ} → Others t row u → Others u row v → Others t row v
others-too a b = record { long = b.long ∙ a.long; same = λ r d. b.same r d ∙ a.same r d; known = λ i. b.known i ∙ a.known i }

-- no number in a row
module _ (t : List ℕ) (row : ℕ) where
  first : row * 66 + 0 ≡ row * 66
  first = omega arith

  pub cleared : row * 66 < length t → numbers_in (set t (row * 66) 0) row ≡ []
  cleared l = in_none (set t (row * 66) 0) row (get_or-set_same t (row * 66) 0 0 l)

  pub first-others : (v : ℕ) → row < 67 → Others t row (set t (row * 66) v)
  first-others v h = let l : 0 < 66 = omega arith in rw first at (set-others t row 0 v h l)

behind-it : (row c : ℕ) → row * 66 + (c + 1) ≡ row * 66 + c + 1
behind-it row c = omega arith

-- a number behind the last one, and one more counted
module _ (t : List ℕ) (row c n : ℕ) where
  abbrev stored : List ℕ
  stored = set t (row * 66 + c + 1) n

  more-there : row * 66 + c + 1 < length t → get_or (set stored (row * 66) (c + 1)) (row * 66 + suc c) 0 ≡ n
  more-there l =
      let b : row * 66 + suc c ≢ row * 66 = λ y. omega arith in
      let d : row * 66 + suc c ≡ row * 66 + c + 1 = omega arith in
      get_or-set_other stored (row * 66) (row * 66 + suc c) (c + 1) 0 b ∙ ap (λ k. get_or stored k 0) d ∙ get_or-set_same t (row * 66 + c + 1) n 0 l

  more-before : (k : ℕ) → k < c → get_or (set stored (row * 66) (c + 1)) (row * 66 + suc k) 0 ≡ get_or t (row * 66 + suc k) 0
  more-before k l =
      let o : row * 66 + suc k ≢ row * 66 = λ z. omega arith in
      let q : row * 66 + suc k ≢ row * 66 + c + 1 = λ z. omega arith in
      get_or-set_other stored (row * 66) (row * 66 + suc k) (c + 1) 0 o ∙ get_or-set_other t (row * 66 + c + 1) (row * 66 + suc k) n 0 q

  in_more : c ≡ length (numbers_in t row) → c < 65 → row * 66 + 66 ≤ length t → numbers_in (set stored (row * 66) (c + 1)) row ≡ n ∷ numbers_in t row
  unfolding numbers_in numbers_to
  in_more e h l =
      let w = set stored (row * 66) (c + 1) in
      let f : c ≡ min (get_or t (row * 66) 0) 65 = e ∙ in_length t row in
      let a : row * 66 < length stored = simp length-set (omega arith) in
      let g : min (get_or w (row * 66) 0) 65 ≡ suc c = ap (λ x. min x 65) (get_or-set_same stored (row * 66) (c + 1) 0 a) ∙ omega arith in
      let m : row * 66 + c + 1 < length t = omega arith in
      let x = more-there m in
      let y = to_same w t (row * 66) (row * 66) c more-before in
      ap (numbers_to w (row * 66)) g ∙ (λ j. x j ∷ y j) ∙ ap (λ k. n ∷ numbers_to t (row * 66) k) f

-- what is noted: nothing of a number that is there, or behind 65 of them; else the number
pub noted-there : (n : ℕ) (ns : List ℕ) → among ns n ≡ true → noted n ns ≡ ns
unfolding noted defined
noted-there n ns e = rw e (by (leb 65 (length ns)))
  where
    by : (b : Bool) → pick b ns ns ≡ ns
    by true = refl
    by false = refl

pub noted-full : (n : ℕ) (ns : List ℕ) → 65 ≤ length ns → noted n ns ≡ ns
unfolding noted
noted-full n ns h = rw (le-leb 65 (length ns) h)

pub noted-new : (n : ℕ) (ns : List ℕ) → among ns n ≡ false → length ns < 65 → noted n ns ≡ n ∷ ns
unfolding noted defined
noted-new n ns e h = rw (lt-leb 65 (length ns) h, e)

-- so a number that is not there is noted, and the other rows are as they were
module _ (t : List ℕ) (row c n : ℕ) (t₁ t₂ : List ℕ) (p : t₁ ≡ set t (row * 66 + c + 1) n) (q : t₂ ≡ set t₁ (row * 66) (c + 1)) (h : c < 65) where
  pub more-noted : row * 66 + 66 ≤ length t → c ≡ length (numbers_in t row) → among (numbers_in t row) n ≡ false → numbers_in t₂ row ≡ noted n (numbers_in t row)
  more-noted l e f =
      let m : length (numbers_in t row) < 65 = omega arith in
      rw (q, p) (in_more t row c n e h l ∙ sym (noted-new n (numbers_in t row) f m))

  pub more-others : row < 67 → Others t row t₂
  more-others l =
      let m : c + 1 < 66 = omega arith in
      let o : Others t row (set t (row * 66 + c + 1) n) = rw (behind-it row c) at (set-others t row (c + 1) n l m) in
      rw (q, p) (others-too o (first-others (set t (row * 66 + c + 1) n) row (c + 1) l))
