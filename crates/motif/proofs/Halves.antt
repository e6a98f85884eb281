-- The search by halving, turn by turn; through a sorted column it comes to the first place whose name is not before the asked one.
-- Assumes nothing.
use Prim.Native.Nat.{ℕ, zero, suc, ◌+◌, ◌-◌, ◌*◌, ◌^◌, ◌≤◌, ◌<◌}
use mathlib.Core.Path.{◌≡◌, refl, sym, ◌∙◌}
use mathlib.Core.Bool.{Bool, true, false}
use mathlib.Core.List.{List}
use native.Mathlib.Nat.{pow-suc}
use native.Mathlib.Omega.{arith}
use lib.Dec.{ltb}
use borrow.Author.Tests.{lt-ltb, le-ltb, ltb-true, ltb-false}
use Rattle.scope.specs.Choice.{pick}
use Rattle.scope.proofs.Apart.{clash-of}
use Rattle.motif.specs.Before.{before}
use Rattle.motif.specs.Sorted.{Sorted, rounds, middle, halve}
use Rattle.motif.proofs.Ordered.{before-trans}

-- the middle lies between, and either side is at most half as long
module _ (lo hi : ℕ) (h : lo < hi) where
  middle-from : lo ≤ middle lo hi
  unfolding middle
  middle-from = omega arith

  middle-below : middle lo hi < hi
  unfolding middle
  middle-below = omega arith

  half_up : (f : ℕ) → hi - lo < 2 ^ suc f → hi - (middle lo hi + 1) < 2 ^ f
  unfolding middle
  half_up f r = let q : hi - lo < 2 ^ f * 2 = rw (pow-suc) at r in omega arith

  half_down : (f : ℕ) → hi - lo < 2 ^ suc f → middle lo hi - lo < 2 ^ f
  unfolding middle
  half_down f r = let q : hi - lo < 2 ^ f * 2 = rw (pow-suc) at r in omega arith

module _ (names : ℕ → List ℕ) (column : ℕ → ℕ) (name : List ℕ) where
  -- one turn
  halve-on : (f lo hi : ℕ) (b : Bool) → lo < hi → before (names (column (middle lo hi))) name ≡ b
      → halve names column name (suc f) lo hi ≡ pick b (halve names column name f (middle lo hi + 1) hi) (halve names column name f lo (middle lo hi))
  unfolding halve
  halve-on f lo hi b h e = rw (lt-ltb lo hi h, e)

  halve-end : (f lo hi : ℕ) → hi ≤ lo → halve names column name f lo hi ≡ lo
  unfolding halve
  halve-end zero lo hi h = refl
  halve-end (suc f) lo hi h = rw (le-ltb lo hi h)

  halve-none : (lo hi : ℕ) → halve names column name zero lo hi ≡ lo
  unfolding halve
  halve-none lo hi = refl

  -- where the loop stands: rounds are left for what lies between lo and hi, and the search from here is the whole search
  pub record Going (n lo hi : ℕ) : Type 0 where
    pub left : ℕ
    pub enough : hi - lo < 2 ^ left
    pub whole : halve names column name left lo hi ≡ halve names column name rounds 0 n

  pub going_start : (n : ℕ) → n ≤ 64 → Going n 0 n
  going_start n h = record { left = rounds; enough = omega arith; whole = refl }

  module _ (n lo hi : ℕ) where
    no-rounds : lo < hi → hi - lo < 2 ^ 0 → ⊥
    no-rounds h r = omega arith

    pub going-up : lo < hi → before (names (column (middle lo hi))) name ≡ true → Going n lo hi → Going n (middle lo hi + 1) hi
    going-up h e g = by g.left g.enough g.whole
      where
        by : (f : ℕ) → hi - lo < 2 ^ f → halve names column name f lo hi ≡ halve names column name rounds 0 n → Going n (middle lo hi + 1) hi
        by zero r w = absurd (no-rounds h r)
        by (suc f) r w = record { left = f; enough = half_up lo hi h f r; whole = sym (halve-on f lo hi true h e) ∙ w }

    pub going-down : lo < hi → before (names (column (middle lo hi))) name ≡ false → Going n lo hi → Going n lo (middle lo hi)
    going-down h e g = by g.left g.enough g.whole
      where
        by : (f : ℕ) → hi - lo < 2 ^ f → halve names column name f lo hi ≡ halve names column name rounds 0 n → Going n lo (middle lo hi)
        by zero r w = absurd (no-rounds h r)
        by (suc f) r w = record { left = f; enough = half_down lo hi h f r; whole = sym (halve-on f lo hi false h e) ∙ w }

    pub going-over : hi ≤ lo → Going n lo hi → lo ≡ halve names column name rounds 0 n
    going-over h g = sym (halve-end g.left lo hi h) ∙ g.whole

  -- the search goes no further than what it is asked for
  halve-within : (f lo hi : ℕ) → lo ≤ hi → halve names column name f lo hi ≤ hi
  halve-within zero lo hi h = rw (halve-none lo hi) h
  halve-within (suc f) lo hi h = by (ltb lo hi) refl (before (names (column (middle lo hi))) name) refl (halve-within f (middle lo hi + 1) hi) (halve-within f lo (middle lo hi))
    where
      by : (t : Bool) → ltb lo hi ≡ t → (b : Bool) → before (names (column (middle lo hi))) name ≡ b
          → (middle lo hi + 1 ≤ hi → halve names column name f (middle lo hi + 1) hi ≤ hi) → (lo ≤ middle lo hi → halve names column name f lo (middle lo hi) ≤ middle lo hi)
          → halve names column name (suc f) lo hi ≤ hi
      by false t b e up down = rw (halve-end (suc f) lo hi (ltb-false lo hi t)) h
      by true t true e up down =
          let k = ltb-true lo hi t in
          let m = middle-below lo hi k in
          rw (halve-on f lo hi true k e) (up (omega arith))
      by true t false e up down =
          let k = ltb-true lo hi t in
          let m = middle-below lo hi k in
          let z = down (middle-from lo hi k) in
          rw (halve-on f lo hi false k e) (omega arith)

  pub place-within : (n : ℕ) → halve names column name rounds 0 n ≤ n
  place-within n = halve-within rounds 0 n (omega arith)

  -- the first place whose name is not before the asked one
  pub record First (n place : ℕ) : Type 0 where
    pub lower : (k : ℕ) → k < place → before (names (column k)) name ≡ true
    pub upper : (k : ℕ) → place ≤ k → k < n → before (names (column k)) name ≡ false

  module _ (n : ℕ) (sorted : Sorted names column n) where
    -- names before place p are before the asked one
    Lower : ℕ → Type 0
    Lower p = (k : ℕ) → k < p → before (names (column k)) name ≡ true

    -- those from place p on are not
    Upper : ℕ → Type 0
    Upper p = (k : ℕ) → p ≤ k → k < n → before (names (column k)) name ≡ false

    lower_on : (m : ℕ) → m < n → before (names (column m)) name ≡ true → Lower (m + 1)
    unfolding Lower
    lower_on m h e k l = by (ltb k m) refl
      where
        by : (t : Bool) → ltb k m ≡ t → before (names (column k)) name ≡ true
        by true z = before-trans (names (column k)) (names (column m)) name (sorted.rising k m (ltb-true k m z) h) e
        by false z = let y = ltb-false k m z in let q : k ≡ m = omega arith in rw q e

    upper_on : (m : ℕ) → before (names (column m)) name ≡ false → Upper m
    unfolding Upper
    upper_on m e k l h = by (ltb m k) refl (before (names (column k)) name) refl
      where
        by : (t : Bool) → ltb m k ≡ t → (b : Bool) → before (names (column k)) name ≡ b → b ≡ false
        by t z false w = refl
        by true z true w = clash-of (sym (before-trans (names (column m)) (names (column k)) name (sorted.rising m k (ltb-true m k z) h) w) ∙ e)
        by false z true w = let y = ltb-false m k z in let q : k ≡ m = omega arith in sym w ∙ rw q e

    first_at : (lo hi : ℕ) → hi ≤ lo → Lower lo → Upper hi → First n lo
    unfolding Lower Upper
    first_at lo hi h a b = record { lower = a; upper = λ j p q. b j (omega arith) q }

    halve_first : (f lo hi : ℕ) → hi - lo < 2 ^ f → hi ≤ n → Lower lo → Upper hi → First n (halve names column name f lo hi)
    halve_first zero lo hi r l a b = let k : hi ≤ lo = omega arith in rw (halve-end 0 lo hi k) (first_at lo hi k a b)
    halve_first (suc f) lo hi r l a b =
        by (ltb lo hi) refl (before (names (column (middle lo hi))) name) refl (halve_first f (middle lo hi + 1) hi) (halve_first f lo (middle lo hi))
      where
        by : (t : Bool) → ltb lo hi ≡ t → (w : Bool) → before (names (column (middle lo hi))) name ≡ w
            → (hi - (middle lo hi + 1) < 2 ^ f → hi ≤ n → Lower (middle lo hi + 1) → Upper hi → First n (halve names column name f (middle lo hi + 1) hi))
            → (middle lo hi - lo < 2 ^ f → middle lo hi ≤ n → Lower lo → Upper (middle lo hi) → First n (halve names column name f lo (middle lo hi)))
            → First n (halve names column name (suc f) lo hi)
        by false z w e up down = let k = ltb-false lo hi z in rw (halve-end (suc f) lo hi k) (first_at lo hi k a b)
        by true z true e up down =
            let k = ltb-true lo hi z in
            let m = middle-below lo hi k in
            rw (halve-on f lo hi true k e) (up (half_up lo hi k f r) l (lower_on (middle lo hi) (omega arith) e) b)
        by true z false e up down =
            let k = ltb-true lo hi z in
            let m = middle-below lo hi k in
            rw (halve-on f lo hi false k e) (down (half_down lo hi k f r) (omega arith) a (upper_on (middle lo hi) e))

    pub place_first : n ≤ 64 → First n (halve names column name rounds 0 n)
    unfolding Lower Upper
    place_first h = halve_first rounds 0 n (omega arith) (omega arith) (λ k l. absurd (omega arith)) (λ k l m. absurd (omega arith))
