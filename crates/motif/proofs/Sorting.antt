-- A row more in the column, at its place: those before it stay, those behind it have moved up by one, and the column is sorted still.
-- Assumes nothing.
use Prim.Native.Nat.{ℕ, zero, suc, ◌≤◌, ◌<◌}
use mathlib.Core.Path.{◌≡◌, refl, ap, ◌∙◌}
use mathlib.Core.Bool.{Bool, true, false}
use mathlib.Core.List.{List}
use native.Mathlib.Omega.{arith}
use lib.Dec.{ltb}
use borrow.Author.Tests.{ltb-true, ltb-false}
use Rattle.motif.specs.Before.{before}
use Rattle.motif.specs.Sorted.{Sorted}

-- a place of the new column: one below p, p, or one that was moved up
data Part (n p : ℕ) : ℕ → Type 0 where
  under : {k : ℕ} → k < p → Part n p k
  here : {k : ℕ} → k ≡ p → Part n p k
  over : {m : ℕ} → p ≤ m → m < n → Part n p (suc m)

part : (n p k : ℕ) → p ≤ n → k < suc n → Part n p k
part n p zero l h = by (ltb 0 p) refl
  where
    by : (t : Bool) → ltb 0 p ≡ t → Part n p 0
    by true e = under (ltb-true 0 p e)
    by false e = let y = ltb-false 0 p e in let q : 0 ≡ p = omega arith in here q
part n p (suc m) l h = by (ltb (suc m) p) refl (ltb m p) refl
  where
    by : (s : Bool) → ltb (suc m) p ≡ s → (t : Bool) → ltb m p ≡ t → Part n p (suc m)
    by true e t f = under (ltb-true (suc m) p e)
    by false e true f = let y = ltb-false (suc m) p e in let z = ltb-true m p f in let q : suc m ≡ p = omega arith in here q
    by false e false f = let z = ltb-false m p f in let q : m < n = omega arith in over z q

-- row n put in at place p
pub record Put (column : ℕ → ℕ) (n p : ℕ) (next : ℕ → ℕ) : Type 0 where
  pub within : p ≤ n
  pub lows : (k : ℕ) → k < p → next k ≡ column k
  pub at : next p ≡ n
  pub highs : (k : ℕ) → p ≤ k → k < n → next (suc k) ≡ column k

module _ {names : ℕ → List ℕ} {column : ℕ → ℕ} {n p : ℕ} {next : ℕ → ℕ} (put : Put column n p next) (sorted : Sorted names column n)
    (lower : (k : ℕ) → k < p → before (names (column k)) (names n) ≡ true) (upper : (k : ℕ) → p ≤ k → k < n → before (names n) (names (column k)) ≡ true) where
  at_new : (k : ℕ) → k ≡ p → next k ≡ n
  at_new k e = rw e put.at

  rise : (j k : ℕ) → j < k → Part n p j → Part n p k → before (names (next j)) (names (next k)) ≡ true
  rise j k h (under a) (under b) = let w = put.within in rw (put.lows j a, put.lows k b) (sorted.rising j k h (omega arith))
  rise j k h (under a) (here b) = rw (put.lows j a, at_new k b) (lower j a)
  rise j k h (under a) (over {m = m} b d) = rw (put.lows j a, put.highs m b d) (sorted.rising j m (omega arith) d)
  rise j k h (here a) (under b) = absurd (omega arith)
  rise j k h (here a) (here b) = absurd (omega arith)
  rise j k h (here a) (over {m = m} b d) = rw (at_new j a, put.highs m b d) (upper m b d)
  rise j k h (over a c) (under b) = absurd (omega arith)
  rise j k h (over a c) (here b) = absurd (omega arith)
  rise j k h (over {m = l} a c) (over {m = m} b d) = rw (put.highs l a c, put.highs m b d) (sorted.rising l m (omega arith) d)

  down : (k : ℕ) → Part n p k → next k < suc n
  down k (under a) = let w = put.within in let z = sorted.below k (omega arith) in rw (put.lows k a) (omega arith)
  down k (here a) = rw (at_new k a) (omega arith)
  down k (over {m = m} a b) = let z = sorted.below m b in rw (put.highs m a b) (omega arith)

  there : (i : ℕ) → i < suc n → (k : ℕ) × ((k < suc n) × (next k ≡ i))
  there i h = by (ltb i n) refl
    where
      old : (k : ℕ) → k < n → column k ≡ i → (t : Bool) → ltb k p ≡ t → (k : ℕ) × ((k < suc n) × (next k ≡ i))
      old k l e true z = (k, (omega arith, put.lows k (ltb-true k p z) ∙ e))
      old k l e false z = (suc k, (omega arith, put.highs k (ltb-false k p z) l ∙ e))

      by : (t : Bool) → ltb i n ≡ t → (k : ℕ) × ((k < suc n) × (next k ≡ i))
      by true z = let a = sorted.each i (ltb-true i n z) in old a.0 a.1.0 a.1.1 (ltb a.0 p) refl
      by false z =
          let y = ltb-false i n z in
          let w = put.within in
          let e : n ≡ i = omega arith in
          (p, (omega arith, put.at ∙ e))

  pub sorted_more : Sorted names next (suc n)
  sorted_more =
      record {
        rising = λ j k h l. rise j k h (part n p j put.within (omega arith)) (part n p k put.within l);
        below = λ k l. down k (part n p k put.within l);
        each = there;
      }

-- nothing is there, and so it is sorted
pub sorted_none : (names : ℕ → List ℕ) (column : ℕ → ℕ) → Sorted names column 0
sorted_none names column = record { rising = λ j k h l. absurd (omega arith); below = λ k l. absurd (omega arith); each = λ i h. absurd (omega arith) }

-- the same names of the same rows at the same places
pub sorted-alike : {names later : ℕ → List ℕ} {column next : ℕ → ℕ} {n : ℕ} → ((i : ℕ) → i < n → later i ≡ names i) → ((k : ℕ) → k < n → next k ≡ column k)
    → Sorted names column n → Sorted later next n
sorted-alike {names} {later} {column} {next} {n} a b sorted =
    record {
      rising = λ j k h l. let m : j < n = omega arith in rw (named j m, named k l) (sorted.rising j k h l);
      below = λ k l. rw (b k l) (sorted.below k l);
      each = λ i h. let e = sorted.each i h in (e.0, (e.1.0, b e.0 e.1.0 ∙ e.1.1));
    }
  where
    named : (k : ℕ) → k < n → later (next k) ≡ names (column k)
    named k l = ap later (b k l) ∙ a (column k) (sorted.below k l)
