-- The first turns at which a motif is reached and at which it is reached again, and the rings that they tell of.
-- Assumes nothing.
use Prim.Native.Nat.{ℕ, zero, suc, ◌+◌, ◌-◌, ◌≤◌, ◌<◌}
use mathlib.Core.Path.{◌≡◌, refl, sym, ap, ◌∙◌}
use mathlib.Core.Bool.{Bool, true, false}
use mathlib.Core.List.{List, []}
use native.Mathlib.Omega.{arith}
use native.Mathlib.Numerals.{add-one}
use lib.Dec.{eqb, ltb}
use borrow.Author.Tests.{lt-ltb, ltb-true, ltb-false, eqb-true, eqb-false}
use Rattle.scope.specs.Choice.{pick}
use Rattle.scope.specs.Motif.{Motif, held_as}
use Rattle.scope.specs.Calls.{met}
use Rattle.scope.specs.Reach.{Name, steps, holds, called_by, Ring}
use Rattle.scope.proofs.Apart.{clash-of}
use Rattle.scope.proofs.Levels.{ring-exactly}
use Rattle.motif.specs.Held.{Keeps, InRow}
use Rattle.motif.proofs.Rowed.{held-row, held_in, in_below}
use Rattle.calls.specs.Marks.{least, closes}
use Rattle.calls.proofs.Rounding.{caller_held, is-held}

module _ (f : ℕ → Bool) where
  least-most : (d : ℕ) → least f d ≤ d
  unfolding least
  least-most zero = omega arith
  least-most (suc d) = go (ltb (least f d) d) (f d) (least-most d)
    where
      go : (b c : Bool) → least f d ≤ d → pick b (least f d) (pick c d (suc d)) ≤ suc d
      go true c h = omega arith
      go false true h = omega arith
      go false false h = omega arith

  -- one turn more, as the code has it
  pub first_more : (t found r : ℕ) (marked : Bool) → found ≡ least f t → marked ≡ f t → r ≡ pick (ltb found t) found (pick marked t (suc t)) → r ≡ least f (t + 1)
  unfolding least
  first_more t found r marked a b e = rw add-one (e ∙ rw (b, a))

  least-is : (d : ℕ) → least f d < d → f (least f d) ≡ true
  unfolding least
  least-is zero h = absurd (omega arith)
  least-is (suc d) h = go (ltb (least f d) d) refl (f d) refl h (least-is d)
    where
      go : (b : Bool) → ltb (least f d) d ≡ b → (c : Bool) → f d ≡ c → pick b (least f d) (pick c d (suc d)) < suc d → (least f d < d → f (least f d) ≡ true)
          → f (pick b (least f d) (pick c d (suc d))) ≡ true
      go true e c g q ih = ih (ltb-true (least f d) d e)
      go false e true g q ih = g
      go false e false g q ih = absurd (omega arith)

  least_first : (d k : ℕ) → k < d → f k ≡ true → least f d ≤ k
  unfolding least
  least_first zero k l e = absurd (omega arith)
  least_first (suc d) k l e = go (eqb k d) refl (ltb (least f d) d) refl (f d) refl (least_first d k) (least-most d)
    where
      go : (z : Bool) → eqb k d ≡ z → (b : Bool) → ltb (least f d) d ≡ b → (c : Bool) → f d ≡ c → (k < d → f k ≡ true → least f d ≤ k) → least f d ≤ d
          → pick b (least f d) (pick c d (suc d)) ≤ k
      go true y true t c g ih m = let x : k ≡ d = eqb-true k d y in omega arith
      go true y false t true g ih m = let x : k ≡ d = eqb-true k d y in omega arith
      go true y false t false g ih m = let x : k ≡ d = eqb-true k d y in clash-of (sym e ∙ ap f x ∙ g)
      go false y b t c g ih m =
          let x : k ≡ d → ⊥ = eqb-false k d y in
          let w : k < d = omega arith in
          let u : least f d ≤ k = ih w e in
          early b t c g w u
        where
          early : (b : Bool) → ltb (least f d) d ≡ b → (c : Bool) → f d ≡ c → k < d → least f d ≤ k → pick b (least f d) (pick c d (suc d)) ≤ k
          early true t c g w u = u
          early false t c g w u =
              let s : d ≤ least f d = ltb-false (least f d) d t in
              absurd (omega arith)

module _ (ms : List Motif) where
  -- a ring that closes is a ring, and a ring closes
  closes-ring : (v x : Name) → closes ms v x ≡ true → Ring ms 32 x
  unfolding closes
  closes-ring v x e =
      let f : ℕ → Bool = λ t. steps (called_by ms) t v x in
      let g : ℕ → Bool = λ t. steps (called_by ms) (suc t) v v in
      let q : least f 32 + least g 32 < 32 = ltb-true (least f 32 + least g 32) 32 e in
      let a : least f 32 < 32 = omega arith in
      let b : least g 32 < 32 = omega arith in
      record { which = v; way = least f 32; round = least g 32; reached = least-is f 32 a; closed = least-is g 32 b; short = omega arith }

  ring-closes : (x : Name) (r : Ring ms 32 x) → closes ms r.which x ≡ true
  unfolding closes
  ring-closes x r =
      let f : ℕ → Bool = λ t. steps (called_by ms) t r.which x in
      let g : ℕ → Bool = λ t. steps (called_by ms) (suc t) r.which r.which in
      let p : r.way < 32 = omega (arith, r.short) in
      let q : r.round < 32 = omega (arith, r.short) in
      let u : least f 32 ≤ r.way = least_first f 32 r.way p r.reached in
      let w : least g 32 ≤ r.round = least_first g 32 r.round q r.closed in
      lt-ltb (least f 32 + least g 32) 32 (omega (arith, r.short))

  ring-held : (v : Name) (c : ℕ) → steps (called_by ms) (suc c) v v ≡ true → holds ms v ≡ true
  unfolding steps
  ring-held v c e = caller_held ms (steps (called_by ms) c v) v e

  -- one motif closes a ring: a running motif is met
  pub closes-again : (v x : Name) → closes ms v x ≡ true → (met ms 32 [] x).again ≡ true
  closes-again v x e = (ring-exactly ms 32 x).1 (closes-ring v x e)

-- none of the first n rows does: none is met
pub none-again : {t : List ℕ} {n : ℕ} {ms : List Motif} (x : Name) → Keeps t n ms → ((k : ℕ) (w : Motif) → k < n → InRow ms k w → closes ms w.name x ≡ false)
    → (met ms 32 [] x).again ≡ false
none-again {ms = ms} x keeps none = by (met ms 32 [] x).again refl
  where
    by : (b : Bool) → (met ms 32 [] x).again ≡ b → b ≡ false
    by true e =
        let r = (ring-exactly ms 32 x).0 e in
        let w = is-held (held_as r.which ms) (ring-held ms r.which r.round r.closed) in
        let q = held_in r.which keeps.rows w.1 in
        clash-of (sym (ring-closes ms x r) ∙ ap (λ y. closes ms y x) (sym (held-row r.which keeps.rows w.1).0) ∙ none (w.0.number - 1) w.0 (in_below keeps.rows q) q)
    by false e = refl

-- one row more that closes none
pub none_more : {ms : List Motif} (x : Name) (v : ℕ) → ((k : ℕ) (w : Motif) → k < v → InRow ms k w → closes ms w.name x ≡ false)
    → ((w : Motif) → InRow ms v w → closes ms w.name x ≡ false) → (k : ℕ) (w : Motif) → k < v + 1 → InRow ms k w → closes ms w.name x ≡ false
none_more {ms} x v before here k w l r = by (eqb k v) refl
  where
    by : (b : Bool) → eqb k v ≡ b → closes ms w.name x ≡ false
    by true e = here w (rw (eqb-true k v e) at r)
    by false e =
        let n : k ≡ v → ⊥ = eqb-false k v e in
        let z : k < v = omega arith in
        before k w z r
