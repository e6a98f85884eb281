-- Laws of the walk over pairs: each turn of it, and that a pair is read only where there is room for it.
-- Assumes nothing.
use Prim.Native.Nat.{ℕ, suc, ◌+◌, ◌*◌, ◌≤◌, ◌<◌}
use mathlib.Core.Path.{◌≡◌, refl, sym, ap, ◌∙◌}
use mathlib.Core.Bool.{Bool, true, false}
use mathlib.Core.List.{List}
use native.Mathlib.Omega.{arith}
use borrow.Author.Tests.{le-leb, lt-leb, leb-true, leb-false}
use lib.ListN.{length, get_or, get_or-eq_default}
use lib.Dec.{leb}
use Rattle.scope.specs.Choice.{between}
use Rattle.scope.specs.Iterate.{Next, go, stop, onward}
use Rattle.scope.specs.Item.{Attribute, Kind, plain, array, other, kind_of, Value, numbers_at, value_of, Pair, numbered, number_at, pair_of, pair_at, Scan, white, after, ended_with, on_pair, scan_item, scan_step, scan_from}
use Rattle.scope.proofs.Ends.{GoodPair, pair-good, after-le}
use Rattle.scope.proofs.ExchangeEdges.{after-again}
use Rattle.scope.proofs.Falls.{scan_step_lem}
use Rattle.items.specs.Rows.{rows_of, with_pair}
use Rattle.items.specs.Values.{told}
use Rattle.items.proofs.Rows.{length-rows, rows-stored}
use Rattle.white.proofs.Spaces.{after-white, after-black, after-end}

-- the numbers of a value are not all there, or they are
pub numbers-short : (s : List ℕ) (at first n w : ℕ) → length s < first + n * w → numbers_at s at first n w ≡ Value.no 5 at
unfolding numbers_at
numbers-short s at first n w h = rw (lt-leb _ _ h)

pub numbers-all : (s : List ℕ) (at first n w : ℕ) → first + n * w ≤ length s → numbers_at s at first n w ≡ Value.is n first (first + n * w)
unfolding numbers_at
numbers-all s at first n w h = rw (le-leb _ _ h)

-- 0xf8 right behind a value: no white space is passed
marked : (s : List ℕ) (p : ℕ) (past : Bool) → leb (length s) p ≡ past → get_or s p 0 ≡ 0xf8 → p < length s
marked s p false h e = leb-false (length s) p h
marked s p true h e = absurd (let z = get_or-eq_default s 0 (leb-true (length s) p h) in omega arith)

pub mark-within : (s : List ℕ) (p : ℕ) → get_or s p 0 ≡ 0xf8 → p < length s
mark-within s p = marked s p (leb (length s) p) refl

pub mark-next : (high : Bool) (s : List ℕ) (at count first p : ℕ) → get_or s p 0 ≡ 0xf8 → number_at high s at count first (after s p) ≡ numbered high s at count first p 1
unfolding number_at white
mark-next high s at count first p e =
    let h = mark-within s p e in
    let black : white (get_or s p 0) ≡ false = rw e refl in
    rw (after-black s p h black, lt-leb (length s) p h, e)

-- the pair of a value: cut, or its number right behind the value or after white space
pub ruleset pair_by = (numbers-short, numbers-all, mark-within, mark-next)

-- behind white space stands nothing white
pub black-after : (s : List ℕ) (at p : ℕ) → p ≡ after s at → p < length s → white (get_or s p 0) ≡ false
black-after s at p e h = by (white (get_or s p 0)) refl
  where
    by : (t : Bool) → white (get_or s p 0) ≡ t → t ≡ false
    by false w = refl
    by true w =
        let f : after s at ≡ after s p = after-again s at ∙ ap (after s) (sym e) in
        let g = after-white s p h w in
        let k = after-le true s (p + 1) in
        absurd (omega arith)

-- a value that was refused
data Refused : Value → Type 0 where
  refused : {code place : ℕ} → Refused (Value.no code place)

-- a pair was refused
abbrev IsNo : Pair → Type 0
IsNo (Pair.is r next) = ⊥
IsNo (Pair.no code place) = Unit {0}
IsNo Pair.waits = ⊥

-- by what is told of it: a pair that was read ends past its value's tag and within the bytes, and fewer than 16 come before it
abbrev Ends : ℕ → ℕ → ℕ → Next ℕ Scan → Type 0
Ends len at n (go next) = (at < next) × (next ≤ len) × (n < 16)
Ends len at n (stop r) = Unit {0}

ends : {len at n : ℕ} {p : Pair} → GoodPair len at p → (16 ≤ n → IsNo p) → Ends len at n (told len p)
ends (GoodPair.is h k) f = (h, k, omega (arith, f))
ends (GoodPair.no h) f = tt
ends GoodPair.waits f = tt

module _ (high : Bool) (s : List ℕ) where
  full-value : (at n : ℕ) (k : Kind) → 16 ≤ n → Refused (value_of high s at n k)
  unfolding value_of
  full-value at n (plain k w) h = rw (le-leb 16 n h) refused
  full-value at n (array w) h = rw (le-leb 16 n h) refused
  full-value at n other h = refused

  full-pair : (at : ℕ) {v : Value} → Refused v → IsNo (pair_of high s at v)
  unfolding pair_of
  full-pair at refused = tt

  -- so it is of every pair
  pub pair_ends : (at n : ℕ) (r : Next ℕ Scan) → r ≡ told (length s) (pair_at high s at n) → Ends (length s) at n r
  unfolding pair_at
  pair_ends at n r e = rw e (ends (pair-good high s at n) (λ h. full-pair at (full-value at n (kind_of (get_or s at 0)) h)))

  -- the scan after a pair, by what is told of it and the array that it left
  abbrev pub after_pair : Next ℕ Scan → List ℕ → ℕ → Scan
  after_pair (go next) a n = scan_from high s (record { at = next; attrs = rows_of a (suc n) })
  after_pair (stop r) a n = r

  -- that scan is the one of the definitions
  on-pair : (at : ℕ) (a : List ℕ) (n : ℕ) → length a ≡ 80 → (p : Pair) → Ends (length s) at n (told (length s) p)
      → onward (scan_from high s) (on_pair s (rows_of a n) p) ≡ after_pair (told (length s) p) (with_pair a n p) n
  unfolding on_pair
  on-pair at a n z (Pair.is r next) h =
      ap (λ (l : List Attribute). scan_from high s (record { at = next; attrs = l }))
      (sym (rows-stored a n r.number r.tag r.at r.count r.first (omega arith)))
  on-pair at a n z (Pair.no code place) h = refl
  on-pair at a n z Pair.waits h = refl

  module _ (at : ℕ) (l : List Attribute) where
    -- white space is passed
    pub scan_after : scan_from high s (record { at = at; attrs = l }) ≡ scan_from high s (record { at = after s at; attrs = l })
    unfolding scan_step
    scan_after =
        scan_step_lem high s (record { at = at; attrs = l })
        ∙ ap (λ (p : ℕ). onward (scan_from high s) (scan_item high s l p)) (after-again s at)
        ∙ sym (scan_step_lem high s (record { at = after s at; attrs = l }))

    pub scan_end : length s ≤ at → scan_from high s (record { at = at; attrs = l }) ≡ ended_with s l
    unfolding scan_step scan_item
    scan_end h = scan_step_lem high s (record { at = at; attrs = l }) ∙ rw (after-end s at h, le-leb _ _ h)

    module _ (h : at < length s) (black : white (get_or s at 0) ≡ false) where
      pub scan_tag : between 0x41 0xbf (get_or s at 0) ≡ true
          → scan_from high s (record { at = at; attrs = l }) ≡ Scan.tagged (get_or s at 0) at l
      unfolding scan_step scan_item
      scan_tag e = scan_step_lem high s (record { at = at; attrs = l }) ∙ rw (after-black s at h black, lt-leb _ _ h, e)

      -- any other byte starts a pair
      pub black-item : between 0x41 0xbf (get_or s at 0) ≡ false
          → scan_from high s (record { at = at; attrs = l }) ≡ onward (scan_from high s) (on_pair s l (pair_at high s at (length l)))
      unfolding scan_step scan_item
      black-item e = scan_step_lem high s (record { at = at; attrs = l }) ∙ rw (after-black s at h black, lt-leb _ _ h, e)

  -- the scan from `at` on, where white space ends at q: the end, a tag, or a pair that is read and stored
  module _ (at q : ℕ) (e : q ≡ after s at) where
    past : (l : List Attribute) → scan_from high s (record { at = at; attrs = l }) ≡ scan_from high s (record { at = q; attrs = l })
    past l = rw e (scan_after at l)

    pub at_end : (l : List Attribute) → length s ≤ q → scan_from high s (record { at = at; attrs = l }) ≡ ended_with s l
    at_end l h = past l ∙ scan_end q l h

    module _ (h : q < length s) where
      pub at_tag : (l : List Attribute) → between 0x41 0xbf (get_or s q 0) ≡ true
          → scan_from high s (record { at = at; attrs = l }) ≡ Scan.tagged (get_or s q 0) q l
      at_tag l b = past l ∙ scan_tag q l h (black-after s at q e h) b

      pub at_pair : (a : List ℕ) (n : ℕ) → between 0x41 0xbf (get_or s q 0) ≡ false → length a ≡ 80
          → (r : Next ℕ Scan) (b : List ℕ) → r ≡ told (length s) (pair_at high s q n) → b ≡ with_pair a n (pair_at high s q n)
          → scan_from high s (record { at = at; attrs = rows_of a n }) ≡ after_pair r b n
      at_pair a n t z r b f g =
          past (rows_of a n) ∙ black-item q (rows_of a n) h (black-after s at q e h) t
          ∙ rw (length-rows a n, f, g) (on-pair q a n z (pair_at high s q n) (pair_ends q n _ refl))
