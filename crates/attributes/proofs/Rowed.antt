-- The attributes of the lent array, one by one, and the first of a number among them.
-- Assumes nothing.
use Prim.Native.Nat.{ℕ, zero, suc, ◌+◌, ◌-◌, ◌*◌, ◌≤◌, ◌<◌}
use mathlib.Core.Path.{◌≡◌, refl, ap, ◌∙◌}
use mathlib.Core.Bool.{Bool, true, false}
use mathlib.Core.List.{List, [], ◌∷◌, ◌++◌}
use native.Mathlib.Omega.{arith}
use native.Mathlib.Numerals.{add-one}
use lib.ListN.{get_or, take, drop}
use Rattle.std.proofs.Common.{Option, Some, None}
use lib.Dec.{eqb}
use borrow.Author.Tests.{eq-eqb}
use Rattle.scope.specs.Choice.{pick}
use Rattle.scope.specs.Number.{number as number_in}
use Rattle.scope.specs.Item.{Attribute}
use Rattle.scope.specs.Attributes.{has, first_of, value_in, long_bytes, long_in, bytes_in}
use Rattle.items.specs.Rows.{row_at, rows_from, rows_of}
use Rattle.attributes.specs.Places.{place_from, place_of}

module _ (a : List ℕ) where
  pub rows_more : (i n : ℕ) → i < n → rows_from a i (n - i) ≡ row_at a i ∷ rows_from a (i + 1) (n - (i + 1))
  unfolding rows_from
  rows_more i n h =
      let e : n - i ≡ suc (n - (i + 1)) = omega arith in
      rw (e, add-one)

  pub rows_end : (i n : ℕ) → n ≤ i → rows_from a i (n - i) ≡ []
  unfolding rows_from
  rows_end i n h =
      let e : n - i ≡ 0 = omega arith in
      rw e

  rows_last : (i k : ℕ) → rows_from a i (suc k) ≡ rows_from a i k ++ (row_at a (i + k) ∷ [])
  unfolding rows_from
  rows_last i zero =
      let e : i + 0 ≡ i = omega arith in
      rw e
  rows_last i (suc k) =
      let e : i + suc k ≡ suc i + k = omega arith in
      rw e (ap (λ (l : List Attribute). row_at a i ∷ l) (rows_last (suc i) k))

  -- the attributes before one, and that one
  pub rows_before : (i : ℕ) → rows_of a (i + 1) ≡ rows_of a i ++ (row_at a i ∷ [])
  unfolding rows_of
  rows_before i =
      let e : 0 + i ≡ i = omega arith in
      rw add-one (rw e at (rows_last 0 i))

  pub place-more : (number i n : ℕ) → i < n → place_from i number (rows_from a i (n - i))
      ≡ pick (eqb (row_at a i).number number) (Some i) (place_from (i + 1) number (rows_from a (i + 1) (n - (i + 1))))
  unfolding place_from
  place-more number i n h = rw (rows_more i n h, add-one)

  pub place_end : (number i n : ℕ) → n ≤ i → place_from i number (rows_from a i (n - i)) ≡ None
  unfolding place_from
  place_end number i n h = rw (rows_end i n h)

-- what the first attribute of a number gives, or d
unfoldable pub first_in : {A : Type 0} → (Attribute → A) → A → ℕ → List Attribute → A
first_in f d n [] = d
first_in f d n (a ∷ l) = pick (eqb a.number n) (f a) (first_in f d n l)

has_first : (n : ℕ) (l : List Attribute) → has n l ≡ first_in (λ a. true) false n l
unfolding has first_in
has_first n [] = refl
has_first n (a ∷ l) = rw (has_first n l)

value-first : (high : Bool) (s : List ℕ) (l : List Attribute) (n : ℕ) → value_in high s l n ≡ first_in (first_of high s) 0 n l
unfolding value_in first_in
value-first high s [] n = refl
value-first high s (a ∷ l) n = rw (value-first high s l n)

long-first : (high : Bool) (s : List ℕ) (l : List Attribute) (n : ℕ) → long_in high s l n ≡ first_in (λ a. number_in high (long_bytes a.tag) s a.first) 0 n l
unfolding long_in first_in
long-first high s [] n = refl
long-first high s (a ∷ l) n = rw (long-first high s l n)

bytes-first : (s : List ℕ) (l : List Attribute) (n : ℕ) → bytes_in s l n ≡ first_in (λ a. take a.count (drop a.first s)) [] n l
unfolding bytes_in first_in
bytes-first s [] n = refl
bytes-first s (a ∷ l) n = rw (bytes-first s l n)

-- what is given of the place of the first, or d
abbrev pub of_place : {A : Type 0} → (ℕ → A) → A → Option ℕ → A
of_place f d None = d
of_place f d (Some p) = f p

module _ {A : Type 0} (f : Attribute → A) (d : A) (number : ℕ) (a : List ℕ) where
  -- by its place
  first-place : (i k : ℕ) → first_in f d number (rows_from a i k) ≡ of_place (λ p. f (row_at a p)) d (place_from i number (rows_from a i k))
  unfolding first_in place_from rows_from
  first-place i zero = refl
  first-place i (suc k) = hit (eqb (row_at a i).number number) (first-place (suc i) k)
    where
      hit : (b : Bool) → first_in f d number (rows_from a (suc i) k) ≡ of_place (λ p. f (row_at a p)) d (place_from (suc i) number (rows_from a (suc i) k))
          → pick b (f (row_at a i)) (first_in f d number (rows_from a (suc i) k))
          ≡ of_place (λ p. f (row_at a p)) d (pick b (Some i) (place_from (suc i) number (rows_from a (suc i) k)))
      hit true q = refl
      hit false q = q

  first_at : (n : ℕ) (p : Option ℕ) → p ≡ place_of number (rows_of a n) → first_in f d number (rows_of a n) ≡ of_place (λ q. f (row_at a q)) d p
  unfolding place_of rows_of
  first_at n p e = rw e (first-place 0 n)

module _ (number : ℕ) (a : List ℕ) (n : ℕ) (p : Option ℕ) (place : p ≡ place_of number (rows_of a n)) where
  pub has-at : has number (rows_of a n) ≡ of_place (λ q. true) false p
  has-at = has_first number (rows_of a n) ∙ first_at (λ b. true) false number a n p place

  pub value-at : (high : Bool) (s : List ℕ) → value_in high s (rows_of a n) number ≡ of_place (λ q. first_of high s (row_at a q)) 0 p
  value-at high s = value-first high s (rows_of a n) number ∙ first_at (first_of high s) 0 number a n p place

  pub long-at : (high : Bool) (s : List ℕ) → long_in high s (rows_of a n) number ≡ of_place (λ q. number_in high (long_bytes (row_at a q).tag) s (row_at a q).first) 0 p
  long-at high s = long-first high s (rows_of a n) number ∙ first_at (λ b. number_in high (long_bytes b.tag) s b.first) 0 number a n p place

  pub bytes-at : (s : List ℕ) → bytes_in s (rows_of a n) number ≡ of_place (λ q. take (row_at a q).count (drop (row_at a q).first s)) [] p
  bytes-at s = bytes-first s (rows_of a n) number ∙ first_at (λ b. take b.count (drop b.first s)) [] number a n p place

-- a row of this number is among them
either_way : (b t : Bool) → t ≡ true → pick b true t ≡ true
either_way true t e = refl
either_way false t e = e

row-among : (a : List ℕ) (j k m number : ℕ) → m < k → (row_at a (j + m)).number ≡ number → has number (rows_from a j k) ≡ true
unfolding has rows_from
row-among a j zero m number h e = absurd (omega arith)
row-among a j (suc k) zero number h e = let z : j + 0 ≡ j = omega arith in rw (eq-eqb (row_at a j).number number (rw z at e))
row-among a j (suc k) (suc m) number h e =
    let z : j + suc m ≡ suc j + m = omega arith in
    either_way (eqb (row_at a j).number number) (has number (rows_from a (suc j) k)) (row-among a (suc j) k m number (omega arith) (rw z at e))

pub row-there : (a : List ℕ) (n i number : ℕ) → i < n → get_or a (i * 5) 0 ≡ number → has number (rows_of a n) ≡ true
unfolding rows_of row_at
row-there a n i number h e = let z : 0 + i ≡ i = omega arith in row-among a 0 n i number h (rw z e)
