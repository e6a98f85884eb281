-- Laws of the rows of attributes: how many they are, the last, and a row stored after them.
-- Assumes nothing.
use Prim.Native.Nat.{ℕ, zero, suc, ◌+◌, ◌*◌, ◌≤◌, ◌<◌}
use mathlib.Core.Path.{◌≡◌, refl, ap, ◌∙◌}
use mathlib.Core.List.{List, [], ◌∷◌, ◌++◌}
use native.Mathlib.Omega.{arith}
use native.Mathlib.Nat.{add-zero, zero-add}
use lib.ListN.{length, get_or, set, length-set}
use lib.Seq.{get_or-set_same, get_or-set_other}
use Rattle.scope.specs.Item.{Attribute, Pair, Scan, ended_with}
use Rattle.items.specs.Rows.{row_at, rows_from, rows_of, with_row, with_pair}

module _ (a : List ℕ) where
  pub rows-length : (i k : ℕ) → length (rows_from a i k) ≡ k
  unfolding rows_from
  rows-length i zero = refl
  rows-length i (suc k) = ap suc (rows-length (suc i) k)

  -- those before the last, and the last
  pub rows_last : (i k : ℕ) → rows_from a i (suc k) ≡ rows_from a i k ++ (row_at a (i + k) ∷ [])
  unfolding rows_from
  rows_last i zero = rw (add-zero i)
  rows_last i (suc k) =
      let e : suc i + k ≡ i + suc k = omega arith in
      ap (λ (l : List Attribute). row_at a i ∷ l) (rows_last (suc i) k ∙ ap (λ (j : ℕ). rows_from a (suc i) k ++ (row_at a j ∷ [])) e)

  pub length-rows : (n : ℕ) → length (rows_of a n) ≡ n
  unfolding rows_of
  length-rows n = rows-length 0 n

  pub rows_more : (n : ℕ) → rows_of a (suc n) ≡ rows_of a n ++ (row_at a n ∷ [])
  unfolding rows_of
  rows_more n = rows_last 0 n ∙ ap (λ (j : ℕ). rows_from a 0 n ++ (row_at a j ∷ [])) (zero-add n)

-- an attribute is stored as attribute n
module _ (a : List ℕ) (n number tag at count first : ℕ) where
  pub length-stored : length (with_row a n number tag at count first) ≡ length a
  unfolding with_row
  length-stored = simp length-set

  -- what stands before it stays
  before : (j : ℕ) → j < n * 5 → get_or (with_row a n number tag at count first) j 0 ≡ get_or a j 0
  unfolding with_row
  before j h =
      get_or-set_other (set (set (set (set a (n * 5) number) (n * 5 + 1) tag) (n * 5 + 2) at) (n * 5 + 3) count) (n * 5 + 4) j first 0 (omega arith)
      ∙ get_or-set_other (set (set (set a (n * 5) number) (n * 5 + 1) tag) (n * 5 + 2) at) (n * 5 + 3) j count 0 (omega arith)
      ∙ get_or-set_other (set (set a (n * 5) number) (n * 5 + 1) tag) (n * 5 + 2) j at 0 (omega arith)
      ∙ get_or-set_other (set a (n * 5) number) (n * 5 + 1) j tag 0 (omega arith)
      ∙ get_or-set_other a (n * 5) j number 0 (omega arith)

  row_before : (i : ℕ) → i < n → row_at (with_row a n number tag at count first) i ≡ row_at a i
  unfolding row_at
  row_before i h =
      let e₀ = before (i * 5) (omega arith) in
      let e₁ = before (i * 5 + 1) (omega arith) in
      let e₂ = before (i * 5 + 2) (omega arith) in
      let e₃ = before (i * 5 + 3) (omega arith) in
      let e₄ = before (i * 5 + 4) (omega arith) in
      λ k. record { number = e₀ k; tag = e₁ k; at = e₂ k; count = e₃ k; first = e₄ k }

  pub rows-kept : (i k : ℕ) → i + k ≤ n → rows_from (with_row a n number tag at count first) i k ≡ rows_from a i k
  unfolding rows_from
  rows-kept i zero h = refl
  rows-kept i (suc k) h = rw (row_before i (omega arith), rows-kept (suc i) k (omega arith))

  module _ (room : n * 5 + 4 < length a) where
    s₀ : List ℕ
    s₀ = set a (n * 5) number

    s₁ : List ℕ
    s₁ = set s₀ (n * 5 + 1) tag

    s₂ : List ℕ
    s₂ = set s₁ (n * 5 + 2) at

    s₃ : List ℕ
    s₃ = set s₂ (n * 5 + 3) count

    row-stored : row_at (with_row a n number tag at count first) n ≡ record { number = number; tag = tag; at = at; count = count; first = first }
    unfolding row_at with_row s₀ s₁ s₂ s₃
    row-stored =
        let l₀ : n * 5 < length a = omega arith in
        let l₁ : n * 5 + 1 < length s₀ = simp length-set (omega arith) in
        let l₂ : n * 5 + 2 < length s₁ = simp length-set (omega arith) in
        let l₃ : n * 5 + 3 < length s₂ = simp length-set (omega arith) in
        let l₄ : n * 5 + 4 < length s₃ = simp length-set room in
        let e₀ = get_or-set_other s₃ (n * 5 + 4) (n * 5) first 0 (omega arith) ∙ get_or-set_other s₂ (n * 5 + 3) (n * 5) count 0 (omega arith)
        ∙ get_or-set_other s₁ (n * 5 + 2) (n * 5) at 0 (omega arith) ∙ get_or-set_other s₀ (n * 5 + 1) (n * 5) tag 0 (omega arith) ∙ get_or-set_same a (n * 5) number 0 l₀ in
        let e₁ = get_or-set_other s₃ (n * 5 + 4) (n * 5 + 1) first 0 (omega arith) ∙ get_or-set_other s₂ (n * 5 + 3) (n * 5 + 1) count 0 (omega arith)
        ∙ get_or-set_other s₁ (n * 5 + 2) (n * 5 + 1) at 0 (omega arith) ∙ get_or-set_same s₀ (n * 5 + 1) tag 0 l₁ in
        let e₂ = get_or-set_other s₃ (n * 5 + 4) (n * 5 + 2) first 0 (omega arith) ∙ get_or-set_other s₂ (n * 5 + 3) (n * 5 + 2) count 0 (omega arith)
        ∙ get_or-set_same s₁ (n * 5 + 2) at 0 l₂ in
        let e₃ = get_or-set_other s₃ (n * 5 + 4) (n * 5 + 3) first 0 (omega arith) ∙ get_or-set_same s₂ (n * 5 + 3) count 0 l₃ in
        let e₄ = get_or-set_same s₃ (n * 5 + 4) first 0 l₄ in
        λ k. record { number = e₀ k; tag = e₁ k; at = e₂ k; count = e₃ k; first = e₄ k }

    -- the rows are those before, and the attribute that was stored
    pub rows-stored : rows_of (with_row a n number tag at count first) (suc n)
        ≡ rows_of a n ++ (record { number = number; tag = tag; at = at; count = count; first = first } ∷ [])
    unfolding rows_of
    rows-stored =
        rows_more (with_row a n number tag at count first) n
        ∙ rw (rows-kept 0 n (omega arith), row-stored)

-- storing a pair keeps the array's length
pub length-pair : (a : List ℕ) (n : ℕ) (p : Pair) → length (with_pair a n p) ≡ length a
length-pair a n (Pair.is r next) = length-stored a n r.number r.tag r.at r.count r.first
length-pair a n (Pair.no code place) = refl
length-pair a n Pair.waits = refl

-- 27 if attributes wait
pub ended-none : (a s : List ℕ) (n : ℕ) → n ≡ 0 → ended_with s (rows_of a n) ≡ Scan.ended
unfolding ended_with rows_of rows_from
ended-none a s n e = rw e

pub ended_some : (a s : List ℕ) (n : ℕ) → (n ≡ 0 → ⊥) → ended_with s (rows_of a n) ≡ Scan.no 27 (length s)
unfolding ended_with rows_of rows_from
ended_some a s zero h = absurd (h refl)
ended_some a s (suc n) h = refl
