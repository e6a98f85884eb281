-- A row that was copied has the numbers of the row that it was copied from, and the others are as they were.
-- Assumes nothing.
use Prim.Native.Nat.{ℕ, ◌+◌, ◌*◌, ◌-◌, ◌≤◌, ◌<◌}
use mathlib.Core.Path.{◌≡◌, refl, ◌∙◌}
use mathlib.Core.Bool.{Bool, true, false}
use mathlib.Core.List.{List}
use native.Mathlib.Omega.{arith}
use lib.ListN.{length, get_or, set, length-set}
use lib.Dec.{leb}
use borrow.Author.Tests.{leb-true, leb-false}
use borrow.Rule.Slice.PartMut.{put_mid}
use borrow.Author.Rules.{rules}
use Rattle.std.specs.List.{CopiedTo, SameBelow, SameFrom}
use Rattle.pattern_rows.specs.Numbers.{numbers_in, selecting_in, Others, OtherRows, OfMotif}
use Rattle.patterns.proofs.Cells.{in_same, set-rows, over-length, over-before, over-there, over-behind}

-- i cells from q of s on stand from p on, where others stood before; all else is as it was
pub record Copied (s : List ℕ) (q : ℕ) (t₀ : List ℕ) (p i : ℕ) (t : List ℕ) : Type 0 where
  pub long : length t ≡ length t₀
  pub cells : (k : ℕ) → k < i → get_or t (p + k) 0 ≡ get_or s (q + k) 0
  pub before : (j : ℕ) → j < p → get_or t j 0 ≡ get_or t₀ j 0
  pub behind : (j : ℕ) → p + i ≤ j → get_or t j 0 ≡ get_or t₀ j 0

-- 66 cells written over, or moved within the list
pub copied_over : (s t zs : List ℕ) (p : ℕ) → zs ≡ s → length zs ≡ 66 → p + 66 ≤ length t → Copied s 0 t p 66 (put_mid p 66 t zs)
copied_over s t zs p f e h =
    record {
      long = over-length p 66 t zs e h;
      cells = λ k l. let z : 0 + k ≡ k = omega arith in rw (z, ← f) (over-there p 66 t zs e h k l);
      before = over-before p 66 t zs e h;
      behind = over-behind p 66 t zs e h;
    }

pub copied_within : (t t₁ : List ℕ) (q p : ℕ) → length t₁ ≡ length t → CopiedTo t t₁ q p 66 → SameBelow t t₁ p → SameFrom t t₁ (p + 66) → Copied t q t p 66 t₁
copied_within t t₁ q p e c b f =
    record {
      long = e;
      cells = λ k l. let z : p + k - p ≡ k = omega arith in rw z at (c (p + k) 0 (omega arith) (omega arith));
      before = λ j l. search (rules, b);
      behind = λ j l. search (rules, f);
    }

-- a row that was copied whole
module _ {s : List ℕ} (q : ℕ) {t₀ : List ℕ} (row : ℕ) {t : List ℕ} (w : Copied s (q * 66) t₀ (row * 66) 66 t) where
  pub copied_row : numbers_in t row ≡ numbers_in s q
  copied_row = in_same t s row q w.cells

  copied_rows : (r : ℕ) → (r ≡ row → ⊥) → numbers_in t r ≡ numbers_in t₀ r
  copied_rows r d = in_same t t₀ r r (λ k l. by r d k l (leb (row * 66) (r * 66 + k)) refl)
    where
      by : (r : ℕ) → (r ≡ row → ⊥) → (k : ℕ) → k < 66 → (b : Bool) → leb (row * 66) (r * 66 + k) ≡ b → get_or t (r * 66 + k) 0 ≡ get_or t₀ (r * 66 + k) 0
      by r d k l true b = let m : row * 66 + 66 ≤ r * 66 + k = omega (arith, leb-true (row * 66) (r * 66 + k) b, d) in w.behind (r * 66 + k) m
      by r d k l false b = let m : r * 66 + k < row * 66 = omega (arith, leb-false (row * 66) (r * 66 + k) b) in w.before (r * 66 + k) m

  pub copied_others : row < 67 → Others t₀ row t
  copied_others h =
      record { long = w.long; same = copied_rows; known = λ i. let m : row * 66 + 66 ≤ 4423 + i = omega arith in w.behind (4423 + i) m }

  pub copied_selecting : row < 67 → selecting_in t ≡ selecting_in t₀
  copied_selecting h = let m : row * 66 + 66 ≤ 4422 = omega arith in w.behind 4422 m

-- a row that was written leaves the other 67
pub rows-others : {t₀ : List ℕ} (row : ℕ) {t : List ℕ} → Others t₀ row t → OtherRows t₀ row t
rows-others row o = record { long = o.long; same = λ r l d. o.same r d }

-- one that selects some is held in another row, and the mark is set
module _ {t₀ : List ℕ} (row : ℕ) {t : List ℕ} (h : row < 64) (w : Copied t₀ (OfMotif * 66) t₀ (row * 66) 66 t) where
  -- the mark is no cell of a row
  mark-same : (v r : ℕ) → r < 67 → numbers_in (set t 4422 v) r ≡ numbers_in t r
  mark-same v r l = let z : r ≡ 67 → ⊥ = λ y. omega arith in set-rows t 67 0 v (omega arith) r z

  pub row-marked : (v : ℕ) → numbers_in (set t 4422 v) row ≡ numbers_in t₀ OfMotif
  row-marked v = let l : row < 67 = omega arith in mark-same v row l ∙ copied_row OfMotif row w

  pub others-marked : (v : ℕ) → OtherRows t₀ row (set t 4422 v)
  others-marked v = record { long = length-set t 4422 v ∙ w.long; same = λ r l d. mark-same v r l ∙ copied_rows OfMotif row w r d }
