-- What the patterns are after a motif became held: its row has the numbers that it selects.
-- Assumes nothing.
use Rattle.std.specs.Prelude.{ℕ, suc, ◌<◌, ◌≡◌, List}
use Rattle.pattern_rows.specs.Numbers.{OfMotif, numbers_in, OtherRows, Unknown, Quiet}

-- the row of the motif of this number has what the motif that was judged selects; every other row is as it was, and of no call it is known that it lacks none
pub record OwnKept (p : List ℕ) (number : ℕ) (p₁ : List ℕ) : Type 0 where
  pub row : ℕ
  pub is : number ≡ suc row
  pub below : row < 64
  pub own : numbers_in p₁ row ≡ numbers_in p OfMotif
  pub others : OtherRows p row p₁
  pub quiet : Quiet p → Quiet p₁
  pub unknown : Unknown p₁
