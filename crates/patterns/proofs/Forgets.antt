-- What is known of calls stands behind the rows and the mark: a store there leaves both.
-- Assumes nothing.
use Prim.Native.Nat.{ℕ, ◌+◌, ◌*◌, ◌<◌}
use mathlib.Core.Logic.{◌≢◌}
use mathlib.Core.Path.{◌≡◌, refl, sym, ◌∙◌}
use mathlib.Core.List.{List}
use native.Mathlib.Omega.{arith}
use lib.ListN.{length, set, length-set}
use lib.Seq.{get_or-set_other}
use borrow.Rule.Slice.PartMut.{put_mid}
use Rattle.std.proofs.Common.{replicate, ◌≤◌}
use Rattle.std.proofs.lemmas.List.{get_or-replicate}
use Rattle.pattern_rows.specs.Numbers.{known_in, OtherRows, SameRows, Quiet}
use Rattle.patterns.proofs.Cells.{in_same, over-length, over-before, over-there}

-- what is not touched is the same
pub same_self : {t : List ℕ} → SameRows t t
same_self = record { long = refl; rows = λ r l. refl; mark = refl }

-- a store behind the mark leaves the rows and the mark
pub known_same : (t : List ℕ) (i v : ℕ) → SameRows t (set t (4423 + i) v)
known_same t i v =
    record {
      long = length-set t (4423 + i) v;
      rows = λ r l.
          in_same (set t (4423 + i) v) t r r
          (λ j m. let z : r * 66 + j ≢ 4423 + i = λ y. omega arith in get_or-set_other t (4423 + i) (r * 66 + j) v 0 z);
      mark = let z : 4422 ≢ 4423 + i = λ y. omega arith in get_or-set_other t (4423 + i) 4422 v 0 z;
    }

-- so many cells written over there
module _ (t zs : List ℕ) (n : ℕ) (long : length zs ≡ n) (room : 4423 + n ≤ length t) where
  pub forgotten_rows : SameRows t (put_mid 4423 n t zs)
  forgotten_rows =
      record {
        long = over-length 4423 n t zs long room;
        rows = λ r l. in_same (put_mid 4423 n t zs) t r r (λ j m. over-before 4423 n t zs long room (r * 66 + j) (omega arith));
        mark = over-before 4423 n t zs long room 4422 (omega arith);
      }

  pub forgotten-cells : zs ≡ replicate (length zs) 0 → (i : ℕ) → i < n → known_in (put_mid 4423 n t zs) i ≡ 0
  forgotten-cells e i l = over-there 4423 n t zs long room i l ∙ rw e (get_or-replicate (length zs) i 0 0 (omega arith))

-- what was so of the rows is so where the same rows are
module _ {u v : List ℕ} (s : SameRows u v) where
  pub rows_same : {row : ℕ} → OtherRows u row v
  rows_same = record { long = s.long; same = λ r l d. s.rows r l }

  pub quiet-too : Quiet u → Quiet v
  quiet-too q = record { none = λ z r l. let m : r < 67 = omega arith in s.rows r m ∙ q.none (sym s.mark ∙ z) r l }
