-- What a row of operators comes to: the plain arm's ends from two starts, with a set cursor and gray, and with no cursor and RGB, nothing saved. Cursor and
-- colour space do not influence each other, so these two say what the row does from any page.
-- Assumes nothing.
use Rattle.std.specs.Prelude.{ℕ, ◌+◌, ◌*◌, ◌/◌, ◌%◌, ◌≤◌, min, ◌≡◌, Bool, true, false, List, [], length, eqb}
use Rattle.scope.specs.Arm as scope
use Rattle.summary.specs.declared.summary.Ending.{Ending}
use Rattle.summary.specs.declared.summary.Summary.{Summary}
use Rattle.summary.specs.Balance.{Balanced}

-- the arm at a start: cursor set and gray, or cursor not set and RGB; nothing saved, nothing seen
unfoldable pub fresh : Bool → scope.Seen
fresh b = scope.from (record { cursor = b; gray = b; saved = [] }) 0

-- cursor and colour space after the row, and whether a cursor was needed and not set, or a colour space and another was set
pub record Ends (e : Ending) (w : scope.Seen) : Type 0 where
  pub cursor : e.cursor ≡ w.page.cursor
  pub gray : e.gray ≡ w.page.gray
  pub lost : e.lost ≡ w.lost
  pub wrong : e.wrong ≡ w.wrong

-- the summary of a balanced row: how many operators (past 1,000,000 only that), the most states it saves at a time (past 24 only that), whether it needs an
-- open source, and its ends from the two starts
pub record Sums (s : Summary) (row : List scope.Stroke) : Type 0 where
  pub balanced : Balanced row
  pub count : s.count ≡ min (length row) 1_000_001
  pub most : s.most ≡ min (scope.walk row (fresh true)).most 25
  pub source : s.source ≡ (scope.walk row (fresh true)).source
  pub a : (scope.walk row (fresh true)).most ≤ 24 → Ends s.a (scope.walk row (fresh true))
  pub b : (scope.walk row (fresh true)).most ≤ 24 → Ends s.b (scope.walk row (fresh false))

abbrev pub bit_of : Bool → ℕ
bit_of true = 1
bit_of false = 0

abbrev pub ending_bits : Ending → ℕ
ending_bits e = bit_of e.cursor + bit_of e.gray * 2 + bit_of e.lost * 4 + bit_of e.wrong * 8

-- an ending is four bits
unfoldable pub ending_of : ℕ → Ending
ending_of n = record { cursor = eqb (n % 2) 1; gray = eqb (n / 2 % 2) 1; lost = eqb (n / 4 % 2) 1; wrong = eqb (n / 8 % 2) 1 }

-- a summary is one number: 20 bits of count, 5 of most, 1 of source, and the two endings
unfoldable pub summary_of : ℕ → Summary
summary_of n =
    record {
      count = n / 16384 % 1_048_576;
      most = n / 512 % 32;
      source = eqb (n / 256 % 2) 1;
      a = ending_of (n / 16 % 16);
      b = ending_of (n % 16);
    }

-- the number n is the summary of a row
unfoldable pub SumsAs : ℕ → List scope.Stroke → Type 0
SumsAs n row = Sums (summary_of n) row
