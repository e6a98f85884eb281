-- 02, item 10: numbers of patterns as the code keeps them, in rows of 66: how many there are, and then the numbers. At most 64 patterns are defined at a time,
-- 32 of each persistence, so that 65 different numbers are as good as more: one of them is not defined.
-- Assumes nothing.
use Rattle.std.specs.Prelude.{ℕ, zero, suc, ◌+◌, ◌*◌, ◌≤◌, ◌<◌, min, ◌≡◌, List, [], ◌∷◌, length, get_or, leb}
use Rattle.scope.specs.Choice.{pick}
use Rattle.scope.specs.Session.{defined}

-- the rows behind those of the 64 motifs: what is defined for the page, for the session, and what the motif that is being judged selects
abbrev pub OfPage : ℕ
OfPage = 64

abbrev pub OfSession : ℕ
OfSession = 65

abbrev pub OfMotif : ℕ
OfMotif = 66

-- c numbers behind a place, the last one first
unfoldable pub numbers_to : (t : List ℕ) → (place c : ℕ) → List ℕ
numbers_to t place zero = []
numbers_to t place (suc c) = get_or t (place + suc c) 0 ∷ numbers_to t place c

-- the numbers of a row, the last one first
unfoldable pub numbers_in : (t : List ℕ) → (row : ℕ) → List ℕ
numbers_in t row = numbers_to t (row * 66) (min (get_or t (row * 66) 0) 65)

-- one number more, noted once; no more than 65
unfoldable pub noted : ℕ → List ℕ → List ℕ
noted n ns = pick (leb 65 (length ns)) ns (defined n ns)

-- what is noted of these numbers, of which the last one stands first
unfoldable pub collected : List ℕ → List ℕ
collected [] = []
collected (n ∷ ns) = noted n (collected ns)

-- as long as this is 0, no motif selects a pattern
abbrev pub selecting_in : List ℕ → ℕ
selecting_in t = get_or t 4422 0

-- behind the mark, one for each motif: not 0 if a call of the motif of row i is known to lack no pattern
abbrev pub known_in : List ℕ → (i : ℕ) → ℕ
known_in t i = get_or t (4423 + i) 0

-- every row but this one is as it was, and so is what is known of calls
pub record Others (t : List ℕ) (row : ℕ) (t₁ : List ℕ) : Type 0 where
  pub long : length t₁ ≡ length t
  pub same : (r : ℕ) → (r ≡ row → ⊥) → numbers_in t₁ r ≡ numbers_in t r
  pub known : (i : ℕ) → known_in t₁ i ≡ known_in t i

-- of the 67 rows that there are, every one but this one is as it was; the mark behind them and what is known of calls may be others
pub record OtherRows (t : List ℕ) (row : ℕ) (t₁ : List ℕ) : Type 0 where
  pub long : length t₁ ≡ length t
  pub same : (r : ℕ) → r < 67 → (r ≡ row → ⊥) → numbers_in t₁ r ≡ numbers_in t r

-- the 67 rows and the mark are as they were; what is known of calls may be other
pub record SameRows (t t₁ : List ℕ) : Type 0 where
  pub long : length t₁ ≡ length t
  pub rows : (r : ℕ) → r < 67 → numbers_in t₁ r ≡ numbers_in t r
  pub mark : selecting_in t₁ ≡ selecting_in t

-- of no call it is known that it lacks no pattern
pub record Unknown (t : List ℕ) : Type 0 where
  pub none : (i : ℕ) → i < 64 → known_in t i ≡ 0

-- where the rows say that no motif selects a pattern, none does
pub record Quiet (t : List ℕ) : Type 0 where
  pub none : selecting_in t ≡ 0 → (r : ℕ) → r < 64 → numbers_in t r ≡ []

-- as many are defined as there are places for
pub record Few (t : List ℕ) : Type 0 where
  pub page : length (numbers_in t OfPage) ≤ 32
  pub session : length (numbers_in t OfSession) ≤ 32
