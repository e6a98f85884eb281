-- What ReadStream leaves in the work buffer: for all inputs, and where its data lies in the job and there is room for it.
-- Assumes nothing.
use Rattle.std.specs.Prelude.{ℕ, ◌+◌, ◌≤◌, ◌≡◌, ◌&&◌, List, ◌++◌, length, take, drop, leb}
use Rattle.scope.specs.Choice.{pick}
use Rattle.reader.specs.declared.reading.Operator.{Operator}
use Rattle.buffer.specs.Over.{joined_at}

-- count bytes of a job from first on, joined from `at` on, if they lie in the job and there is room for them in 16,384 bytes and in the buffer; else as it was
unfoldable pub block_joined : (job : List ℕ) (first count at : ℕ) → List ℕ → List ℕ
block_joined job first count at work =
    pick (leb (first + count) (length job) && leb (at + count) 16384) (joined_at (leb (at + count) (length work)) work at (take count (drop first job))) work

-- the data of the operator stands in the work buffer behind the bytes joined before, of which there are r then; the bytes held are as they were
pub record Joined (job : List ℕ) (o : Operator) (used joined : ℕ) (work work₁ : List ℕ) (r : ℕ) : Type 0 where
  pub more : r ≡ joined + o.length
  pub bytes : take r (drop used work₁) ≡ take joined (drop used work) ++ take o.length (drop o.first job)
  pub held : take used work₁ ≡ take used work

-- so it is if the data lies in the job and there is room for it
abbrev pub Joins : (job : List ℕ) (o : Operator) (used joined : ℕ) (work work₁ : List ℕ) → ℕ → Type 0
Joins job o used joined work work₁ r =
    16384 ≤ length work → o.first + o.length ≤ length job → used + joined + o.length ≤ 16384 → Joined job o used joined work work₁ r
