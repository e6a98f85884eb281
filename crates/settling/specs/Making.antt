-- How far the table is made anew: the rows that are noted, the rounds that are done, and where a round stands.
-- Assumes nothing.
use Rattle.std.specs.Prelude.{ℕ, suc, ◌≤◌, ◌<◌, ◌≡◌, not, List, eqb}
use Rattle.scope.specs.Setting.{Setting}
use Rattle.scope.specs.Motif.{Motif}
use Rattle.scope.specs.Sound.{Sound}
use Rattle.summary.specs.Sums.{SumsAs}
use Rattle.key.specs.Mark.{mark}
use Rattle.motif.specs.Held.{Keeps, InRow, level_in, sum_in, calls_in, missing_in}
use Rattle.motif.specs.Tables.{calls_row, lacks_one, Noted, level_of, settled_row, Settled}
use Rattle.motif.specs.Stored.{Stores}

-- the store has the motifs, and each is what its bytes say
pub record InStore (set : Setting) (work : List ℕ) (ms : List Motif) : Type 0 where
  pub stores : Stores work ms
  pub sound : Sound set ms

-- the first i rows are noted: whom each motif calls, and whether it names one that is not held; none of them has a level or comes to anything yet
pub record NotedTo (t : List ℕ) (n : ℕ) (ms : List Motif) (i : ℕ) : Type 0 where
  pub keeps : Keeps t n ms
  pub whom : (k j : ℕ) (m : Motif) → InRow ms k m → k < i → j < n → mark (calls_in t k) j ≡ calls_row ms m.ops j
  pub lacks : (k : ℕ) (m : Motif) → InRow ms k m → k < i → not (eqb (missing_in t k) 0) ≡ lacks_one ms m.ops
  pub unsettled : (k : ℕ) (m : Motif) → InRow ms k m → k < i → level_in t k ≡ 0
  pub empty : (k : ℕ) (m : Motif) → InRow ms k m → k < i → sum_in t k ≡ 48

-- all rows are noted, and d rounds are done
pub record Rounded (t : List ℕ) (n : ℕ) (ms : List Motif) (d : ℕ) : Type 0 where
  pub keeps : Keeps t n ms
  pub noted : Noted t n ms
  pub settled : Settled t ms d

-- in the round after d, the motifs of the first i rows have had their turn
pub record Turned (t : List ℕ) (n : ℕ) (ms : List Motif) (d i : ℕ) : Type 0 where
  pub keeps : Keeps t n ms
  pub noted : Noted t n ms
  pub done : (k : ℕ) (m : Motif) → InRow ms k m → k < i → level_in t k ≡ level_of ms (suc d) m.name
  pub todo : (k : ℕ) (m : Motif) → InRow ms k m → i ≤ k → level_in t k ≡ level_of ms d m.name
  pub summed : (k : ℕ) (m : Motif) → InRow ms k m → SumsAs (sum_in t k) (settled_row ms (level_in t k) m.name)
