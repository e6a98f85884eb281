-- 02, item 10: the patterns that motifs select, and what the code keeps of them.
-- Assumes nothing.
use Rattle.std.specs.Prelude.{ℕ, ◌≡◌, Bool, false, List, [], ◌∷◌}
use Rattle.scope.specs.Arm.{Stroke, wanted}
use Rattle.scope.specs.Motif.{Own, does, calls, Motif}
use Rattle.scope.specs.Calls.{unfolded}
use Rattle.scope.specs.Judge.{some_missing}
use Rattle.motif.specs.Held.{InRow}
use Rattle.pattern_rows.specs.Numbers.{OfPage, OfSession, numbers_in, known_in, collected, Quiet}

-- the numbers that the operators of a motif select themselves, the last one first, before these
unfoldable pub selects_from : List Own → List ℕ → List ℕ
selects_from [] ns = ns
selects_from (does o a ∷ os) ns = selects_from os (wanted a.select ns)
selects_from (calls o n ∷ os) ns = selects_from os ns

abbrev pub selects_in : List Own → List ℕ
selects_in ops = selects_from ops []

-- the numbers that a row of operators selects, the last one first, before these
unfoldable pub wants_from : List Stroke → List ℕ → List ℕ
wants_from [] ns = ns
wants_from (x ∷ l) ns = wants_from l (wanted x.act.select ns)

-- one of these numbers is defined neither for the page nor for the session
abbrev pub missing_of : (t ns : List ℕ) → Bool
missing_of t ns = some_missing (numbers_in t OfPage) (numbers_in t OfSession) ns

-- the rows of these motifs are what each of them selects itself; where it is known that a call lacks no pattern, it lacks none
pub record Selects (t : List ℕ) (ms : List Motif) : Type 0 where
  pub at : (i : ℕ) (m : Motif) → InRow ms i m → numbers_in t i ≡ collected (selects_in m.ops)
  pub quiet : Quiet t
  pub known : (i : ℕ) (m : Motif) → InRow ms i m → (known_in t i ≡ 0 → ⊥) → missing_of t (wants_from (unfolded ms 32 [] m.name) []) ≡ false
