-- What a call comes to.
-- Assumes nothing.
use Rattle.std.specs.Prelude.{ℕ, ◌≡◌, true, false, Result, Ok, Err, List, []}
use Rattle.scope.specs.Motif.{Motif}
use Rattle.scope.specs.Calls.{unfolded, nothing, met}
use Rattle.scope.specs.Judge.{some_missing}
use Rattle.summary.specs.Sums.{SumsAs}
use Rattle.patterns.specs.Selects.{wants_from}
use Rattle.calls.specs.declared.calls.Called.{Called}
use Rattle.refusal.specs.declared.code.Code.{Code}
use Rattle.refusal.specs.declared.code.Code.TheVariants as code_is

-- a call of a name, where these motifs are held and these patterns defined: it meets nothing, its motif has this summary, and it is told whether a pattern that is
-- selected there is not defined; or the code of the first of 21, 32, 22 that it meets
pub data Calls (of_page of_session : List ℕ) (ms : List Motif) (name : List ℕ) : Result Called Code → Type 0 where
  calls_sum : {r : Called} → met ms 32 [] name ≡ nothing → SumsAs r.sum (unfolded ms 32 [] name)
      → r.bare ≡ some_missing of_page of_session (wants_from (unfolded ms 32 [] name) []) → Calls of_page of_session ms name (Ok r)
  calls_missing : (met ms 32 [] name).missing ≡ true → Calls of_page of_session ms name (Err code_is.NotHeld)
  calls_again : (met ms 32 [] name).missing ≡ false → (met ms 32 [] name).again ≡ true → Calls of_page of_session ms name (Err code_is.Ring)
  calls_deep : (met ms 32 [] name).missing ≡ false → (met ms 32 [] name).again ≡ false → (met ms 32 [] name).deep ≡ true → Calls of_page of_session ms name (Err code_is.Deep)
