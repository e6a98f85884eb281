-- The code's verdict in 01's words.
-- Assumes nothing.
use Rattle.std.specs.Prelude.{ℕ}
use Rattle.scope.specs.Verdict as scope
use Rattle.state.specs.declared.verdict.Verdict.{Verdict}

-- the five numbers of a verdict
abbrev pub verdict_as : Verdict → scope.Verdict
verdict_as v = record { code = v.code; position = v.position; inner = v.inner; records = v.records; performed = v.performed }

abbrev pub verdict_from : (code position inner records performed : ℕ) → scope.Verdict
verdict_from c p i n k = record { code = c; position = p; inner = i; records = n; performed = k }
