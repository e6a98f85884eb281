-- Where the job is read to its end the definition reads nothing more.
-- Assumes nothing.
use Prim.Native.Nat.{ℕ, ◌≤◌}
use mathlib.Core.Path.{◌≡◌, ap, ◌∙◌}
use mathlib.Core.List.{List, []}
use lib.ListN.{length}
use Rattle.items.proofs.Pairs.{scan_end}
use Rattle.scope.specs.Item.{scan_at, ended_with}
use Rattle.scope.specs.Reading.{Context, Read, scanned, operator_at}
use Rattle.scope.specs.Setting.{Setting}
use Rattle.scope.specs.Judge.{State, context_of, refused_at, job_step, outer}
use Rattle.scope.specs.Verdict.{every, told}
use Rattle.state.specs.Views.{verdict_as}
use Rattle.state.specs.Standing.{Listed, Lent, Steps, end_code}
use Rattle.std.specs.declared.ops.ControlFlow.TheVariants.{Break}
use Rattle.state.specs.declared.verdict.Verdict.{Verdict}
use Rattle.ruling.proofs.Turns.{stopped, step-ended}

read-end : (c : Context) (s : List ℕ) (at : ℕ) → length s ≤ at → operator_at c s at ≡ Read.ended
unfolding operator_at scan_at scanned ended_with
read-end c s at h = rw (scan_end c.set.high s at [] h)

-- so it ends with the code of the end
pub steps-end : {job list₀ : List ℕ} {l : Lent} (set : Setting) (d : State) (v : Verdict) (code : ℕ) → length job ≤ d.at → Listed list₀ d.past l.list
    → code ≡ end_code d.place → verdict_as v ≡ told (refused_at code (length job) outer d)
    → Steps set job list₀ l (Break v) (job_step every set job (length list₀) d)
steps-end {job} {list₀} set d v code h k e f =
    stopped v (job_step every set job (length list₀) d) (end_code d.place) (length job) outer k
    (step-ended set job (length list₀) d (read-end (context_of every set d.place) job d.at h))
    (f ∙ ap (λ x. told (refused_at x (length job) outer d)) e)
