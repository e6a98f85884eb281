-- `marks`: the marks below i are made.
use Rattle.std.proofs.Common.{ℕ, ◌<◌, ◌≡◌, Bool}
use Rattle.calls.specs.Marks.{Adds}
use Rattle.calls.proofs.why.marks.Given as goal

abbrev pub invariant-loop-i : goal.invariant-loop-i
invariant-loop-i g l = (f : ℕ → Bool) → ((i : ℕ) (b : Bool) → i < l.n → goal.F-post g l.test i b → b ≡ f i) → Adds l.own f l.i l.out
