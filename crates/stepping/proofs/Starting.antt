-- Before the first item, with tables that are all zero: the code stands where the definition starts, and no pattern is defined.
-- Assumes nothing.
use Prim.Native.Nat.{ℕ}
use mathlib.Core.Path.{◌≡◌, refl}
use mathlib.Core.Bool.{false}
use mathlib.Core.List.{List, []}
use Rattle.scope.specs.Setting.{Setting}
use Rattle.scope.specs.Judge.{starting}
use Rattle.scope.specs.Verdict.{zeros}
use Rattle.pattern_rows.specs.Numbers.{OfSession, numbers_to, numbers_in}
use Rattle.place.specs.Places.{outside_holds}
use Rattle.place.proofs.Starting.{quiet-zeros}
use Rattle.place.specs.declared.place.Place.TheVariants.{Outside}
use Rattle.state.specs.Standing.{Stands}
use Rattle.ruling.proofs.Turns.{starts}

pub stands-first : (set : Setting) (job list work : List ℕ) (next : ℕ)
    → Stands set job list (record { table = zeros 704; patterns = zeros 4487; work = work; list = list })
    (record { at = next; place = Outside false; performed = 0; records = 0 }) (starting next)
unfolding zeros
stands-first set job list work next = starts set job list _ _ next refl (outside_holds (quiet-zeros 4487)) refl refl refl refl

pub none_first : numbers_in (zeros 4487) OfSession ≡ []
unfolding zeros numbers_in numbers_to
none_first = refl
