-- `judge_noting`: the header, the class, then the operators. What the first two refuse is not valid, and nothing is said of what is noted.
-- Assumes nothing.
use mathlib.Core.Path.{◌≡◌, refl, sym}
use mathlib.Core.Bool.{true, false, not, true≢false}
use denote.Enum.Bare.{sameb}
use Rattle.std.proofs.lemmas.Result.{err_from_is_err_and}
use Rattle.scope.specs.Setting.{same_class}
use Rattle.setting.specs.Views.{class_as}
use Rattle.setting.specs.declared.setting.Class.{Class}
use Rattle.setting.specs.declared.setting.Class.TheVariants.{One, Two}
use Rattle.setting.specs.contracts.setting.Class.{the_type}
use Rattle.within.specs.Judging.{judges_faulty}
use Rattle.stream.proofs.Walking.{faulty-valid}
use Rattle.scope.specs.Motif.{motif_of, motif_from}
use Rattle.stream.proofs.judging.judge_noting.Goals as goal

-- the derived comparison is that of the definition
other : (a b : Class) → true ≡ not (sameb the_type a b) → same_class (class_as a) (class_as b) ≡ false
other One One h = absurd (true≢false h)
other One Two h = refl
other Two One h = refl
other Two Two h = absurd (true≢false h)

alike : (a b : Class) → false ≡ not (sameb the_type a b) → same_class (class_as a) (class_as b) ≡ true
alike One One h = refl
alike One Two h = absurd (true≢false (sym h))
alike Two One h = absurd (true≢false (sym h))
alike Two Two h = refl

pub returns-in_err-header-clause-judges : goal.returns-in_err-header-clause-judges
unfolding motif_of motif_from
returns-in_err-header-clause-judges c = let q = err_from_is_err_and c.from_residual.result c.from_residual.ensures.1 in
    λ ms k. rw (q.1, q.2, ← c.in_err-header.ensures.result_value) judges_faulty

pub returns-in_err-header-clause-own_after : goal.returns-in_err-header-clause-own_after
unfolding motif_of motif_from
returns-in_err-header-clause-own_after c = λ ms ops k n v. faulty-valid (rw (← c.in_err-header.ensures.result_value) at v)

pub returns-then-ne-clause-judges : goal.returns-then-ne-clause-judges
unfolding motif_of motif_from
returns-then-ne-clause-judges c = let z = other _ _ c.if-ne.ensures in
    λ ms k. rw (← c.in_ok-header.ensures.result_value, z) judges_faulty

pub returns-then-ne-clause-own_after : goal.returns-then-ne-clause-own_after
unfolding motif_of motif_from
returns-then-ne-clause-own_after c = let z = other _ _ c.if-ne.ensures in
    λ ms ops k n v. faulty-valid (rw (← c.in_ok-header.ensures.result_value, z) at v)

pub returns-clause-judges : goal.returns-clause-judges
unfolding motif_of motif_from
returns-clause-judges c = let z = alike _ _ c.if-ne.ensures in
    λ ms k. rw (← c.in_ok-header.ensures.result_value, z) (c.operators.ensures.judges ms refl k)

pub returns-clause-own_after : goal.returns-clause-own_after
unfolding motif_of motif_from
returns-clause-own_after c = let z = alike _ _ c.if-ne.ensures in
    λ ms ops k n v. (c.operators.ensures.notes ms ops refl k n (rw (← c.in_ok-header.ensures.result_value, z) at v)).are
