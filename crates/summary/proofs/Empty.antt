-- The number EMPTY is the summary of no operator.
-- Assumes nothing.
use mathlib.Core.Path.{refl}
use mathlib.Core.List.{[]}
use Rattle.scope.specs.Arm.{walk, from}
use Rattle.summary.specs.Balance.{Level, Balanced}
use Rattle.summary.specs.Sums.{fresh, ending_of, summary_of, SumsAs}

pub empty-sums : SumsAs 48 []
unfolding SumsAs summary_of ending_of Balanced Level walk fresh from
empty-sums =
    record {
      balanced = refl;
      count = refl;
      most = refl;
      source = refl;
      a = λ h. record { cursor = refl; gray = refl; lost = refl; wrong = refl };
      b = λ h. record { cursor = refl; gray = refl; lost = refl; wrong = refl };
    }
