-- Pages that are alike in each part, and how many states are saved after an effect.
-- Assumes nothing.
use Prim.Native.Nat.{ℕ, ◌≤◌, max}
use native.Mathlib.Omega.{arith}
use mathlib.Core.Path.{◌≡◌}
use mathlib.Core.List.{List, [], ◌∷◌}
use lib.ListN.{length}
use Rattle.scope.specs.Arm.{Saved, Page, restored, done, Effect, push, pop, put, risen}

pub page-eq : {p q : Page} → p.cursor ≡ q.cursor → p.gray ≡ q.gray → p.saved ≡ q.saved → p ≡ q
page-eq a b c i = record { cursor = a i; gray = b i; saved = c i }

within-restored : (ss : List Saved) (p : Page) (k : ℕ) → length ss ≤ k → length p.saved ≤ k → length (restored ss p).saved ≤ k
within-restored [] p k h j = j
within-restored (s ∷ ss) p k h j = omega arith

-- what an effect saves beyond what was saved at first is noted
pub within-done : (e : Effect) (p : Page) (k m : ℕ) → length p.saved ≤ max k m → length (done e p).saved ≤ max k (risen e p m)
unfolding done risen
within-done push p k m h = omega arith
within-done pop p k m h = within-restored p.saved p (max k m) h h
within-done (put c g) p k m h = h
