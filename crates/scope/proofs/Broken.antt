-- Lists of rules: of two, one behind the other, the first rule broken is the first list's, or else the second's; and where none is broken, each is kept to.
-- Assumes nothing.
use Prim.Native.Nat.{ℕ}
use mathlib.Core.Path.{◌≡◌, refl}
use mathlib.Core.Bool.{Bool, true, false, ◌&&◌}
use mathlib.Core.List.{List, [], ◌∷◌, ◌++◌}
use Rattle.scope.specs.Choice.{pick}
use Rattle.scope.specs.Motif.{Judged, valid, faulty}
use Rattle.scope.specs.Judge.{Case, Rule, rule, motifs_own, Refusal, own_or, first_broken, outer}
use Rattle.scope.specs.Verdict.{every}
use Rattle.scope.specs.Claims.{BreaksNone}
use Rattle.scope.proofs.Apart.{is_none}

-- a refusal, or else another
abbrev pub or_else : Refusal → Refusal → Refusal
or_else Refusal.none r = r
or_else (Refusal.refused code inner) r = Refusal.refused code inner

pub first-none : (a b : Refusal) → or_else a b ≡ Refusal.none → a ≡ Refusal.none
first-none Refusal.none b e = refl
first-none (Refusal.refused code inner) b e = absurd (is_none e)

pub second_none : (a b : Refusal) → or_else a b ≡ Refusal.none → b ≡ Refusal.none
second_none Refusal.none b e = e
second_none (Refusal.refused code inner) b e = absurd (is_none e)

pub first-append : (given : ℕ → Bool) (c : Case) (xs ys : List Rule)
    → first_broken given c (xs ++ ys) ≡ or_else (first_broken given c xs) (first_broken given c ys)
unfolding first_broken
first-append given c [] ys = refl
first-append given c (rule k broken ∷ xs) ys = by (given k && broken c) (first-append given c xs ys)
  where
    by : (b : Bool) → first_broken given c (xs ++ ys) ≡ or_else (first_broken given c xs) (first_broken given c ys)
        → pick b (Refusal.refused k outer) (first_broken given c (xs ++ ys)) ≡ or_else (pick b (Refusal.refused k outer) (first_broken given c xs)) (first_broken given c ys)
    by true e = refl
    by false e = e
first-append given c (motifs_own ∷ xs) ys = by c.made (first-append given c xs ys)
  where
    by : (m : Judged) → first_broken given c (xs ++ ys) ≡ or_else (first_broken given c xs) (first_broken given c ys)
        → own_or m (first_broken given c (xs ++ ys)) ≡ or_else (own_or m (first_broken given c xs)) (first_broken given c ys)
    by (valid ops) e = e
    by (faulty code inner) e = refl

-- where no rule refuses, none is broken
pub breaks-none : (c : Case) (rs : List Rule) → first_broken every c rs ≡ Refusal.none → BreaksNone c rs
unfolding first_broken
breaks-none c [] e = BreaksNone.none
breaks-none c (rule k broken ∷ rs) e = by (broken c) refl e (breaks-none c rs)
  where
    by : (b : Bool) → broken c ≡ b → pick b (Refusal.refused k outer) (first_broken every c rs) ≡ Refusal.none → (first_broken every c rs ≡ Refusal.none → BreaksNone c rs)
        → BreaksNone c (rule k broken ∷ rs)
    by true f g h = absurd (is_none g)
    by false f g h = BreaksNone.kept f (h g)
breaks-none c (motifs_own ∷ rs) e = by c.made refl e (breaks-none c rs)
  where
    by : (m : Judged) → c.made ≡ m → own_or m (first_broken every c rs) ≡ Refusal.none → (first_broken every c rs ≡ Refusal.none → BreaksNone c rs) → BreaksNone c (motifs_own ∷ rs)
    by (valid ops) f g h = BreaksNone.sound f (h g)
    by (faulty code inner) f g h = absurd (is_none g)
