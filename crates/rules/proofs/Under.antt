-- For callers: attributes found fine have numbers below 256, a line found fine is fine in both its parts, and reading goes by a line's fault.
-- Assumes nothing.
use Prim.Native.Nat.{ℕ, zero, suc, ◌+◌, ◌<◌}
use mathlib.Core.Path.{◌≡◌, refl, ap}
use mathlib.Core.Bool.{Bool, true, false, false≢true}
use mathlib.Core.List.{List, [], ◌∷◌, ◌++◌}
use native.Mathlib.Nat.{le_of_suc-le-suc, not-suc-le-zero}
use native.Mathlib.Omega.{arith}
use lib.Dec.{eqb}
use borrow.Author.Tests.{eqb-true}
use Rattle.scope.specs.Choice.{pick}
use Rattle.scope.specs.Item.{Attribute}
use Rattle.scope.specs.Header.{Class}
use Rattle.scope.specs.Table as scope
use Rattle.scope.specs.Attributes.{Fault, fine, bad, attribute_code, one_by_one, form_code}
use Rattle.scope.specs.Reading.{Context, Read, no, as_whole, with_attributes}
use Rattle.items.specs.Rows.{row_at, rows_from, rows_of}
use Rattle.rules.specs.Judging.{then_whole, line_fault}
use Rattle.rules.proofs.Tested.{row_small}

-- each number is below 256
pub data Under : List Attribute → Type 0 where
  under_none : Under []
  under_more : {a : Attribute} {l : List Attribute} → a.number < 256 → Under l → Under (a ∷ l)

is_fine : Fault → Bool
is_fine fine = true
is_fine (bad c p) = false

bad-fine : (c p : ℕ) → bad c p ≡ fine → ⊥
unfolding is_fine
bad-fine c p e = false≢true (ap is_fine e)

pick-fine : (b : Bool) (f : Fault) (c p : ℕ) → pick b f (bad c p) ≡ fine → (b ≡ true) × (f ≡ fine)
pick-fine true f c p e = (refl, e)
pick-fine false f c p e = absurd (bad-fine c p e)

module _ (high : Bool) (s : List ℕ) (rules : List scope.Rule)
    (small : (n : ℕ) (x : scope.Rule) → scope.rule_in rules n ≡ scope.Ruled.is x → n < 256) where
  under-by : (before l : List Attribute) → one_by_one high s rules before l ≡ fine → Under l
  unfolding one_by_one attribute_code
  under-by before [] e = under_none
  under-by before (a ∷ l) e = step (scope.rule_in rules a.number) refl (λ q. under-by (before ++ (a ∷ [])) l q) e
    where
      step : (x : scope.Ruled) → scope.rule_in rules a.number ≡ x → (one_by_one high s rules (before ++ (a ∷ [])) l ≡ fine → Under l)
          → pick (eqb (attribute_code high s before a x) 0) (one_by_one high s rules (before ++ (a ∷ [])) l) (bad (attribute_code high s before a x) a.at) ≡ fine
          → Under (a ∷ l)
      step scope.Ruled.none q k w = absurd (bad-fine 11 a.at w)
      step (scope.Ruled.is x) q k w =
          under_more (small a.number x q)
          (k (pick-fine (eqb (attribute_code high s before a (scope.Ruled.is x)) 0) (one_by_one high s rules (before ++ (a ∷ [])) l)
          (attribute_code high s before a (scope.Ruled.is x)) a.at w).1)

-- of a line of the table
pub numbers-under : (class : Class) (high : Bool) (s : List ℕ) (tag : ℕ) (r : scope.Row) (l : List Attribute) → scope.line_in (scope.table class) tag ≡ scope.Line.is r
    → one_by_one high s r.rules [] l ≡ fine → Under l
numbers-under class high s tag r l q e = under-by high s r.rules (row_small class tag r q) [] l e

-- attribute i of the lent array
under-from : (a : List ℕ) (i k j : ℕ) → Under (rows_from a i k) → j < k → (row_at a (i + j)).number < 256
unfolding rows_from
under-from a i zero j u h = absurd (not-suc-le-zero h)
under-from a i (suc k) zero (under_more n u) h =
    let e : i + 0 ≡ i = omega arith in
    rw e n
under-from a i (suc k) (suc j) (under_more n u) h =
    let e : i + suc j ≡ suc i + j = omega arith in
    rw e (under-from a (suc i) k j u (le_of_suc-le-suc h))

pub under_at : (a : List ℕ) (n i : ℕ) → Under (rows_of a n) → i < n → (row_at a i).number < 256
unfolding rows_of
under_at a n i u h =
    let e : 0 + i ≡ i = omega arith in
    rw e at (under-from a 0 n i u h)

-- a line found fine is fine attribute by attribute and as a whole
pub line-fine : (high : Bool) (s : List ℕ) (at : ℕ) (l : List Attribute) (r : scope.Row) → line_fault high s at l (scope.Line.is r) ≡ fine
    → (one_by_one high s r.rules [] l ≡ fine) × (form_code l r.rules r.form ≡ 0)
unfolding line_fault then_whole
line-fine high s at l r e = parts (one_by_one high s r.rules [] l) (form_code l r.rules r.form) e
  where
    parts : (f : Fault) (k : ℕ) → then_whole at k f ≡ fine → (f ≡ fine) × (k ≡ 0)
    parts fine k w = (refl, eqb-true k 0 (pick-fine (eqb k 0) fine k at w).0)
    parts (bad c p) k w = absurd (bad-fine c p w)

-- reading goes on from a line that is fine, and ends at its fault
abbrev pub on_fault : Context → List ℕ → ℕ → ℕ → List Attribute → Fault → Read
on_fault c s tag at l fine = as_whole c s tag at l 0
on_fault c s tag at l (bad code place) = no code place

pub reads-by : (c : Context) (s : List ℕ) (tag at : ℕ) (l : List Attribute) (r : scope.Row)
    → with_attributes c s tag at l r (one_by_one c.set.high s r.rules [] l) ≡ on_fault c s tag at l (line_fault c.set.high s at l (scope.Line.is r))
unfolding line_fault then_whole with_attributes as_whole
reads-by c s tag at l r = parts (one_by_one c.set.high s r.rules [] l)
  where
    whole : (k : ℕ) (b : Bool) → eqb k 0 ≡ b → as_whole c s tag at l k ≡ on_fault c s tag at l (pick b fine (bad k at))
    whole k true e = rw e
    whole k false e = rw e

    parts : (f : Fault) → with_attributes c s tag at l r f ≡ on_fault c s tag at l (then_whole at (form_code l r.rules r.form) f)
    parts fine = whole (form_code l r.rules r.form) (eqb (form_code l r.rules r.form) 0) refl
    parts (bad code place) = refl
