-- What the code judges of an operator's attributes, by the words of 01's definitions.
-- Assumes nothing.
use Rattle.std.specs.Prelude.{ℕ, suc, ◌+◌, ◌≡◌, List, [], ◌∷◌, Bool, true, false, eqb, Result, Ok, Err}
use Rattle.scope.specs.Choice.{pick, among}
use Rattle.scope.specs.Names.{EndPoint, NumberOfPoints, PointType}
use Rattle.scope.specs.Header.{Class}
use Rattle.scope.specs.Item as item
use Rattle.scope.specs.Table as scope
use Rattle.scope.specs.Attributes as judged
use Rattle.table.specs.Lines.{numbers_in, up_to_no, rule_of}
use Rattle.refusal.specs.Codes.{number_of}
use Rattle.refusal.specs.declared.code.Code.{Code}
use Rattle.refusal.specs.declared.refusal.Refusal.{Refusal}

-- 13 and 14 after what was found attribute by attribute
unfoldable pub then_whole : (at code : ℕ) → judged.Fault → judged.Fault
then_whole at code judged.fine = pick (eqb code 0) judged.fine (judged.bad code at)
then_whole at code (judged.bad c p) = judged.bad c p

-- 9; then attribute by attribute 11, 12, 15, 16; then 13, 14
unfoldable pub line_fault : Bool → List ℕ → (at : ℕ) → List item.Attribute → scope.Line → judged.Fault
line_fault high s at l scope.Line.none = judged.bad 9 at
line_fault high s at l (scope.Line.is r) =
    then_whole at (judged.form_code l r.rules r.form) (judged.one_by_one high s r.rules [] l)

-- the code that the code found; 0 is none
abbrev pub code_as : Result (Unit {0}) Code → ℕ
code_as (Ok u) = 0
code_as (Err c) = number_of c

-- the fault that the code found
abbrev pub fault_as : Result (Unit {0}) Refusal → judged.Fault
fault_as (Ok u) = judged.fine
fault_as (Err r) = judged.bad (number_of r.code) r.place

-- the rule of an attribute in a line of a class that has these numbers
unfoldable pub ruled_in : Class → List ℕ → ℕ → scope.Ruled
ruled_in class ns n = pick (among ns n) (scope.Ruled.is (rule_of class n)) scope.Ruled.none

-- each of these numbers is there
unfoldable pub all_in : List item.Attribute → List ℕ → Bool
all_in l [] = true
all_in l (n ∷ ns) = pick (judged.has n l) (all_in l ns) false

-- how many of these numbers are there
unfoldable pub many_in : List item.Attribute → List ℕ → ℕ
many_in l [] = 0
many_in l (n ∷ ns) = pick (judged.has n l) 1 0 + many_in l ns

-- a line's attributes as they are mostly given: EndPoint alone, or NumberOfPoints before PointType
unfoldable pub as_usual : List item.Attribute → Bool
as_usual [] = false
as_usual (a ∷ []) = eqb a.number EndPoint
as_usual (a ∷ b ∷ []) = pick (eqb a.number NumberOfPoints) (eqb b.number PointType) false
as_usual (a ∷ b ∷ c ∷ l) = false

-- a line's rules are those of their numbers
pub data Agreed (class : Class) : List scope.Rule → Type 0 where
  agreed_none : Agreed class []
  agreed_more : {r : scope.Rule} {rs : List scope.Rule} → rule_of class r.number ≡ r → Agreed class rs → Agreed class (r ∷ rs)

-- the numbers of a line of the code stand for these rules
pub record Stands (class : Class) (ns : List ℕ) (rules : List scope.Rule) : Type 0 where
  pub numbers : up_to_no ns ≡ numbers_in rules
  pub agreed : Agreed class rules

-- the first so many of a line's rules must be there, and no other
pub data Led : ℕ → List scope.Rule → Type 0 where
  led_none : Led 0 []
  led_may : {r : scope.Rule} {rs : List scope.Rule} → r.must ≡ false → Led 0 rs → Led 0 (r ∷ rs)
  led_must : {k : ℕ} {r : scope.Rule} {rs : List scope.Rule} → r.must ≡ true → Led k rs → Led (suc k) (r ∷ rs)
