-- The code's lines and rules, as those of 01's table.
-- Assumes nothing.
use Rattle.std.specs.Prelude.{ℕ, suc, ◌-◌, List, [], ◌∷◌, ◌++◌, Bool, true, false, length, replicate, eqb}
use Rattle.scope.specs.Choice.{pick, among}
use Rattle.scope.specs.Header.{Class, one, two}
use Rattle.scope.specs.Names.{BeginPage, ReadImage, ReadRastPattern, SetDefaultGS, Orientation, MediaSize, MediaType, PadBytesMultiple, BlockByteLength}
use Rattle.scope.specs.Table as scope
use Rattle.table.specs.declared.table.Form.{Form}
use Rattle.table.specs.declared.table.Form.TheVariants.{Each, One, Line, Unknown}
use Rattle.table.specs.declared.table.Row.{Row}
use Rattle.table.specs.declared.table.Kind.{Kind}
use Rattle.table.specs.declared.table.Kind.TheVariants.{E, N, P, B, A, D, M, M2, L, I}
use Rattle.table.specs.declared.table.Rule.{Rule}

-- the operators of which class 2;1 has a line of its own, and the attributes of which it has a rule of its own
abbrev pub own_lines : List ℕ
own_lines = BeginPage ∷ ReadImage ∷ ReadRastPattern ∷ SetDefaultGS ∷ []

abbrev pub own_rules : List ℕ
own_rules = Orientation ∷ MediaSize ∷ MediaType ∷ PadBytesMultiple ∷ BlockByteLength ∷ []

abbrev pub own_line : Class → (tag : ℕ) → Bool
own_line one tag = false
own_line two tag = among own_lines tag

abbrev pub own_rule : Class → (number : ℕ) → Bool
own_rule one n = false
own_rule two n = among own_rules n

-- the table has such a line
abbrev pub is_line : scope.Line → Bool
is_line (scope.Line.is r) = true
is_line scope.Line.none = false

-- a line without its rules: the form, how many attributes at its head must be there, and the numbers of its attributes
pub data Brief : Type 0 where
  known : scope.Form → (must : ℕ) → List ℕ → Brief
  unknown : Brief

unfoldable pub numbers_in : List scope.Rule → List ℕ
numbers_in [] = []
numbers_in (r ∷ rs) = r.number ∷ numbers_in rs

-- how many rules at the head of a line must be there
unfoldable pub must_in : List scope.Rule → ℕ
must_in [] = 0
must_in (r ∷ rs) = pick r.must (suc (must_in rs)) 0

abbrev pub brief_of : scope.Line → Brief
brief_of (scope.Line.is r) = known r.form (must_in r.rules) (numbers_in r.rules)
brief_of scope.Line.none = unknown

-- the numbers before the first 0
unfoldable pub up_to_no : List ℕ → List ℕ
up_to_no [] = []
up_to_no (n ∷ ns) = pick (eqb n 0) [] (n ∷ up_to_no ns)

-- a form that a line of the table has
abbrev pub is_known : Form → Bool
is_known (Each k) = true
is_known One = true
is_known Line = true
is_known Unknown = false

-- the form that a known form of the code stands for
abbrev pub form_as : Form → scope.Form
form_as (Each k) = scope.each
form_as One = scope.one
form_as Line = scope.line
form_as Unknown = scope.each

-- how many attributes at a line's head must be there by its form
abbrev pub must_as : Form → ℕ
must_as (Each k) = k
must_as One = 0
must_as Line = 0
must_as Unknown = 0

-- a line of the code: its form, and up to eight numbers
abbrev pub row_with : Form → List ℕ → Row
row_with f ns = record { form = f; numbers = ns ++ replicate (8 - length ns) 0 }

-- the line without its rules that a line of the code stands for
abbrev pub brief_by : Form → List ℕ → Brief
brief_by (Each k) ns = known scope.each k ns
brief_by One ns = known scope.one 0 ns
brief_by Line ns = known scope.line 0 ns
brief_by Unknown ns = unknown

abbrev pub brief_as : Row → Brief
brief_as r = brief_by r.form (up_to_no r.numbers)

-- the rules of all lines
unfoldable pub rules_in : List scope.Row → List scope.Rule
rules_in [] = []
rules_in (r ∷ rs) = r.rules ++ rules_in rs

-- a rule that was found; where there is none, one that takes nothing
abbrev pub or_nothing : ℕ → scope.Ruled → scope.Rule
or_nothing n (scope.Ruled.is r) = r
or_nothing n scope.Ruled.none = scope.may n (scope.E 1 0)

-- the first rule of an attribute's number in the table of a class
unfoldable pub rule_of : Class → ℕ → scope.Rule
rule_of class n = or_nothing n (scope.rule_in (rules_in (scope.table class)) n)

-- the values that a kind with its lowest and highest stands for
abbrev pub takes_as : Kind → ℕ → ℕ → scope.Takes
takes_as E l h = scope.E l h
takes_as N l h = scope.N l h
takes_as P l h = scope.P
takes_as B l h = scope.B
takes_as A l h = scope.A l h
takes_as D l h = scope.D l
takes_as M l h = scope.M
takes_as M2 l h = scope.M2
takes_as L l h = scope.L
takes_as I l h = scope.I

-- the values that a rule of the code stands for
abbrev pub takes_of : Rule → scope.Takes
takes_of r = takes_as r.kind r.low r.high
