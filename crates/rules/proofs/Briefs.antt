-- A line of the code, which has no rules, against the line of the table that it stands for.
-- Assumes nothing.
use Prim.Native.Nat.{ℕ}
use mathlib.Core.Path.{◌≡◌, refl, sym, ap, ◌∙◌}
use mathlib.Core.Bool.{Bool, true, false, false≢true}
use mathlib.Core.List.{List, []}
use Rattle.scope.specs.Header.{Class}
use Rattle.scope.specs.Table as scope
use Rattle.table.specs.Lines.{is_line, is_known, form_as, must_as, must_in, numbers_in, Brief, known, unknown, brief_of, brief_by, brief_as, up_to_no}
use Rattle.rules.specs.Judging.{Stands, Led}
use Rattle.rules.proofs.Tested.{row-agreed, row-led}
use Rattle.table.specs.declared.table.Form.{Form}
use Rattle.table.specs.declared.table.Row.{Row}
use Rattle.table.specs.declared.table.Form.TheVariants.{Each, One, Line, Unknown}

shown : Brief → Bool
shown (known f k ns) = true
shown unknown = false

shown-line : (l : scope.Line) → shown (brief_of l) ≡ is_line l
unfolding shown
shown-line (scope.Line.is r) = refl
shown-line scope.Line.none = refl

shown-form : (f : Form) (ns : List ℕ) → shown (brief_by f ns) ≡ is_known f
unfolding shown
shown-form (Each m) ns = refl
shown-form One ns = refl
shown-form Line ns = refl
shown-form Unknown ns = refl

-- the table has the line exactly if the code's form is known
pub line_known : (r : Row) (l : scope.Line) → brief_as r ≡ brief_of l → is_known r.form ≡ is_line l
line_known r l e = sym (shown-form r.form (up_to_no r.numbers)) ∙ ap shown e ∙ shown-line l

form_in : Brief → scope.Form
form_in (known f k ns) = f
form_in unknown = scope.each

must_of : Brief → ℕ
must_of (known f k ns) = k
must_of unknown = 0

numbers_of : Brief → List ℕ
numbers_of (known f k ns) = ns
numbers_of unknown = []

by_form : (f : Form) (ns : List ℕ) → form_in (brief_by f ns) ≡ form_as f
unfolding form_in
by_form (Each m) ns = refl
by_form One ns = refl
by_form Line ns = refl
by_form Unknown ns = refl

by-must : (f : Form) (ns : List ℕ) → must_of (brief_by f ns) ≡ must_as f
unfolding must_of
by-must (Each m) ns = refl
by-must One ns = refl
by-must Line ns = refl
by-must Unknown ns = refl

by-numbers : (f : Form) (ns : List ℕ) → is_known f ≡ true → numbers_of (brief_by f ns) ≡ ns
unfolding numbers_of
by-numbers (Each m) ns k = refl
by-numbers One ns k = refl
by-numbers Line ns k = refl
by-numbers Unknown ns k = absurd (false≢true k)

-- a line of the code, against a line of the table
pub data Stood (class : Class) (r : Row) : scope.Line → Type 0 where
  stood_none : is_known r.form ≡ false → Stood class r scope.Line.none
  stood_is : {x : scope.Row} → is_known r.form ≡ true → form_as r.form ≡ x.form → Stands class r.numbers x.rules → Led (must_as r.form) x.rules
      → Stood class r (scope.Line.is x)

stood-by : (class : Class) (r : Row) (tag : ℕ) (l : scope.Line) → scope.line_in (scope.table class) tag ≡ l → brief_as r ≡ brief_of l → Stood class r l
unfolding form_in must_of numbers_of
stood-by class r tag scope.Line.none q e = stood_none (line_known r scope.Line.none e)
stood-by class r tag (scope.Line.is x) q e =
    let k = line_known r (scope.Line.is x) e in
    let f : form_as r.form ≡ x.form = sym (by_form r.form (up_to_no r.numbers)) ∙ ap form_in e in
    let n : up_to_no r.numbers ≡ numbers_in x.rules = sym (by-numbers r.form (up_to_no r.numbers) k) ∙ ap numbers_of e in
    let m : must_as r.form ≡ must_in x.rules = sym (by-must r.form (up_to_no r.numbers)) ∙ ap must_of e in
    stood_is k f (record { numbers = n; agreed = row-agreed class tag x q }) (rw m (row-led class tag x q))

pub stood : (class : Class) (r : Row) (tag : ℕ) → brief_as r ≡ brief_of (scope.line_in (scope.table class) tag) → Stood class r (scope.line_in (scope.table class) tag)
stood class r tag e = stood-by class r tag (scope.line_in (scope.table class) tag) refl e
