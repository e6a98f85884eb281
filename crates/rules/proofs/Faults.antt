-- The judging of attributes, step by step, by numbers in place of rules.
-- Assumes nothing.
use Prim.Native.Nat.{ℕ, zero, suc, ◌+◌, ◌-◌, ◌≤◌, ◌<◌}
use mathlib.Core.Path.{◌≡◌, refl, sym, ap, ◌∙◌}
use mathlib.Core.Bool.{Bool, true, false, false≢true}
use mathlib.Core.List.{List, [], ◌∷◌}
use lib.ListN.{length, take, get_or}
use lib.Dec.{eqb}
use borrow.Author.Tests.{eqb-true, ne_eqb}
use Rattle.scope.specs.Choice.{pick, among}
use Rattle.scope.specs.Names.{EndPoint, NumberOfPoints, PointType}
use Rattle.scope.specs.Item.{Attribute}
use Rattle.scope.specs.Header.{Class}
use Rattle.scope.specs.Table as scope
use Rattle.scope.specs.Attributes.{has, type_taken, in_range, fine, bad, attribute_code, one_by_one, all_there, how_many, pair_code, form_code}
use Rattle.refusal.specs.Codes.{number_of}
use Rattle.std.specs.Prelude.{Result, Ok, Err, IsErrAnd, MatchResult}
use Rattle.refusal.specs.declared.code.Code.{Code}
use Rattle.refusal.specs.declared.refusal.Refusal.{Refusal}
use Rattle.refusal.proofs.Numbers.{no_pass}
use Rattle.items.specs.Rows.{row_at, rows_from, rows_of}
use Rattle.table.specs.Lines.{up_to_no, rule_of, is_known, form_as, must_as}
use Rattle.rules.specs.Judging.{ruled_in, all_in, many_in, as_usual, Stands, Led, code_as, fault_as, then_whole, line_fault}
use Rattle.table.specs.declared.table.Row.{Row}
use Rattle.table.proofs.Keys.{both_left, both_right}
use Rattle.attributes.proofs.Rowed.{rows_more, rows_end, rows_before}
use Rattle.rules.proofs.Numbered.{take-numbers, ruled_by, led-long, all-by, many_by, listed-none, listed-is}
use Rattle.rules.proofs.Briefs.{Stood, stood_none, stood_is}

-- one attribute: 11, 12, 15, 16 in this order
module _ (high : Bool) (s : List ℕ) (before : List Attribute) (a : Attribute) (class : Class) (ns : List ℕ) where
  pub code-11 : among ns a.number ≡ false → attribute_code high s before a (ruled_in class ns a.number) ≡ 11
  unfolding attribute_code ruled_in
  code-11 e = rw e

  module _ (listed : among ns a.number ≡ true) where
    pub code-12 : has a.number before ≡ true → attribute_code high s before a (ruled_in class ns a.number) ≡ 12
    unfolding attribute_code ruled_in
    code-12 e = rw (listed, e)

    module _ (new : has a.number before ≡ false) where
      pub code-15 : type_taken (rule_of class a.number).takes a.tag ≡ false → attribute_code high s before a (ruled_in class ns a.number) ≡ 15
      unfolding attribute_code ruled_in
      code-15 e = rw (listed, new, e)

      pub code-16 : type_taken (rule_of class a.number).takes a.tag ≡ true → in_range high s (rule_of class a.number).takes a ≡ false
          → attribute_code high s before a (ruled_in class ns a.number) ≡ 16
      unfolding attribute_code ruled_in
      code-16 e q = rw (listed, new, e, q)

      pub code_none : type_taken (rule_of class a.number).takes a.tag ≡ true → in_range high s (rule_of class a.number).takes a ≡ true
          → attribute_code high s before a (ruled_in class ns a.number) ≡ 0
      unfolding attribute_code ruled_in
      code_none e q = rw (listed, new, e, q)

-- the code of an attribute, by its tests
pub ruleset coded = (listed-none, listed-is, code-11, code-12, code-15, code-16, code_none)

-- the rules that the numbers stand for
module _ (class : Class) (ns : List ℕ) (rules : List scope.Rule) (st : Stands class ns rules) where
  pub stands-ruled : (n : ℕ) → ruled_in class (up_to_no ns) n ≡ scope.rule_in rules n
  stands-ruled n = rw st.numbers (sym (ruled_by class rules st.agreed n))

  pub stands-all : (k : ℕ) → Led k rules → (l : List Attribute) → all_in l (take k ns) ≡ all_there l rules
  stands-all k led l =
      let long : k ≤ length (up_to_no ns) = rw st.numbers (led-long k rules led) in
      rw (← take-numbers k ns long, st.numbers) (sym (all-by l k rules led))

  pub stands-many : (l : List Attribute) → many_in l (up_to_no ns) ≡ how_many l rules
  stands-many l = rw st.numbers (sym (many_by l rules))

-- what the rules say, by their numbers
pub ruleset stands = (stands-all, stands-many)

-- a line's attributes as they are mostly given, by their places
module _ (a : List ℕ) where
  pub usual_one : as_usual (rows_of a 1) ≡ eqb (get_or a 0 0) EndPoint
  unfolding as_usual rows_of rows_from row_at
  usual_one = refl

  pub usual_two : as_usual (rows_of a 2) ≡ pick (eqb (get_or a 0 0) NumberOfPoints) (eqb (get_or a 5 0) PointType) false
  unfolding as_usual rows_of rows_from row_at
  usual_two = refl

  pub usual_not : (n : ℕ) → (n ≡ 1 → ⊥) → (n ≡ 2 → ⊥) → as_usual (rows_of a n) ≡ false
  unfolding as_usual rows_of rows_from
  usual_not zero h g = refl
  usual_not (suc zero) h g = absurd (h refl)
  usual_not (suc (suc zero)) h g = absurd (g refl)
  usual_not (suc (suc (suc n))) h g = refl

-- what is usual, by how many there are
pub ruleset usual = (usual_one, usual_two, usual_not)

-- such a line has neither 13 nor 14
pub usual_fine : (l : List Attribute) → as_usual l ≡ true → pair_code (has EndPoint l) (has NumberOfPoints l) (has PointType l) ≡ 0
unfolding as_usual has
usual_fine [] e = absurd (false≢true e)
usual_fine (a ∷ []) e =
    let p : a.number ≡ EndPoint = eqb-true _ _ e in
    rw p
usual_fine (a ∷ b ∷ []) e =
    let p : a.number ≡ NumberOfPoints = eqb-true _ _ (both_left (eqb a.number NumberOfPoints) _ e) in
    let q : b.number ≡ PointType = eqb-true _ _ (both_right (eqb a.number NumberOfPoints) _ e) in
    rw (p, q)
usual_fine (a ∷ b ∷ c ∷ l) e = absurd (false≢true e)

-- one attribute more
module _ (high : Bool) (s : List ℕ) (rules : List scope.Rule) (a : List ℕ) (i n : ℕ) where
  one-from : i < n → one_by_one high s rules (rows_of a i) (rows_from a i (n - i))
      ≡ pick (eqb (attribute_code high s (rows_of a i) (row_at a i) (scope.rule_in rules (row_at a i).number)) 0)
      (one_by_one high s rules (rows_of a (i + 1)) (rows_from a (i + 1) (n - (i + 1))))
      (bad (attribute_code high s (rows_of a i) (row_at a i) (scope.rule_in rules (row_at a i).number)) (row_at a i).at)
  unfolding one_by_one
  one-from h = rw (rows_more a i n h, rows_before a i)

  module _ (class : Class) (ns : List ℕ) (st : Stands class ns rules) (h : i < n) where
    pub one-bad : (c : Code) → number_of c ≡ attribute_code high s (rows_of a i) (row_at a i) (ruled_in class (up_to_no ns) (row_at a i).number)
        → one_by_one high s rules (rows_of a i) (rows_from a i (n - i)) ≡ bad (number_of c) (row_at a i).at
    one-bad c e = one-from h ∙ rw (← stands-ruled class ns rules st (row_at a i).number, ← e, ne_eqb (number_of c) 0 (no_pass c))

    pub one-next : 0 ≡ attribute_code high s (rows_of a i) (row_at a i) (ruled_in class (up_to_no ns) (row_at a i).number)
        → one_by_one high s rules (rows_of a i) (rows_from a i (n - i)) ≡ one_by_one high s rules (rows_of a (i + 1)) (rows_from a (i + 1) (n - (i + 1)))
    one-next e = one-from h ∙ rw (← stands-ruled class ns rules st (row_at a i).number, ← e)

  pub one_end : n ≤ i → one_by_one high s rules (rows_of a i) (rows_from a i (n - i)) ≡ fine
  unfolding one_by_one
  one_end h = rw (rows_end a i n h)

-- the whole line
module _ (high : Bool) (s : List ℕ) (at : ℕ) (l : List Attribute) (class : Class) (r : Row) where
  pub fault_one : (x : scope.Line) → Stood class r x → is_known r.form ≡ true → (c p : ℕ)
      → ((rules : List scope.Rule) → Stands class r.numbers rules → bad c p ≡ one_by_one high s rules [] l) → bad c p ≡ line_fault high s at l x
  unfolding line_fault then_whole
  fault_one scope.Line.none (stood_none e) k c p h = absurd (false≢true (sym e ∙ k))
  fault_one (scope.Line.is x) (stood_is known f st led) k c p h = rw (← h x.rules st)

  pub fault_whole : (x : scope.Line) → Stood class r x → is_known r.form ≡ true → (k : ℕ)
      → ((rules : List scope.Rule) → Stands class r.numbers rules → fine ≡ one_by_one high s rules [] l)
      → ((rules : List scope.Rule) → Stands class r.numbers rules → Led (must_as r.form) rules → k ≡ form_code l rules (form_as r.form))
      → pick (eqb k 0) fine (bad k at) ≡ line_fault high s at l x
  unfolding line_fault then_whole
  fault_whole scope.Line.none (stood_none e) t k h g = absurd (false≢true (sym e ∙ t))
  fault_whole (scope.Line.is x) (stood_is known f st led) t k h g =
      let q : k ≡ form_code l x.rules x.form = g x.rules st led ∙ ap (form_code l x.rules) f in
      rw (← h x.rules st, ← q)

-- 13 or 14 with its place
pub placed : (at : ℕ) (r : Result (Unit {0}) Code) (x : Result (Unit {0}) Refusal)
    → MatchResult r (λ u. x ≡ Ok u) (λ e. IsErrAnd x (λ y. y ≡ record { code = e; place = at })) → fault_as x ≡ pick (eqb (code_as r) 0) fine (bad (code_as r) at)
placed at (Ok u) x h = rw h
placed at (Err e) (Ok u) h = elim h [ ]
placed at (Err e) (Err y) h = rw (h, ne_eqb (number_of e) 0 (no_pass e))
