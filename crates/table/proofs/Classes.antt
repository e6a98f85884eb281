-- The two tables are the same but for the lines of four operators and the rules of five attributes: without those they are the same list, and a line or a rule of
-- another number is found where it was found before.
-- Assumes nothing.
use Prim.Native.Nat.{ℕ}
use mathlib.Core.Path.{◌≡◌, refl, sym, ap, ◌∙◌, subst}
use mathlib.Core.Bool.{Bool, true, false, true≢false}
use mathlib.Core.List.{List, [], ◌∷◌}
use lib.Dec.{eqb}
use borrow.Author.Tests.{ne_eqb}
use Rattle.scope.specs.Choice.{pick, among}
use Rattle.scope.specs.Header.{Class, one, two}
use Rattle.scope.specs.Table as scope
use Rattle.table.specs.Lines.{own_lines, own_rules, own_line, own_rule, or_nothing, rules_in, rule_of}

-- the lines of other operators
unfoldable lines_but : List ℕ → List scope.Row → List scope.Row
lines_but ks [] = []
lines_but ks (r ∷ rs) = pick (among ks r.op) (lines_but ks rs) (r ∷ lines_but ks rs)

-- the rules of other attributes
unfoldable rules_but : List ℕ → List scope.Rule → List scope.Rule
rules_but ks [] = []
rules_but ks (r ∷ rs) = pick (among ks r.number) (rules_but ks rs) (r ∷ rules_but ks rs)

module _ (n : ℕ) (ks : List ℕ) (out : among ks n ≡ false) where
  other : (m : ℕ) → among ks m ≡ true → eqb m n ≡ false
  other m t = ne_eqb m n (λ e. true≢false (sym t ∙ subst (λ (x : ℕ). among ks x ≡ false) (sym e) out))

  line-but : (rows : List scope.Row) → scope.line_in rows n ≡ scope.line_in (lines_but ks rows) n
  unfolding lines_but scope.line_in
  line-but [] = refl
  line-but (r ∷ rs) = by (line-but rs) (among ks r.op) refl
    where
      by : scope.line_in rs n ≡ scope.line_in (lines_but ks rs) n → (b : Bool) → among ks r.op ≡ b → scope.line_in (r ∷ rs) n ≡ scope.line_in (pick b (lines_but ks rs) (r ∷ lines_but ks rs)) n
      by h true e = rw (other r.op e, scope.line_in) h
      by h false e = ap (λ l. elim (eqb r.op n) [ true ↦ scope.Line.is r | false ↦ l ]) h

  rule-but : (rules : List scope.Rule) → scope.rule_in rules n ≡ scope.rule_in (rules_but ks rules) n
  unfolding rules_but scope.rule_in
  rule-but [] = refl
  rule-but (r ∷ rs) = by (rule-but rs) (among ks r.number) refl
    where
      by : scope.rule_in rs n ≡ scope.rule_in (rules_but ks rs) n → (b : Bool) → among ks r.number ≡ b → scope.rule_in (r ∷ rs) n ≡ scope.rule_in (pick b (rules_but ks rs) (r ∷ rules_but ks rs)) n
      by h true e = rw (other r.number e, scope.rule_in) h
      by h false e = ap (λ l. elim (eqb r.number n) [ true ↦ scope.Ruled.is r | false ↦ l ]) h

lines_same : lines_but own_lines scope.table_two ≡ lines_but own_lines scope.table_one
unfolding scope.table_one scope.table_two lines_but among
lines_same = refl

rules-same : rules_but own_rules (rules_in (scope.table two)) ≡ rules_but own_rules (rules_in (scope.table one))
unfolding scope.table scope.table_one scope.table_two rules_in rules_but among
rules-same = refl

same_line : (tag : ℕ) → among own_lines tag ≡ false → scope.line_in scope.table_two tag ≡ scope.line_in scope.table_one tag
same_line tag h = line-but tag own_lines h scope.table_two ∙ ap (λ l. scope.line_in l tag) lines_same ∙ sym (line-but tag own_lines h scope.table_one)

same-rule : (n : ℕ) → among own_rules n ≡ false → rule_of two n ≡ rule_of one n
unfolding rule_of
same-rule n h =
    ap (or_nothing n)
    (rule-but n own_rules h (rules_in (scope.table two)) ∙ ap (λ l. scope.rule_in l n) rules-same ∙ sym (rule-but n own_rules h (rules_in (scope.table one))))

-- an operator without a line of its own has that of 1;1, and one with such a line is of 2;1
pub line-shared : (class : Class) (tag : ℕ) → own_line class tag ≡ false → scope.line_in (scope.table class) tag ≡ scope.line_in scope.table_one tag
unfolding scope.table
line-shared one tag h = refl
line-shared two tag h = same_line tag h

pub line-own : (class : Class) (tag : ℕ) → own_line class tag ≡ true → (among own_lines tag ≡ true) × (scope.line_in (scope.table class) tag ≡ scope.line_in scope.table_two tag)
unfolding scope.table
line-own one tag h = absurd (true≢false (sym h))
line-own two tag h = (h, refl)

pub rule-shared : (class : Class) (n : ℕ) → own_rule class n ≡ false → rule_of class n ≡ rule_of one n
rule-shared one n h = refl
rule-shared two n h = same-rule n h

pub rule-own : (class : Class) (n : ℕ) → own_rule class n ≡ true → (among own_rules n ≡ true) × (rule_of class n ≡ rule_of two n)
rule-own one n h = absurd (true≢false (sym h))
rule-own two n h = (h, refl)
