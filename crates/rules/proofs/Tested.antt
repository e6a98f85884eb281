-- Facts of the whole table of each class, each by one test that is computed: a rule is that of its number in every line, the rules that must be there come
-- first, and numbers are below 256.
-- Assumes nothing.
use Prim.Native.Nat.{ℕ, suc, ◌<◌}
use mathlib.Core.Path.{◌≡◌, refl, sym, ap, ◌∙◌, subst}
use mathlib.Core.Bool.{Bool, true, false, not, false≢true}
use mathlib.Core.List.{List, [], ◌∷◌}
use lib.Dec.{eqb, ltb}
use borrow.Author.Tests.{eqb-true, ltb-true}
use Rattle.scope.specs.Choice.{pick}
use Rattle.scope.specs.Header.{Class, one, two}
use Rattle.scope.specs.Table as scope
use Rattle.scope.specs.Table.{Takes, Rule, Row, table_one, table_two, table, line_in, rule_in}
use Rattle.table.specs.Lines.{is_line, must_in, rules_in, rule_of}
use Rattle.rules.specs.Judging.{Agreed, agreed_none, agreed_more, Led, led_none, led_may, led_must}
use Rattle.table.proofs.Keys.{both_left, both_right}

-- what a test that passes at each row says of a row that was found
unfoldable every_row : (Row → Bool) → List Row → Bool
every_row test [] = true
every_row test (r ∷ rs) = pick (test r) (every_row test rs) false

row_or : Row → scope.Line → Row
row_or d (scope.Line.is r) = r
row_or d scope.Line.none = d

is_same : (r x : Row) → scope.Line.is r ≡ scope.Line.is x → r ≡ x
unfolding row_or
is_same r x e = ap (row_or r) e

row-passes : (test : Row → Bool) (rows : List Row) → every_row test rows ≡ true → (tag : ℕ) (x : Row) → line_in rows tag ≡ scope.Line.is x
    → test x ≡ true
unfolding every_row line_in
row-passes test [] t tag x e = absurd (false≢true (ap is_line e))
row-passes test (r ∷ rs) t tag x e = hit (eqb r.op tag) (λ q. row-passes test rs (both_right (test r) (every_row test rs) t) tag x q) e
  where
    hit : (b : Bool) → (line_in rs tag ≡ scope.Line.is x → test x ≡ true)
        → elim b [ true ↦ scope.Line.is r | false ↦ line_in rs tag ] ≡ scope.Line.is x → test x ≡ true
    hit true k q = subst (λ (y : Row). test y ≡ true) (is_same r x q) (both_left (test r) (every_row test rs) t)
    hit false k q = k q

abbrev is_ruled : scope.Ruled → Bool
is_ruled (scope.Ruled.is r) = true
is_ruled scope.Ruled.none = false

-- values as numbers, and back
kind_in : Takes → ℕ
kind_in (scope.E l h) = 0
kind_in (scope.N l h) = 1
kind_in scope.P = 2
kind_in scope.B = 3
kind_in (scope.A l h) = 4
kind_in (scope.D l) = 5
kind_in scope.M = 6
kind_in scope.M2 = 7
kind_in scope.L = 8
kind_in scope.I = 9

low_in : Takes → ℕ
low_in (scope.E l h) = l
low_in (scope.N l h) = l
low_in scope.P = 0
low_in scope.B = 0
low_in (scope.A l h) = l
low_in (scope.D l) = l
low_in scope.M = 0
low_in scope.M2 = 0
low_in scope.L = 0
low_in scope.I = 0

high_in : Takes → ℕ
high_in (scope.E l h) = h
high_in (scope.N l h) = h
high_in scope.P = 0
high_in scope.B = 0
high_in (scope.A l h) = h
high_in (scope.D l) = 0
high_in scope.M = 0
high_in scope.M2 = 0
high_in scope.L = 0
high_in scope.I = 0

back : ℕ → ℕ → ℕ → Takes
back k l h =
    pick (eqb k 0) (scope.E l h)
    (pick (eqb k 1) (scope.N l h)
    (pick (eqb k 2) scope.P (pick (eqb k 3) scope.B (pick (eqb k 4) (scope.A l h) (pick (eqb k 5) (scope.D l) (pick (eqb k 6) scope.M (pick (eqb k 7) scope.M2 (pick (eqb k 8) scope.L scope.I))))))))

there_and_back : (t : Takes) → back (kind_in t) (low_in t) (high_in t) ≡ t
unfolding kind_in low_in high_in back
there_and_back (scope.E l h) = refl
there_and_back (scope.N l h) = refl
there_and_back scope.P = refl
there_and_back scope.B = refl
there_and_back (scope.A l h) = refl
there_and_back (scope.D l) = refl
there_and_back scope.M = refl
there_and_back scope.M2 = refl
there_and_back scope.L = refl
there_and_back scope.I = refl

same_takes : (t u : Takes) → kind_in t ≡ kind_in u → low_in t ≡ low_in u → high_in t ≡ high_in u → t ≡ u
same_takes t u k l h = sym (there_and_back t) ∙ rw (k, l, h) (there_and_back u)

alike : Bool → Bool → Bool
alike true b = b
alike false b = not b

same_bool : (a b : Bool) → alike a b ≡ true → a ≡ b
unfolding alike
same_bool true true e = refl
same_bool true false e = sym e
same_bool false true e = e
same_bool false false e = refl

same_rule : Rule → Rule → Bool
same_rule x y =
    pick (eqb x.number y.number)
    (pick (eqb (kind_in x.takes) (kind_in y.takes))
    (pick (eqb (low_in x.takes) (low_in y.takes))
    (pick (eqb (high_in x.takes) (high_in y.takes)) (alike x.must y.must) false) false) false) false

same-rule : (x y : Rule) → same_rule x y ≡ true → x ≡ y
unfolding same_rule
same-rule x y e =
    let b = both_right (eqb x.number y.number) _ e in
    let c = both_right (eqb (kind_in x.takes) (kind_in y.takes)) _ b in
    let d = both_right (eqb (low_in x.takes) (low_in y.takes)) _ c in
    let m = both_right (eqb (high_in x.takes) (high_in y.takes)) _ d in
    let p : x.number ≡ y.number = eqb-true _ _ (both_left _ _ e) in
    let q : x.takes ≡ y.takes = same_takes x.takes y.takes (eqb-true _ _ (both_left _ _ b)) (eqb-true _ _ (both_left _ _ c)) (eqb-true _ _ (both_left _ _ d)) in
    let n : x.must ≡ y.must = same_bool x.must y.must m in
    λ i. record { number = p i; takes = q i; must = n i }

-- each rule of a line is that of its number
agrees : Class → List Rule → Bool
agrees class [] = true
agrees class (r ∷ rs) = pick (same_rule (rule_of class r.number) r) (agrees class rs) false

agreed-by : (class : Class) (rules : List Rule) → agrees class rules ≡ true → Agreed class rules
unfolding agrees
agreed-by class [] t = agreed_none
agreed-by class (r ∷ rs) t =
    agreed_more (same-rule (rule_of class r.number) r (both_left (same_rule (rule_of class r.number) r) (agrees class rs) t))
    (agreed-by class rs (both_right (same_rule (rule_of class r.number) r) (agrees class rs) t))

table-agrees : (class : Class) → every_row (λ r. agrees class r.rules) (table class) ≡ true
unfolding every_row agrees same_rule alike kind_in low_in high_in table_one table_two table rules_in rule_of rule_in
table-agrees one = refl
table-agrees two = refl

pub row-agreed : (class : Class) (tag : ℕ) (r : Row) → line_in (table class) tag ≡ scope.Line.is r → Agreed class r.rules
row-agreed class tag r e = agreed-by class r.rules (row-passes (λ r. agrees class r.rules) (table class) (table-agrees class) tag r e)

-- none of these rules must be there
mays : List Rule → Bool
mays [] = true
mays (r ∷ rs) = pick r.must false (mays rs)

-- the rules of a line that must be there come first
musts : List Rule → Bool
musts [] = true
musts (r ∷ rs) = pick r.must (musts rs) (mays rs)

led-mays : (rules : List Rule) → mays rules ≡ true → Led 0 rules
unfolding mays
led-mays [] t = led_none
led-mays (r ∷ rs) t = step r.must refl (λ q. led-mays rs q) t
  where
    step : (b : Bool) → r.must ≡ b → (mays rs ≡ true → Led 0 rs) → pick b false (mays rs) ≡ true → Led 0 (r ∷ rs)
    step true e k q = absurd (false≢true q)
    step false e k q = led_may e (k q)

led-by : (rules : List Rule) → musts rules ≡ true → Led (must_in rules) rules
unfolding musts must_in
led-by [] t = led_none
led-by (r ∷ rs) t = step r.must refl (λ q. led-by rs q) t
  where
    step : (b : Bool) → r.must ≡ b → (musts rs ≡ true → Led (must_in rs) rs) → pick b (musts rs) (mays rs) ≡ true
        → Led (pick b (suc (must_in rs)) 0) (r ∷ rs)
    step true e k q = led_must e (k q)
    step false e k q = led_may e (led-mays rs q)

table-led : (class : Class) → every_row (λ r. musts r.rules) (table class) ≡ true
unfolding every_row musts mays table_one table_two table
table-led one = refl
table-led two = refl

pub row-led : (class : Class) (tag : ℕ) (r : Row) → line_in (table class) tag ≡ scope.Line.is r → Led (must_in r.rules) r.rules
row-led class tag r e = led-by r.rules (row-passes (λ r. musts r.rules) (table class) (table-led class) tag r e)

-- a line's numbers are below 256
small : List Rule → Bool
small [] = true
small (r ∷ rs) = pick (ltb r.number 256) (small rs) false

small-in : (rules : List Rule) → small rules ≡ true → (n : ℕ) (x : Rule) → rule_in rules n ≡ scope.Ruled.is x → n < 256
unfolding small rule_in
small-in [] t n x e = absurd (false≢true (ap is_ruled e))
small-in (r ∷ rs) t n x e =
    hit (eqb r.number n) (λ q. eqb-true r.number n q) (λ q. small-in rs (both_right (ltb r.number 256) (small rs) t) n x q) e
  where
    hit : (b : Bool) → (b ≡ true → r.number ≡ n) → (rule_in rs n ≡ scope.Ruled.is x → n < 256)
        → elim b [ true ↦ scope.Ruled.is r | false ↦ rule_in rs n ] ≡ scope.Ruled.is x → n < 256
    hit true q k w = subst (λ (m : ℕ). m < 256) (q refl) (ltb-true r.number 256 (both_left (ltb r.number 256) (small rs) t))
    hit false q k w = k w

table-small : (class : Class) → every_row (λ r. small r.rules) (table class) ≡ true
unfolding every_row small table_one table_two table
table-small one = refl
table-small two = refl

pub row_small : (class : Class) (tag : ℕ) (r : Row) → line_in (table class) tag ≡ scope.Line.is r → (n : ℕ) (x : Rule) → rule_in r.rules n ≡ scope.Ruled.is x → n < 256
row_small class tag r e = small-in r.rules (row-passes (λ r. small r.rules) (table class) (table-small class) tag r e)
