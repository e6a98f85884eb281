-- The name that BeginStream gives, where it was read, has at most 16 bytes.
-- Assumes nothing.
use Prim.Native.Nat.{ℕ, ◌≤◌}
use mathlib.Core.Path.{◌≡◌, refl, sym, ap, subst}
use mathlib.Core.Bool.{Bool, true, false}
use mathlib.Core.List.{List, [], ◌∷◌, ◌++◌}
use native.Mathlib.Omega.{arith}
use borrow.Author.Tests.{eqb-true, leb-true}
use lib.ListN.{length, take, drop, length-take}
use lib.Dec.{eqb, leb}
use Rattle.scope.specs.Choice.{pick, between}
use Rattle.scope.specs.Header.{Class, one, two}
use Rattle.scope.specs.Item.{Attribute}
use Rattle.scope.specs.Names.{StreamName}
use Rattle.scope.specs.Table.{A, Rule, Row, Line, Ruled, needs, table_one, table_two, table, line_in, rule_in}
use Rattle.scope.specs.Attributes.{fine, bad, has, type_taken, in_range, attribute_code, one_by_one, bytes_in}
use Rattle.scope.specs.Reading.{Context, Operator, Read}
use Rattle.scope.proofs.Taken.{Taken}
use Rattle.ruling.proofs.Bytes.{untrue, unfine}

-- the line of BeginStream: a name of 1 to 16 bytes
abbrev named : Rule
named = needs StreamName (A 1 16)

abbrev rules_of : Line → List Rule
rules_of (Line.is r) = r.rules
rules_of Line.none = []

begin-rules : (class : Class) (r : Row) → line_in (table class) 0x5b ≡ Line.is r → r.rules ≡ named ∷ []
unfolding table table_one table_two line_in
begin-rules one r e = ap rules_of (sym e)
begin-rules two r e = ap rules_of (sym e)

within : (a b : Bool) → pick a b false ≡ true → b ≡ true
within true b e = e
within false b e = untrue e

code-short : (high : Bool) (s : List ℕ) (before : List Attribute) (a : Attribute) → eqb (attribute_code high s before a (Ruled.is named)) 0 ≡ true → a.count ≤ 16
unfolding attribute_code type_taken in_range
code-short high s before a e = go (has a.number before) (eqb a.tag 0xc8) (between 1 16 a.count) refl e
  where
    go : (x y z : Bool) → between 1 16 a.count ≡ z → eqb (pick x 12 (pick y (pick z 0 16) 15)) 0 ≡ true → a.count ≤ 16
    go true y z p q = untrue q
    go false false z p q = untrue q
    go false true false p q = untrue q
    go false true true p q = leb-true a.count 16 (within (leb 1 a.count) (leb a.count 16) p)

short-in : (high : Bool) (s : List ℕ) (before l : List Attribute) → one_by_one high s (named ∷ []) before l ≡ fine → length (bytes_in s l 139) ≤ 16
unfolding one_by_one bytes_in rule_in
short-in high s before [] e = omega arith
short-in high s before (a ∷ l) e =
    go (eqb (attribute_code high s before a (rule_in (named ∷ []) a.number)) 0) (eqb a.number 139) refl refl e (λ f. short-in high s (before ++ (a ∷ [])) l f)
  where
    first : eqb a.number 139 ≡ true → eqb (attribute_code high s before a (rule_in (named ∷ []) a.number)) 0 ≡ true → length (take a.count (drop a.first s)) ≤ 16
    first n k =
        let m : rule_in (named ∷ []) a.number ≡ Ruled.is named = ap (rule_in (named ∷ [])) (eqb-true a.number 139 n) in
        let h : a.count ≤ 16 = code-short high s before a (subst (λ r. eqb (attribute_code high s before a r) 0 ≡ true) m k) in
        simp length-take (omega arith)

    go : (b n : Bool) → eqb (attribute_code high s before a (rule_in (named ∷ []) a.number)) 0 ≡ b → eqb a.number 139 ≡ n
        → pick b (one_by_one high s (named ∷ []) (before ++ (a ∷ [])) l) (bad (attribute_code high s before a (rule_in (named ∷ []) a.number)) a.at) ≡ fine
        → (one_by_one high s (named ∷ []) (before ++ (a ∷ [])) l ≡ fine → length (bytes_in s l 139) ≤ 16)
        → length (pick n (take a.count (drop a.first s)) (bytes_in s l 139)) ≤ 16
    go false n p m q k = unfine q
    go true false p m q k = k q
    go true true p m q k = first m p

pub short-taken : {c : Context} {s : List ℕ} {o : Operator} → Taken c s (Read.operator o) → o.tag ≡ 0x5b → length (bytes_in s o.attrs 139) ≤ 16
short-taken {c} {s} {o} (Taken.operator {r = r} a b e) t =
    short-in c.set.high s [] o.attrs
    (subst (λ (l : List Rule). one_by_one c.set.high s l [] o.attrs ≡ fine) (begin-rules c.set.class r (subst (λ (n : ℕ). line_in (table c.set.class) n ≡ Line.is r) t a)) b)
