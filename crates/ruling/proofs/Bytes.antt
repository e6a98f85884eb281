-- The attributes of an operator that was read have numbers and tags of one byte.
-- Assumes nothing.
use Prim.Native.Nat.{ℕ, ◌<◌}
use mathlib.Core.Path.{◌≡◌, refl, sym, subst}
use mathlib.Core.Bool.{Bool, true, false, ◌||◌}
use mathlib.Core.List.{List, [], ◌∷◌, ◌++◌}
use borrow.Author.Tests.{eqb-true}
use lib.Dec.{eqb, lit<}
use Rattle.scope.specs.Choice.{pick}
use Rattle.scope.specs.Item.{Attribute}
use Rattle.scope.specs.Table.{Takes, E, N, P, B, A, D, M, M2, L, I, Rule, Ruled, rule_in}
use Rattle.scope.specs.Attributes.{Fault, fine, bad, has, type_taken, in_range, attribute_code, one_by_one}
use Rattle.scope.specs.Reading.{Context, Operator, Read}
use Rattle.scope.proofs.Taken.{Taken}
use Rattle.rules.proofs.Under.{Under, under_none, under_more, numbers-under}
use Rattle.listed.specs.Listed.{BytesIn, bytes_none, bytes_more}

abbrev IsTrue : Bool → Type 0
IsTrue true = Unit {0}
IsTrue false = ⊥

pub untrue : {X : Type 0} → false ≡ true → X
untrue e = absurd (subst (λ b. IsTrue b) (sym e) tt)

abbrev IsFine : Fault → Type 0
IsFine fine = Unit {0}
IsFine (bad code place) = ⊥

pub unfine : {X : Type 0} {c p : ℕ} → bad c p ≡ fine → X
unfine e = absurd (subst (λ f. IsFine f) (sym e) tt)

-- a tag that is equal to a byte
same : (t k : ℕ) → k < 256 → eqb t k ≡ true → t < 256
same t k h e = subst (λ x. x < 256) (sym (eqb-true t k e)) h

either : (t k : ℕ) (b : Bool) → k < 256 → (b ≡ true → t < 256) → (eqb t k || b) ≡ true → t < 256
either t k b h f e = go (eqb t k) refl e
  where
    go : (a : Bool) → eqb t k ≡ a → (a || b) ≡ true → t < 256
    go true p q = same t k h p
    go false p q = f q

taken-byte : (k : Takes) (t : ℕ) → type_taken k t ≡ true → t < 256
unfolding type_taken
taken-byte (E low high) t e = same t 0xc0 (lit< tt) e
taken-byte (N low high) t e = either t 0xc0 (eqb t 0xc1) (lit< tt) (same t 0xc1 (lit< tt)) e
taken-byte P t e =
    either t 0xd0 (eqb t 0xd1 || (eqb t 0xd3 || eqb t 0xd5)) (lit< tt)
    (either t 0xd1 (eqb t 0xd3 || eqb t 0xd5) (lit< tt) (either t 0xd3 (eqb t 0xd5) (lit< tt) (same t 0xd5 (lit< tt)))) e
taken-byte B t e = either t 0xe0 (eqb t 0xe1 || eqb t 0xe3) (lit< tt) (either t 0xe1 (eqb t 0xe3) (lit< tt) (same t 0xe3 (lit< tt))) e
taken-byte (A low high) t e = same t 0xc8 (lit< tt) e
taken-byte (D low) t e = either t 0xd1 (eqb t 0xd5) (lit< tt) (same t 0xd5 (lit< tt)) e
taken-byte M t e = same t 0xc0 (lit< tt) e
taken-byte M2 t e = either t 0xc0 (eqb t 0xc8) (lit< tt) (same t 0xc8 (lit< tt)) e
taken-byte L t e = either t 0xc0 (eqb t 0xc1 || eqb t 0xc2) (lit< tt) (either t 0xc1 (eqb t 0xc2) (lit< tt) (same t 0xc2 (lit< tt))) e
taken-byte I t e = same t 0xc3 (lit< tt) e

code-byte : (high : Bool) (s : List ℕ) (before : List Attribute) (a : Attribute) (r : Ruled) → eqb (attribute_code high s before a r) 0 ≡ true → a.tag < 256
unfolding attribute_code
code-byte high s before a Ruled.none e = untrue e
code-byte high s before a (Ruled.is r) e = go (has a.number before) (type_taken r.takes a.tag) refl e
  where
    go : (x y : Bool) → type_taken r.takes a.tag ≡ y → eqb (pick x 12 (pick y (pick (in_range high s r.takes a) 0 16) 15)) 0 ≡ true → a.tag < 256
    go true y p q = untrue q
    go false true p q = taken-byte r.takes a.tag p
    go false false p q = untrue q

tags-byte : (high : Bool) (s : List ℕ) (rules : List Rule) (before : List Attribute) {l : List Attribute} → Under l → one_by_one high s rules before l ≡ fine → BytesIn l
unfolding one_by_one
tags-byte high s rules before under_none e = bytes_none
tags-byte high s rules before (under_more {a = a} {l = l} h u) e =
    go (eqb (attribute_code high s before a (rule_in rules a.number)) 0) refl e (λ f. tags-byte high s rules (before ++ (a ∷ [])) u f)
  where
    go : (b : Bool) → eqb (attribute_code high s before a (rule_in rules a.number)) 0 ≡ b
        → pick b (one_by_one high s rules (before ++ (a ∷ [])) l) (bad (attribute_code high s before a (rule_in rules a.number)) a.at) ≡ fine
        → (one_by_one high s rules (before ++ (a ∷ [])) l ≡ fine → BytesIn l) → BytesIn (a ∷ l)
    go true p q k = bytes_more h (code-byte high s before a (rule_in rules a.number) p) (k q)
    go false p q k = unfine q

pub bytes-taken : {c : Context} {s : List ℕ} {o : Operator} → Taken c s (Read.operator o) → BytesIn o.attrs
bytes-taken {c} {s} {o} (Taken.operator {r = r} a b e) = tags-byte c.set.high s r.rules [] (numbers-under c.set.class c.set.high s o.tag r o.attrs a b) b
