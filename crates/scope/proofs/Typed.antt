-- Values are looked at only where their type is taken: of an operator whose attributes are all taken, each that reading or judging looks at by its number has a
-- type of the width that is read.
-- Assumes nothing.
use Prim.Native.Nat.{ℕ}
use mathlib.Core.Path.{◌≡◌, refl, sym, ap, subst}
use mathlib.Core.Bool.{Bool, true, false, ◌&&◌, ◌||◌}
use mathlib.Core.List.{List, [], ◌∷◌, ◌++◌}
use borrow.Author.Tests.{eqb-true}
use lib.Dec.{eqb}
use Rattle.scope.specs.Choice.{pick}
use Rattle.scope.specs.Header.{Class}
use Rattle.scope.specs.Item.{Attribute}
use Rattle.scope.specs.Table.{Takes, E, N, P, B, A, D, M, M2, L, Rule, Row, Line, Ruled, table, table_one, table_two, line_in, rule_in}
use Rattle.scope.specs.Attributes.{Fault, fine, bad, has, type_taken, in_range, attribute_code, one_by_one}
use Rattle.scope.proofs.Apart.{clash-of}
use Rattle.scope.proofs.Says.{looked}

-- how a value is looked at by its attribute's number: as a whole number, as a long one, as bytes, or not at all
pub data Need : Type 0 where
  whole : Need
  long : Need
  bytes : Need
  any : Need

-- whole ones: those that judging looks at; StartLine, PadBytesMultiple, StreamDataLength, NumberOfPoints, PointType; a long one: BlockByteLength; bytes: StreamName
abbrev pub need_of : ℕ → Need
need_of n =
    pick (looked n || (eqb n 109 || (eqb n 110 || (eqb n 140 || (eqb n 77 || eqb n 80))))) whole
    (pick (eqb n 111) long (pick (eqb n 139) bytes any))

-- a tag of that width
abbrev pub fits : Need → ℕ → Bool
fits whole t = eqb t 0xc0 || (eqb t 0xc1 || eqb t 0xc3)
fits long t = eqb t 0xc0 || (eqb t 0xc1 || eqb t 0xc2)
fits bytes t = eqb t 0xc8
fits any t = true

-- a rule that takes such tags only
abbrev whole_takes : Takes → Bool
whole_takes (E low high) = true
whole_takes (N low high) = true
whole_takes P = false
whole_takes B = false
whole_takes (A low high) = false
whole_takes (D low) = false
whole_takes M = false
whole_takes M2 = false
whole_takes L = false
whole_takes Takes.I = true

abbrev is_long : Takes → Bool
is_long (E low high) = false
is_long (N low high) = false
is_long P = false
is_long B = false
is_long (A low high) = false
is_long (D low) = false
is_long M = false
is_long M2 = false
is_long L = true
is_long Takes.I = false

abbrev is_bytes : Takes → Bool
is_bytes (E low high) = false
is_bytes (N low high) = false
is_bytes P = false
is_bytes B = false
is_bytes (A low high) = true
is_bytes (D low) = false
is_bytes M = false
is_bytes M2 = false
is_bytes L = false
is_bytes Takes.I = false

abbrev suits : Need → Takes → Bool
suits whole k = whole_takes k
suits long k = is_long k
suits bytes k = is_bytes k
suits any k = true

or_more : (a b : Bool) → a ≡ true → a || b ≡ true
or_more true b e = refl
or_more false b e = clash-of (sym e)

wider : (a b c : Bool) → a || b ≡ true → a || (b || c) ≡ true
wider true b c e = refl
wider false true c e = refl
wider false false c e = clash-of (sym e)

or_last : (a b c : Bool) → c ≡ true → a || (b || c) ≡ true
or_last true b c e = refl
or_last false true c e = refl
or_last false false c e = e

suits-fits : (n : Need) (k : Takes) (t : ℕ) → suits n k ≡ true → type_taken k t ≡ true → fits n t ≡ true
unfolding type_taken
suits-fits whole (E low high) t s e = or_more (eqb t 0xc0) (eqb t 0xc1 || eqb t 0xc3) e
suits-fits whole (N low high) t s e = wider (eqb t 0xc0) (eqb t 0xc1) (eqb t 0xc3) e
suits-fits whole P t s e = clash-of (sym s)
suits-fits whole B t s e = clash-of (sym s)
suits-fits whole (A low high) t s e = clash-of (sym s)
suits-fits whole (D low) t s e = clash-of (sym s)
suits-fits whole M t s e = clash-of (sym s)
suits-fits whole M2 t s e = clash-of (sym s)
suits-fits whole L t s e = clash-of (sym s)
suits-fits whole Takes.I t s e = or_last (eqb t 0xc0) (eqb t 0xc1) (eqb t 0xc3) e
suits-fits long (E low high) t s e = clash-of (sym s)
suits-fits long (N low high) t s e = clash-of (sym s)
suits-fits long P t s e = clash-of (sym s)
suits-fits long B t s e = clash-of (sym s)
suits-fits long (A low high) t s e = clash-of (sym s)
suits-fits long (D low) t s e = clash-of (sym s)
suits-fits long M t s e = clash-of (sym s)
suits-fits long M2 t s e = clash-of (sym s)
suits-fits long L t s e = e
suits-fits long Takes.I t s e = clash-of (sym s)
suits-fits bytes (E low high) t s e = clash-of (sym s)
suits-fits bytes (N low high) t s e = clash-of (sym s)
suits-fits bytes P t s e = clash-of (sym s)
suits-fits bytes B t s e = clash-of (sym s)
suits-fits bytes (A low high) t s e = e
suits-fits bytes (D low) t s e = clash-of (sym s)
suits-fits bytes M t s e = clash-of (sym s)
suits-fits bytes M2 t s e = clash-of (sym s)
suits-fits bytes L t s e = clash-of (sym s)
suits-fits bytes Takes.I t s e = clash-of (sym s)
suits-fits any k t s e = refl

-- the lines of both tables are such, by computing
unfoldable all_suit : List Rule → Bool
all_suit [] = true
all_suit (r ∷ rs) = suits (need_of r.number) r.takes && all_suit rs

unfoldable table_suits : List Row → Bool
table_suits [] = true
table_suits (r ∷ rs) = all_suit r.rules && table_suits rs

table-suits : (c : Class) → table_suits (table c) ≡ true
unfolding table_suits all_suit table table_one table_two
table-suits Class.one = refl
table-suits Class.two = refl

and_first : (a b : Bool) → a && b ≡ true → a ≡ true
and_first true b e = refl
and_first false b e = clash-of (sym e)

and_second : (a b : Bool) → a && b ≡ true → b ≡ true
and_second true b e = e
and_second false b e = clash-of (sym e)

abbrev SuitLine : Line → Type 0
SuitLine (Line.is r) = all_suit r.rules ≡ true
SuitLine Line.none = Unit {0}

line-in_suits : (rs : List Row) (op : ℕ) → table_suits rs ≡ true → SuitLine (line_in rs op)
unfolding table_suits line_in
line-in_suits [] op e = tt
line-in_suits (r ∷ rs) op e = by (eqb r.op op) (line-in_suits rs op (and_second (all_suit r.rules) (table_suits rs) e))
  where
    by : (b : Bool) → SuitLine (line_in rs op) → SuitLine (elim b as (λ _. Line) [ true ↦ Line.is r | false ↦ line_in rs op ])
    by true h = and_first (all_suit r.rules) (table_suits rs) e
    by false h = h

abbrev SuitRule : ℕ → Ruled → Type 0
SuitRule n (Ruled.is r) = suits (need_of n) r.takes ≡ true
SuitRule n Ruled.none = Unit {0}

rule-in_suits : (rs : List Rule) (n : ℕ) → all_suit rs ≡ true → SuitRule n (rule_in rs n)
unfolding all_suit rule_in
rule-in_suits [] n e = tt
rule-in_suits (r ∷ rs) n e = by (eqb r.number n) refl (rule-in_suits rs n (and_second (suits (need_of r.number) r.takes) (all_suit rs) e))
  where
    by : (b : Bool) → eqb r.number n ≡ b → SuitRule n (rule_in rs n) → SuitRule n (elim b as (λ _. Ruled) [ true ↦ Ruled.is r | false ↦ rule_in rs n ])
    by true f h = subst (λ k. suits (need_of k) r.takes ≡ true) (eqb-true r.number n f) (and_first (suits (need_of r.number) r.takes) (all_suit rs) e)
    by false f h = h

-- attributes of the types that are looked at
pub data AllTyped : List Attribute → Type 0 where
  none : AllTyped []
  more : {a : Attribute} {l : List Attribute} → fits (need_of a.number) a.tag ≡ true → AllTyped l → AllTyped (a ∷ l)

abbrev is_fine : Fault → Bool
is_fine fine = true
is_fine (bad code place) = false

module _ (high : Bool) (s : List ℕ) where
  code-typed : (before : List Attribute) (a : Attribute) (r : Ruled) → SuitRule a.number r → eqb (attribute_code high s before a r) 0 ≡ true
      → fits (need_of a.number) a.tag ≡ true
  unfolding attribute_code
  code-typed before a Ruled.none h e = clash-of (sym e)
  code-typed before a (Ruled.is r) h e = by (has a.number before) (type_taken r.takes a.tag) refl e
    where
      by : (b d : Bool) → type_taken r.takes a.tag ≡ d → eqb (pick b 12 (pick d (pick (in_range high s r.takes a) 0 16) 15)) 0 ≡ true
          → fits (need_of a.number) a.tag ≡ true
      by true d f e = clash-of (sym e)
      by false true f e = suits-fits (need_of a.number) r.takes a.tag h f
      by false false f e = clash-of (sym e)

  one_typed : (rs : List Rule) → all_suit rs ≡ true → (before l : List Attribute) → one_by_one high s rs before l ≡ fine → AllTyped l
  unfolding one_by_one
  one_typed rs h before [] e = none
  one_typed rs h before (a ∷ l) e = by (eqb (attribute_code high s before a (rule_in rs a.number)) 0) refl e (one_typed rs h (before ++ (a ∷ [])) l)
    where
      by : (b : Bool) → eqb (attribute_code high s before a (rule_in rs a.number)) 0 ≡ b
          → pick b (one_by_one high s rs (before ++ (a ∷ [])) l) (bad (attribute_code high s before a (rule_in rs a.number)) a.at) ≡ fine
          → (one_by_one high s rs (before ++ (a ∷ [])) l ≡ fine → AllTyped l) → AllTyped (a ∷ l)
      by true f e k = more (code-typed before a (rule_in rs a.number) (rule-in_suits rs a.number h) f) (k e)
      by false f e k = clash-of (sym (ap is_fine e))

  pub fine-typed : (class : Class) (tag : ℕ) (r : Row) → line_in (table class) tag ≡ Line.is r → (l : List Attribute) → one_by_one high s r.rules [] l ≡ fine → AllTyped l
  fine-typed class tag r e l f = one_typed r.rules (subst SuitLine e (line-in_suits (table class) tag (table-suits class))) [] l f
