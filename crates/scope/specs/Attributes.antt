-- 01, "Operators" and "Order": an operator's attributes, one by one 11, 12, 15, 16; then as a whole 13, 14.
-- Assumes nothing.
use Rattle.std.specs.Prelude.{ℕ, ◌+◌, ◌/◌, ◌%◌, List, [], ◌∷◌, ◌++◌, Bool, true, false, not, ◌&&◌, ◌||◌, take, drop, ltb, leb, eqb}
use Rattle.scope.specs.Choice.{pick, between}
use Rattle.scope.specs.Number.{number}
use Rattle.scope.specs.Item.{Attribute}
use Rattle.scope.specs.Table.{Takes, E, N, P, B, A, D, M, M2, L, I, Rule, Form, each, one, line, Ruled, is, none, rule_in}
use Rattle.scope.specs.Names.{EndPoint, NumberOfPoints, PointType}

-- an attribute of this number is among them
unfoldable pub has : ℕ → List Attribute → Bool
has n [] = false
has n (a ∷ l) = pick (eqb a.number n) true (has n l)

-- what the reading of a value answers: whole numbers, or reals by their 32 bits
pub data Two : Type 0 where
  wholes : (x y : ℕ) → Two
  reals : (x y : ℕ) → Two

-- the numbers of a value of this tag, the first of which stands at a place: two reals; or the first of ubytes or of numbers of two bytes and the second of two uint16
unfoldable pub two_at : Bool → List ℕ → (tag first : ℕ) → Two
two_at high s tag first =
    pick (eqb tag 0xd5) (reals (number high 4 s first) (number high 4 s (first + 4)))
    (wholes (number high (pick (eqb tag 0xc0) 1 2) s first) (number high 2 s (first + 2)))

abbrev pub two_of : Bool → List ℕ → Attribute → Two
two_of high s a = two_at high s a.tag a.first

-- a real by its bits: neither infinite nor not a number, that is, its eight exponent bits are not all ones
unfoldable pub finite : (bits : ℕ) → Bool
finite bits = not (eqb (bits % 2147483648 / 8388608) 255)

-- a real by its bits: above zero, that is, its sign bit is not set, and not all bits are zero
unfoldable pub above : (bits : ℕ) → Bool
above bits = ltb 0 bits && ltb bits 2147483648

-- who takes a whole number; a real is none
abbrev pub whole_in : Two → ℕ
whole_in (wholes x y) = x
whole_in (reals x y) = 0

-- who takes a point: whole numbers, and finite reals
abbrev pub point_in : Two → Bool
point_in (wholes x y) = true
point_in (reals x y) = finite x && finite y

-- who takes two sizes: whole numbers from the lowest on, and finite reals above zero
abbrev pub sizes_in : (low : ℕ) → Two → Bool
sizes_in low (wholes x y) = leb low x && leb low y
sizes_in low (reals x y) = (finite x && finite y) && (above x && above y)

-- a value that is a whole number
unfoldable pub first_of : Bool → List ℕ → Attribute → ℕ
first_of high s a = whole_in (two_of high s a)

-- the types taken
unfoldable pub type_taken : Takes → ℕ → Bool
type_taken (E low high) t = eqb t 0xc0
type_taken (N low high) t = eqb t 0xc0 || eqb t 0xc1
type_taken P t = eqb t 0xd0 || (eqb t 0xd1 || (eqb t 0xd3 || eqb t 0xd5))
type_taken B t = eqb t 0xe0 || (eqb t 0xe1 || eqb t 0xe3)
type_taken (A low high) t = eqb t 0xc8
type_taken (D low) t = eqb t 0xd1 || eqb t 0xd5
type_taken M t = eqb t 0xc0
type_taken M2 t = eqb t 0xc0 || eqb t 0xc8
type_taken L t = eqb t 0xc0 || (eqb t 0xc1 || eqb t 0xc2)
type_taken I t = eqb t 0xc3

-- the values taken, of a type that is taken
unfoldable pub in_range : Bool → List ℕ → Takes → Attribute → Bool
in_range order s (E low high) a = between low high (first_of order s a)
in_range order s (N low high) a = between low high (first_of order s a)
in_range order s P a = point_in (two_of order s a)
in_range order s B a = true
in_range order s (A low high) a = between low high a.count
in_range order s (D low) a = sizes_in low (two_of order s a)
in_range order s M a = between 0 12 (first_of order s a) || between 14 16 (first_of order s a)
in_range order s M2 a = pick (eqb a.tag 0xc8) (between 1 1024 a.count) (between 0 21 (first_of order s a) || eqb (first_of order s a) 96)
in_range order s L a = true
in_range order s I a = true

-- a fault: its code and place
pub data Fault : Type 0 where
  fine : Fault
  bad : (code : ℕ) → (place : ℕ) → Fault

-- the code of one attribute, given those before it and its rule; 0 is none
unfoldable pub attribute_code : Bool → List ℕ → List Attribute → Attribute → Ruled → ℕ
attribute_code high s before a none = 11
attribute_code high s before a (is r) =
    pick (has a.number before) 12
    (pick (type_taken r.takes a.tag) (pick (in_range high s r.takes a) 0 16) 15)

-- attribute by attribute
unfoldable pub one_by_one : Bool → List ℕ → List Rule → List Attribute → List Attribute → Fault
one_by_one high s rules before [] = fine
one_by_one high s rules before (a ∷ l) =
    let c = attribute_code high s before a (rule_in rules a.number) in
    pick (eqb c 0) (one_by_one high s rules (before ++ (a ∷ [])) l) (bad c a.at)

-- each attribute that must be there is there
unfoldable pub all_there : List Attribute → List Rule → Bool
all_there l [] = true
all_there l (r ∷ rs) = pick (r.must && not (has r.number l)) false (all_there l rs)

-- how many of a line's attributes are there
unfoldable pub how_many : List Attribute → List Rule → ℕ
how_many l [] = 0
how_many l (r ∷ rs) = pick (has r.number l) 1 0 + how_many l rs

-- exactly one of a choice: none is 13, two are 14
unfoldable pub choice_code : ℕ → ℕ
choice_code k = pick (eqb k 0) 13 (pick (eqb k 1) 0 14)

-- EndPoint alone, or NumberOfPoints with PointType: none is 13, two of the choice or half of the pair is 14
abbrev pub pair_code : Bool → Bool → Bool → ℕ
pair_code true true c = 14
pair_code true false true = 14
pair_code true false false = 0
pair_code false true true = 0
pair_code false true false = 14
pair_code false false true = 14
pair_code false false false = 13

unfoldable pub form_code : List Attribute → List Rule → Form → ℕ
form_code l rs each = pick (all_there l rs) 0 13
form_code l rs one = choice_code (how_many l rs)
form_code l rs line = pair_code (has EndPoint l) (has NumberOfPoints l) (has PointType l)

-- an attribute's value by its number: 0, or no bytes, where it is not there
unfoldable pub value_in : Bool → List ℕ → List Attribute → ℕ → ℕ
value_in high s [] n = 0
value_in high s (a ∷ l) n = pick (eqb a.number n) (first_of high s a) (value_in high s l n)

-- and one of a ubyte, uint16 or uint32
abbrev pub long_bytes : (tag : ℕ) → ℕ
long_bytes tag = pick (eqb tag 0xc2) 4 (pick (eqb tag 0xc0) 1 2)

unfoldable pub long_in : Bool → List ℕ → List Attribute → ℕ → ℕ
long_in high s [] n = 0
long_in high s (a ∷ l) n = pick (eqb a.number n) (number high (long_bytes a.tag) s a.first) (long_in high s l n)

unfoldable pub bytes_in : List ℕ → List Attribute → ℕ → List ℕ
bytes_in s [] n = []
bytes_in s (a ∷ l) n = pick (eqb a.number n) (take a.count (drop a.first s)) (bytes_in s l n)
