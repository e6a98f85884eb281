-- A line's numbers, one by one, in place of its rules.
-- Assumes nothing.
use Prim.Native.Nat.{ℕ, zero, suc, ◌+◌, ◌≤◌, ◌<◌, min}
use mathlib.Core.Path.{◌≡◌, refl, sym, ap, ◌∙◌}
use mathlib.Core.Bool.{Bool, true, false, not}
use mathlib.Core.List.{List, [], ◌∷◌}
use native.Mathlib.Nat.{le_of_suc-le-suc, not-suc-le-zero}
use native.Mathlib.Omega.{arith}
use native.Mathlib.Numerals.{add-one}
use lib.ListN.{length, get_or, take, drop, length-take, drop_of_length-le}
use lib.Seq.{drop-cons, get_or-take}
use lib.Dec.{eqb}
use borrow.Author.Tests.{eq-eqb, ne_eqb, eqb-true, eqb-false}
use Rattle.scope.specs.Choice.{pick, among}
use Rattle.scope.specs.Item.{Attribute}
use Rattle.scope.specs.Header.{Class}
use Rattle.scope.specs.Table as scope
use Rattle.scope.specs.Attributes.{has, all_there, how_many}
use Rattle.attributes.proofs.Rowed.{row-there}
use Rattle.table.specs.Lines.{numbers_in, up_to_no, rule_of}
use Rattle.rules.specs.Judging.{ruled_in, all_in, many_in, Agreed, agreed_none, agreed_more, Led, led_none, led_may, led_must}

module _ (ns : List ℕ) (i : ℕ) where
  pub numbers_more : i < length ns → (get_or ns i 0 ≡ 0 → ⊥) → up_to_no (drop i ns) ≡ get_or ns i 0 ∷ up_to_no (drop (i + 1) ns)
  unfolding up_to_no
  numbers_more h e = rw (add-one, drop-cons ns i 0 h, ne_eqb (get_or ns i 0) 0 e)

  pub numbers-no : i < length ns → get_or ns i 0 ≡ 0 → up_to_no (drop i ns) ≡ []
  unfolding up_to_no
  numbers-no h e = rw (drop-cons ns i 0 h, eq-eqb (get_or ns i 0) 0 e)

  pub numbers-end : length ns ≤ i → up_to_no (drop i ns) ≡ []
  unfolding up_to_no
  numbers-end h = rw (drop_of_length-le ns h)

eqb_turned : (a b : ℕ) → eqb a b ≡ eqb b a
eqb_turned a b = turn (eqb a b) refl
  where
    turn : (t : Bool) → eqb a b ≡ t → t ≡ eqb b a
    turn true e = sym (eq-eqb b a (sym (eqb-true a b e)))
    turn false e = sym (ne_eqb b a (λ k. eqb-false a b e (sym k)))

-- whether a number is among those from i on
module _ (ns : List ℕ) (i x : ℕ) where
  pub among-no : i < length ns → get_or ns i 0 ≡ 0 → among (up_to_no (drop i ns)) x ≡ false
  unfolding among
  among-no h e = rw (numbers-no ns i h e)

  pub among-end : length ns ≤ i → among (up_to_no (drop i ns)) x ≡ false
  unfolding among
  among-end h = rw (numbers-end ns i h)

  module _ (h : i < length ns) (some : get_or ns i 0 ≡ 0 → ⊥) where
    pub among-here : get_or ns i 0 ≡ x → among (up_to_no (drop i ns)) x ≡ true
    unfolding among
    among-here e = rw (numbers_more ns i h some, eq-eqb x (get_or ns i 0) (sym e))

    pub among-next : (get_or ns i 0 ≡ x → ⊥) → among (up_to_no (drop i ns)) x ≡ among (up_to_no (drop (i + 1) ns)) x
    unfolding among
    among-next n = rw (numbers_more ns i h some, ne_eqb x (get_or ns i 0) (λ e. n (sym e)))

-- the number here is 0, past the end, the one looked for, or another
pub ruleset among_by = (among-no, among-end, among-here, among-next)

-- how many of the numbers from i on are there
module _ (l : List Attribute) (ns : List ℕ) (i : ℕ) where
  pub many-no : i < length ns → get_or ns i 0 ≡ 0 → many_in l (up_to_no (drop i ns)) ≡ 0
  unfolding many_in
  many-no h e = rw (numbers-no ns i h e)

  pub many-end : length ns ≤ i → many_in l (up_to_no (drop i ns)) ≡ 0
  unfolding many_in
  many-end h = rw (numbers-end ns i h)

  pub many-next : i < length ns → (get_or ns i 0 ≡ 0 → ⊥)
      → many_in l (up_to_no (drop i ns)) ≡ pick (has (get_or ns i 0) l) 1 0 + many_in l (up_to_no (drop (i + 1) ns))
  unfolding many_in
  many-next h some = rw (numbers_more ns i h some)

-- the number here is 0, past the end, or counted
pub ruleset many_by_one = (many-no, many-end, many-next)

-- the first so many numbers, of which i were looked at
module _ (l : List Attribute) (must : ℕ) (ns : List ℕ) (i : ℕ) where
  all-from : i < must → i < length ns → all_in l (drop i (take must ns)) ≡ pick (has (get_or ns i 0) l) (all_in l (drop (i + 1) (take must ns))) false
  unfolding all_in
  all-from early here =
      let h : i < length (take must ns) = rw (length-take must ns) (omega arith) in
      rw (add-one, drop-cons (take must ns) i 0 h, get_or-take must ns i 0 early)

  pub all-out : has (get_or ns i 0) l ≡ false → i < must → i < length ns → all_in l (drop i (take must ns)) ≡ false
  all-out e early here = all-from early here ∙ rw e

  pub all-next : has (get_or ns i 0) l ≡ true → i < must → i < length ns → all_in l (drop i (take must ns)) ≡ all_in l (drop (i + 1) (take must ns))
  all-next e early here = all-from early here ∙ rw e

  pub all_end : min must (length ns) ≤ i → all_in l (drop i (take must ns)) ≡ true
  unfolding all_in
  all_end h =
      let e : length (take must ns) ≤ i = rw (length-take must ns) h in
      rw (drop_of_length-le (take must ns) e)

-- attribute i has the number
pub ruleset one_there = row-there

-- the number here is not there, is there, or none is left
pub ruleset all_by_one = (all-out, all-next, all_end)

-- the first so many numbers are before the first 0 if so many are
pub take-numbers : (k : ℕ) (ns : List ℕ) → k ≤ length (up_to_no ns) → take k (up_to_no ns) ≡ take k ns
unfolding up_to_no
take-numbers zero ns h = refl
take-numbers (suc k) [] h = refl
take-numbers (suc k) (n ∷ ns) h = step (eqb n 0) (λ q. take-numbers k ns q) h
  where
    step : (b : Bool) → (k ≤ length (up_to_no ns) → take k (up_to_no ns) ≡ take k ns) → suc k ≤ length (pick b [] (n ∷ up_to_no ns))
        → take (suc k) (pick b [] (n ∷ up_to_no ns)) ≡ n ∷ take k ns
    step true q g = absurd (not-suc-le-zero g)
    step false q g = ap (λ (x : List ℕ). n ∷ x) (q (le_of_suc-le-suc g))

-- the rule in a line is the rule of its number
pub ruled_by : (class : Class) (rules : List scope.Rule) → Agreed class rules → (n : ℕ) → scope.rule_in rules n ≡ ruled_in class (numbers_in rules) n
unfolding ruled_in numbers_in among scope.rule_in
ruled_by class [] agreed_none n = refl
ruled_by class (r ∷ rs) (agreed_more e es) n = rw (eqb_turned n r.number) (hit (eqb r.number n) (λ q. eqb-true r.number n q) (ruled_by class rs es n))
  where
    hit : (b : Bool) → (b ≡ true → r.number ≡ n) → scope.rule_in rs n ≡ pick (among (numbers_in rs) n) (scope.Ruled.is (rule_of class n)) scope.Ruled.none
        → elim b [ true ↦ scope.Ruled.is r | false ↦ scope.rule_in rs n ]
        ≡ pick (pick b true (among (numbers_in rs) n)) (scope.Ruled.is (rule_of class n)) scope.Ruled.none
    hit true q k = ap scope.Ruled.is (sym e ∙ ap (rule_of class) (q refl))
    hit false q k = k

not-lacking : (b x : Bool) → pick (not b) false x ≡ pick b x false
not-lacking true x = refl
not-lacking false x = refl

-- where the rules that must be there come first, those are there that must be
pub all-by : (l : List Attribute) (k : ℕ) (rules : List scope.Rule) → Led k rules → all_there l rules ≡ all_in l (take k (numbers_in rules))
unfolding all_there all_in numbers_in
all-by l zero [] led_none = refl
all-by l zero (r ∷ rs) (led_may e es) = rw e (all-by l zero rs es)
all-by l (suc k) [] led = elim led [ ]
all-by l (suc k) (r ∷ rs) (led_must e es) = rw (e, all-by l k rs es) (not-lacking (has r.number l) (all_in l (take k (numbers_in rs))))

-- a line has as many numbers as must be there
pub led-long : (k : ℕ) (rules : List scope.Rule) → Led k rules → k ≤ length (numbers_in rules)
unfolding numbers_in
led-long zero rules led = omega arith
led-long (suc k) [] led = elim led [ ]
led-long (suc k) (r ∷ rs) (led_must e es) =
    let h : k ≤ length (numbers_in rs) = led-long k rs es in
    omega arith

pub many_by : (l : List Attribute) (rules : List scope.Rule) → how_many l rules ≡ many_in l (numbers_in rules)
unfolding how_many many_in numbers_in
many_by l [] = refl
many_by l (r ∷ rs) = rw (many_by l rs)

-- what `listed` answers: no line has the number 0
none-zero : (ns : List ℕ) → among (up_to_no ns) 0 ≡ false
unfolding up_to_no among
none-zero [] = refl
none-zero (n ∷ ns) = step (eqb n 0) refl (none-zero ns)
  where
    step : (b : Bool) → eqb n 0 ≡ b → among (up_to_no ns) 0 ≡ false → among (pick b [] (n ∷ up_to_no ns)) 0 ≡ false
    step true e q = refl
    step false e q = rw (ne_eqb 0 n (λ h. eqb-false n 0 e (sym h))) q

module _ (ns : List ℕ) (n k : ℕ) (answer : k ≡ pick (among (up_to_no ns) n) n 0) where
  pub listed-none : k ≡ 0 → among (up_to_no ns) n ≡ false
  listed-none z = step (among (up_to_no ns) n) refl answer
    where
      step : (b : Bool) → among (up_to_no ns) n ≡ b → k ≡ pick b n 0 → among (up_to_no ns) n ≡ false
      step true q e =
          let o : n ≡ 0 = sym e ∙ z in
          rw o (none-zero ns)
      step false q e = q

  pub listed-is : (k ≡ 0 → ⊥) → (among (up_to_no ns) n ≡ true) × (k ≡ n)
  listed-is z = step (among (up_to_no ns) n) refl answer
    where
      step : (b : Bool) → among (up_to_no ns) n ≡ b → k ≡ pick b n 0 → (among (up_to_no ns) n ≡ true) × (k ≡ n)
      step true q e = (q, e)
      step false q e = absurd (z e)
