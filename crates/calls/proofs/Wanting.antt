-- Whether a pattern that a row of operators selects is not defined goes by the row's parts, in whatever order. So for a motif within some levels it goes by
-- what it selects itself and by those that it calls.
-- Assumes nothing.
use Prim.Native.Nat.{ℕ, zero, suc}
use mathlib.Core.Path.{◌≡◌, refl, sym, ap, ◌∙◌}
use mathlib.Core.Bool.{Bool, true, false, not, ◌||◌}
use mathlib.Core.List.{List, [], ◌∷◌, ◌++◌}
use Rattle.scope.specs.Choice.{pick, among}
use Rattle.scope.specs.Arm.{Select, no_pattern, pattern, wanted, Stroke}
use Rattle.scope.specs.Motif.{Own, does, calls, Motif, Held, held_as}
use Rattle.scope.specs.Calls.{flat}
use Rattle.scope.specs.Judge.{some_missing}
use Rattle.scope.specs.Reach.{Name, any, names_in, names_of, called_by}
use Rattle.scope.proofs.Bare.{bare_by, bare}
use Rattle.patterns.specs.Selects.{selects_from, selects_in, wants_from}
use Rattle.calls.specs.Marks.{selects_of, bad, unmet}

-- one of three, whichever is asked first
turn : (a b c : Bool) → pick a true (pick b true c) ≡ pick (pick a true b) true c
turn true b c = refl
turn false b c = refl

swap : (a b c : Bool) → pick (pick a true b) true c ≡ pick (pick a true c) true b
swap true b c = refl
swap false true true = refl
swap false true false = refl
swap false false true = refl
swap false false false = refl

-- what two rows select, one behind the other
wants-join : (a b : List Stroke) (ns : List ℕ) → wants_from (a ++ b) ns ≡ wants_from b (wants_from a ns)
unfolding wants_from
wants-join [] b ns = refl
wants-join (x ∷ a) b ns = wants-join a b (wanted x.act.select ns)

module _ (p s : List ℕ) where
  -- one number more, before the others
  wanted-missing : (e : Select) (ns : List ℕ) → some_missing p s (wanted e ns) ≡ pick (some_missing p s (wanted e [])) true (some_missing p s ns)
  unfolding some_missing
  wanted-missing no_pattern ns = refl
  wanted-missing (pattern n) ns = by (not (among p n || among s n)) (some_missing p s ns)
    where
      by : (b c : Bool) → (b || c) ≡ pick (b || false) true c
      by true c = refl
      by false c = refl

  -- what a row selects, and numbers before it
  wants-missing : (row : List Stroke) (ns : List ℕ)
      → some_missing p s (wants_from row ns) ≡ pick (some_missing p s (wants_from row [])) true (some_missing p s ns)
  unfolding wants_from some_missing
  wants-missing [] ns = refl
  wants-missing (x ∷ l) ns =
      let e : Select = x.act.select in
      wants-missing l (wanted e ns)
      ∙ ap (λ b. pick (some_missing p s (wants_from l [])) true b) (wanted-missing e ns)
      ∙ turn (some_missing p s (wants_from l [])) (some_missing p s (wanted e [])) (some_missing p s ns)
      ∙ ap (λ b. pick b true (some_missing p s ns)) (sym (wants-missing l (wanted e [])))

  selects-missing : (ops : List Own) (ns : List ℕ)
      → some_missing p s (selects_from ops ns) ≡ pick (some_missing p s (selects_from ops [])) true (some_missing p s ns)
  unfolding selects_from some_missing
  selects-missing [] ns = refl
  selects-missing (does o a ∷ l) ns =
      let e : Select = a.select in
      selects-missing l (wanted e ns)
      ∙ ap (λ b. pick (some_missing p s (selects_from l [])) true b) (wanted-missing e ns)
      ∙ turn (some_missing p s (selects_from l [])) (some_missing p s (wanted e [])) (some_missing p s ns)
      ∙ ap (λ b. pick b true (some_missing p s ns)) (sym (selects-missing l (wanted e [])))
  selects-missing (calls o n ∷ l) ns = selects-missing l ns

  -- the row of a motif's own operators: what they select themselves, and what the calls among them come to
  flat-missing : (f : Name → List Stroke) (k : ℕ) (ops : List Own)
      → some_missing p s (wants_from (flat f k ops) [])
      ≡ pick (some_missing p s (selects_in ops)) true (any (λ n. some_missing p s (wants_from (f n) [])) (names_in ops))
  unfolding flat wants_from selects_from some_missing any names_in
  flat-missing f k [] = refl
  flat-missing f k (does o a ∷ os) =
      let e : Select = a.select in
      let own : Bool = some_missing p s (selects_from os []) in
      let called : Bool = any (λ n. some_missing p s (wants_from (f n) [])) (names_in os) in
      wants-missing (flat f k os) (wanted e [])
      ∙ ap (λ b. pick b true (some_missing p s (wanted e []))) (flat-missing f k os)
      ∙ swap own called (some_missing p s (wanted e []))
      ∙ ap (λ b. pick b true called) (sym (selects-missing os (wanted e [])))
  flat-missing f k (calls o n ∷ os) =
      let own : Bool = some_missing p s (selects_from os []) in
      let called : Bool = any (λ n. some_missing p s (wants_from (f n) [])) (names_in os) in
      let here : Bool = some_missing p s (wants_from (f n) []) in
      ap (some_missing p s) (wants-join (f n) (flat f k os) [])
      ∙ wants-missing (flat f k os) (wants_from (f n) [])
      ∙ ap (λ b. pick b true here) (flat-missing f k os)
      ∙ swap own called here
      ∙ sym (turn own here called)

  -- a motif within some levels
  pub bare-unmet : (ms : List Motif) (d : ℕ) (n : Name) → some_missing p s (wants_from (bare ms d n) []) ≡ unmet (bad p s ms) (called_by ms) d n
  unfolding bare bare_by unmet wants_from some_missing names_of any
  bare-unmet ms zero n = refl
  bare-unmet ms (suc d) n = by (held_as n ms) (bare-unmet ms d)
    where
      by : (x : Held) → ((c : Name) → some_missing p s (wants_from (bare ms d c) []) ≡ unmet (bad p s ms) (called_by ms) d c)
          → some_missing p s (wants_from (bare_by (bare ms d) x) [])
          ≡ pick (some_missing p s (selects_of x)) true (any (unmet (bad p s ms) (called_by ms) d) (names_of x))
      by Held.none ih = refl
      by (Held.is m) ih =
          flat-missing (bare ms d) m.number m.ops
          ∙ ap (λ g. pick (some_missing p s (selects_in m.ops)) true (any g (names_in m.ops))) (λ i c. ih c i)
