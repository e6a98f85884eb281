-- Rounds of the motifs that come to a pattern that is not defined: after as many as a motif has levels the table shows whether its call does.
-- Assumes nothing.
use Prim.Native.Nat.{ℕ, zero, suc, ◌-◌, ◌≤◌, ◌<◌}
use mathlib.Core.Path.{◌≡◌, refl, sym, ap, ◌∙◌}
use mathlib.Core.Bool.{Bool, true, false}
use mathlib.Core.List.{List, [], ◌∷◌}
use native.Mathlib.Omega.{arith}
use lib.Dec.{eqb}
use borrow.Author.Tests.{ne_eqb}
use Rattle.scope.specs.Choice.{pick}
use Rattle.scope.specs.Motif.{Motif, Held, held_as, is_held}
use Rattle.scope.specs.Calls.{unfolded}
use Rattle.scope.specs.Judge.{some_missing}
use Rattle.scope.specs.Reach.{Name, any, fits, names_in, names_of, holds, called_by}
use Rattle.scope.proofs.Apart.{clash-of}
use Rattle.scope.proofs.Levels.{level-unfolds}
use Rattle.key.specs.Mark.{mark}
use Rattle.motif.specs.Held.{Keeps, InRow, level_in}
use Rattle.motif.specs.Tables.{Noted, level_of, Settled}
use Rattle.motif.proofs.Rowed.{held_in, in_below}
use Rattle.pattern_rows.specs.Numbers.{OfPage, OfSession, numbers_in, selecting_in, Few}
use Rattle.patterns.specs.Selects.{selects_in, wants_from, Selects}
use Rattle.patterns.proofs.Enough.{enough}
use Rattle.calls.specs.Marks.{Adds, reaches, Shows, wants_more, selects_of, bad, unmet}
use Rattle.calls.proofs.Marking.{alike, mark-none}
use Rattle.calls.proofs.Rounding.{some_of, reaches-any, any-reaches, adds_at, adds_below, none_below}
use Rattle.calls.proofs.Wanting.{bare-unmet}

-- the motifs of which a pattern that they select themselves is not defined, by what is kept of them
abbrev pub bad_in : (patterns : List ℕ) → List Motif → Name → Bool
bad_in patterns ms = bad (numbers_in patterns OfPage) (numbers_in patterns OfSession) ms

-- where nothing is true of a name, nothing is of what it comes to
any_none : (f : Name → Bool) → ((x : Name) → f x ≡ false) → (l : List Name) → any f l ≡ false
unfolding any
any_none f h [] = refl
any_none f h (x ∷ xs) = rw (h x) (any_none f h xs)

unmet-never : (wrong : Name → Bool) (calls : Name → List Name) → ((x : Name) → wrong x ≡ false) → (d : ℕ) (x : Name) → unmet wrong calls d x ≡ false
unfolding unmet
unmet-never wrong calls h zero x = refl
unmet-never wrong calls h (suc d) x = rw (h x) (any_none (unmet wrong calls d) (unmet-never wrong calls h d) (calls x))

-- a level is one of the rounds, and the motif nests within it
level-is : (ms : List Motif) (d : ℕ) (x : Name) → eqb (level_of ms d x) 0 ≡ false
    → (level_of ms d x ≤ d) × (fits (holds ms) (called_by ms) (level_of ms d x) x ≡ true)
unfolding level_of
level-is ms zero x e = clash-of e
level-is ms (suc d) x e = by (eqb (level_of ms d x) 0) refl (fits (holds ms) (called_by ms) (suc d) x) refl e (level-is ms d x)
  where
    by : (b : Bool) → eqb (level_of ms d x) 0 ≡ b → (c : Bool) → fits (holds ms) (called_by ms) (suc d) x ≡ c
        → eqb (pick b (pick c (suc d) 0) (level_of ms d x)) 0 ≡ false
        → (eqb (level_of ms d x) 0 ≡ false → (level_of ms d x ≤ d) × (fits (holds ms) (called_by ms) (level_of ms d x) x ≡ true))
        → (pick b (pick c (suc d) 0) (level_of ms d x) ≤ suc d) × (fits (holds ms) (called_by ms) (pick b (pick c (suc d) 0) (level_of ms d x)) x ≡ true)
    by true f true g h ih = (omega arith, g)
    by true f false g h ih = clash-of h
    by false f c g h ih = let k = ih f in (omega (arith, k.0), k.1)

-- a motif with a level comes to a pattern that is not defined exactly if its unfolding selects one
module _ {t : List ℕ} {ms : List Motif} {i : ℕ} {m : Motif} (settled : Settled t ms 32) (here : InRow ms i m) (has : level_in t i ≡ 0 → ⊥) where
  levelled : (level_in t i ≤ 32) × (fits (holds ms) (called_by ms) (level_in t i) m.name ≡ true)
  levelled =
      let e = settled.level i m here in
      let z : eqb (level_of ms 32 m.name) 0 ≡ false = ap (λ l. eqb l 0) (sym e) ∙ ne_eqb (level_in t i) 0 has in
      rw e (level-is ms 32 m.name z)

  pub level-most : level_in t i ≤ 32
  level-most = levelled.0

  pub unmet-is : (p s : List ℕ) → unmet (bad p s ms) (called_by ms) (level_in t i) m.name ≡ some_missing p s (wants_from (unfolded ms 32 [] m.name) [])
  unmet-is p s =
      sym (bare-unmet p s ms (level_in t i) m.name)
      ∙ ap (λ row. some_missing p s (wants_from row [])) (sym (level-unfolds ms (level_in t i) 32 m.name levelled.0 levelled.1))

-- what a motif selects itself, by its row
module _ {p : List ℕ} {ms : List Motif} (selects : Selects p ms) (few : Few p) where
  row-bad : (i : ℕ) (m : Motif) → InRow ms i m → wants_more p i ≡ bad_in p ms m.name
  row-bad i m r =
      ap (some_missing (numbers_in p OfPage) (numbers_in p OfSession)) (selects.at i m r)
      ∙ enough (numbers_in p OfPage) (numbers_in p OfSession) (selects_in m.ops) few.page few.session
      ∙ rw r.held refl

  -- the rows that select a pattern that is not defined
  pub bad-shows : {t : List ℕ} {n own : ℕ} → Keeps t n ms → Adds 0 (wants_more p) n own → Shows ms n (bad_in p ms) own
  bad-shows k a = record {
    at = λ i m r. adds_at (wants_more p) i (in_below k.rows r) a ∙ rw (mark-none i) (row-bad i m r);
    below = adds_below (wants_more p) none_below a;
  }

  -- where no motif selects a pattern, none that is selected is missing
  pub none-bad : {t : List ℕ} {n : ℕ} → Keeps t n ms → selecting_in p ≡ 0 → (d : ℕ) (x : Name) → unmet (bad_in p ms) (called_by ms) d x ≡ false
  unfolding some_missing
  none-bad {n = n} k z d x = unmet-never (bad_in p ms) (called_by ms) (λ y. by y (held_as y ms) refl) d x
    where
      by : (y : Name) (h : Held) → held_as y ms ≡ h → some_missing (numbers_in p OfPage) (numbers_in p OfSession) (selects_of h) ≡ false
      by y Held.none e = refl
      by y (Held.is m) e =
          let r = held_in y k.rows e in
          let j : ℕ = m.number - 1 in
          let l : j < 64 = omega (arith, in_below k.rows r, k.most) in
          sym (enough (numbers_in p OfPage) (numbers_in p OfSession) (selects_in m.ops) few.page few.session)
          ∙ ap (some_missing (numbers_in p OfPage) (numbers_in p OfSession)) (sym (selects.at j m r) ∙ selects.quiet.none z j l)

-- whoever comes to a pattern is held
unmet-held : (p s : List ℕ) (ms : List Motif) (d : ℕ) (x : Name) → unmet (bad p s ms) (called_by ms) d x ≡ true → holds ms x ≡ true
unfolding unmet any names_of is_held some_missing
unmet-held p s ms zero x e = clash-of (sym e)
unmet-held p s ms (suc d) x e = by (held_as x ms) e
  where
    by : (h : Held) → pick (some_missing p s (selects_of h)) true (any (unmet (bad p s ms) (called_by ms) d) (names_of h)) ≡ true → is_held h ≡ true
    by (Held.is m) f = refl
    by Held.none f = clash-of (sym f)

-- one call on
unmet-on : {ms : List Motif} {i : ℕ} {m : Motif} (p s : List ℕ) → InRow ms i m → (d : ℕ)
    → unmet (bad p s ms) (called_by ms) (suc d) m.name ≡ pick (bad p s ms m.name) true (any (unmet (bad p s ms) (called_by ms) d) (names_in m.ops))
unfolding unmet names_of
unmet-on p s here d = rw here.held

module _ {t : List ℕ} {n : ℕ} {ms : List Motif} (keeps : Keeps t n ms) (p s : List ℕ) where
  -- at first nobody comes to one
  pub unmet-none : Shows ms n (unmet (bad p s ms) (called_by ms) 0) 0
  unfolding unmet
  unmet-none = record { at = λ i m r. mark-none i; below = none_below }

  -- a round
  pub unmet-round : Noted t n ms → (d own table out : ℕ) → Shows ms n (bad p s ms) own → Shows ms n (unmet (bad p s ms) (called_by ms) d) table
      → Adds own (reaches t table) n out → Shows ms n (unmet (bad p s ms) (called_by ms) (suc d)) out
  unmet-round noted d own table out o w a = record { at = at; below = adds_below (reaches t table) o.below a }
    where
      comes : Name → Bool
      comes = unmet (bad p s ms) (called_by ms) d

      at : (i : ℕ) (m : Motif) → InRow ms i m → mark out i ≡ unmet (bad p s ms) (called_by ms) (suc d) m.name
      at i m r =
          adds_at (reaches t table) i (in_below keeps.rows r) a
          ∙ rw (o.at i m r) (ap (λ b. pick (bad p s ms m.name) true b) called)
          ∙ sym (unmet-on p s r d)
        where
          back : any comes (names_in m.ops) ≡ true → reaches t table i ≡ true
          back e =
              let x = some_of comes (names_in m.ops) e in
              any-reaches keeps noted r comes w x (unmet-held p s ms d x.which x.so)

          called : reaches t table i ≡ any comes (names_in m.ops)
          called = alike (reaches t table i) (any comes (names_in m.ops)) (reaches-any keeps noted r comes w) back
