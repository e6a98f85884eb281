-- One round: a row calls one that the table marks exactly if its motif calls a name that the table shows. So rounds go by `lost` and by `steps`.
-- Assumes nothing.
use Prim.Native.Nat.{ℕ, zero, suc, ◌-◌, ◌<◌}
use mathlib.Core.Path.{◌≡◌, refl, sym, ap, ◌∙◌}
use mathlib.Core.Bool.{Bool, true, false, not}
use mathlib.Core.List.{List, [], ◌∷◌}
use native.Mathlib.Omega.{arith}
use lib.Dec.{eqb, ltb}
use lib.Bits.{bit_and}
use borrow.Author.Tests.{eqb-true, eq-eqb, lt-ltb, ltb-true, not-true}
use Rattle.scope.specs.Choice.{pick, same}
use Rattle.scope.specs.Motif.{Motif, Held, held_as, is_held}
use Rattle.scope.specs.Reach.{Name, any, lost, steps, names_in, names_of, holds, called_by}
use Rattle.scope.proofs.Apart.{clash-of, same-eq, same_refl}
use Rattle.scope.proofs.Graph.{pick_true}
use Rattle.key.specs.Mark.{mark}
use Rattle.motif.specs.Held.{Keeps, InRow, calls_in}
use Rattle.motif.specs.Tables.{row_by, row_of, calls_row, lacks_one, Noted}
use Rattle.motif.proofs.Rowed.{held-row, held_in, in_below, row-held, row_one}
use Rattle.calls.specs.Marks.{Adds, lacks, reaches, Shows}
use Rattle.calls.proofs.Marking.{alike, mark-none, some-mark, mark-some, and_mark}

-- one of these names of which f is true: whatever is true of it is true of one of them
pub record Some (f : Name → Bool) (l : List Name) : Type 0 where
  pub which : Name
  pub so : f which ≡ true
  pub one : (q : Name → Bool) → q which ≡ true → any q l ≡ true

pick-on : (b c : Bool) → c ≡ true → pick b true c ≡ true
pick-on true c e = refl
pick-on false c e = e

pub some_of : (f : Name → Bool) (l : List Name) → any f l ≡ true → Some f l
unfolding any
some_of f [] e = clash-of (sym e)
some_of f (x ∷ xs) e = by (f x) refl e (some_of f xs)
  where
    by : (b : Bool) → f x ≡ b → pick b true (any f xs) ≡ true → (any f xs ≡ true → Some f xs) → Some f (x ∷ xs)
    by true t g ih = record { which = x; so = t; one = λ q h. rw h refl }
    by false t g ih =
        let s = ih g in
        record { which = s.which; so = s.so; one = λ q h. pick-on (q x) (any q xs) (s.one q h) }

-- a name that is held, by its motif
pub is-held : (x : Held) → is_held x ≡ true → (m : Motif) × (x ≡ Held.is m)
unfolding is_held
is-held (Held.is m) e = (m, refl)
is-held Held.none e = clash-of (sym e)

module _ {t : List ℕ} {n : ℕ} {ms : List Motif} (keeps : Keeps t n ms) where
  -- the name of row j
  in_row : (j : ℕ) (w : Motif) (x : Name) → InRow ms j w → eqb (row_of ms x) j ≡ true → x ≡ w.name
  unfolding row_of
  in_row j w x r e = by (held_as x ms) refl e
    where
      by : (h : Held) → held_as x ms ≡ h → eqb (row_by h) j ≡ true → x ≡ w.name
      by (Held.is m) h f =
          let i = held_in x keeps.rows h in
          let z : m.number - 1 ≡ j = eqb-true (m.number - 1) j f in
          sym (held-row x keeps.rows h).0 ∙ ap (λ (y : Motif). y.name) (row_one keeps.rows (rw z at i) r)
      by Held.none h f = absurd (omega (arith, keeps.most, in_below keeps.rows r, eqb-true 64 j f))

  -- a motif's row is that of its name
  row_in : (j : ℕ) (w : Motif) → InRow ms j w → eqb (row_of ms w.name) j ≡ true
  unfolding row_of
  row_in j w r = rw r.held (eq-eqb (w.number - 1) j (omega (arith, r.row)))

  module _ (noted : Noted t n ms) {i : ℕ} {m : Motif} (here : InRow ms i m) (f : Name → Bool) {table : ℕ} (shows : Shows ms n f table) where
    -- a row that calls one of the table calls a name that the table shows
    pub reaches-any : reaches t table i ≡ true → any f (names_in m.ops) ≡ true
    unfolding calls_row
    reaches-any e =
        let k = some-mark (bit_and (calls_in t i) table) e in
        let p = pick_true (mark (calls_in t i) k.0) (mark table k.0) (sym (and_mark (calls_in t i) table k.0) ∙ k.1) in
        let l : k.0 < n = shows.below k.0 p.1 in
        let w = row-held keeps.rows k.0 l in
        let s = some_of (λ x. eqb (row_of ms x) k.0) (names_in m.ops) (sym (noted.whom i k.0 m here l) ∙ p.0) in
        s.one f (ap f (in_row k.0 w.0 s.which w.1 s.so) ∙ sym (shows.at k.0 w.0 w.1) ∙ p.1)

    -- and the other way, if the name is held
    pub any-reaches : (s : Some f (names_in m.ops)) → holds ms s.which ≡ true → reaches t table i ≡ true
    unfolding calls_row
    any-reaches s h =
        let w = is-held (held_as s.which ms) h in
        let r = held-row s.which keeps.rows w.1 in
        let j : ℕ = w.0.number - 1 in
        let q : InRow ms j w.0 = held_in s.which keeps.rows w.1 in
        let l : j < n = in_below keeps.rows q in
        let a : mark (calls_in t i) j ≡ true = noted.whom i j m here l ∙ s.one (λ x. eqb (row_of ms x) j) (ap (λ x. eqb (row_of ms x) j) (sym r.0) ∙ row_in j w.0 q) in
        let b : mark table j ≡ true = shows.at j w.0 q ∙ ap f r.0 ∙ s.so in
        mark-some (bit_and (calls_in t i) table) j (and_mark (calls_in t i) table j ∙ rw (a, b) refl)

-- what was added below n, and that nothing was added past it
pub adds_at : {own n r : ℕ} (f : ℕ → Bool) (i : ℕ) → i < n → Adds own f n r → mark r i ≡ pick (mark own i) true (f i)
adds_at {own} {n} f i l a = a.at i ∙ rw (lt-ltb i n l)

pub adds_below : {own n r : ℕ} (f : ℕ → Bool) → ((k : ℕ) → mark own k ≡ true → k < n) → Adds own f n r → (k : ℕ) → mark r k ≡ true → k < n
adds_below {own} {n} {r} f o a k e = by (mark own k) refl (ltb k n) refl (sym (a.at k) ∙ e)
  where
    by : (b : Bool) → mark own k ≡ b → (c : Bool) → ltb k n ≡ c → pick b true (pick c (f k) false) ≡ true → k < n
    by true b c d g = o k b
    by false b true d g = ltb-true k n d
    by false b false d g = clash-of (sym g)

pub none_below : {n : ℕ} (k : ℕ) → mark 0 k ≡ true → k < n
none_below k e = clash-of (sym e ∙ mark-none k)

-- a name that is not held is lost, and calls none
lost-unheld : (ms : List Motif) (d : ℕ) (x : Name) → holds ms x ≡ false → lost (holds ms) (called_by ms) d x ≡ true
unfolding lost
lost-unheld ms zero x e = rw e
lost-unheld ms (suc d) x e = rw e

no-calls : (x : Held) → is_held x ≡ false → names_of x ≡ []
unfolding names_of is_held
no-calls (Held.is m) e = clash-of e
no-calls Held.none e = refl

-- whoever calls is held
pub caller_held : (ms : List Motif) (f : Name → Bool) (x : Name) → any f (called_by ms x) ≡ true → holds ms x ≡ true
unfolding any
caller_held ms f x e = by (holds ms x) refl
  where
    by : (b : Bool) → holds ms x ≡ b → b ≡ true
    by true h = refl
    by false h = clash-of (sym (rw (no-calls (held_as x ms) h) at e))

module _ {ms : List Motif} {i : ℕ} {m : Motif} (here : InRow ms i m) where
  holds-in : holds ms m.name ≡ true
  unfolding is_held
  holds-in = rw here.held

  -- one call on
  lost-on : (d : ℕ) → lost (holds ms) (called_by ms) (suc d) m.name ≡ any (lost (holds ms) (called_by ms) d) (names_in m.ops)
  unfolding lost is_held names_of
  lost-on d = rw here.held

  steps_on : (d : ℕ) (v : Name) → steps (called_by ms) (suc d) v m.name ≡ any (steps (called_by ms) d v) (names_in m.ops)
  unfolding steps names_of
  steps_on d v = rw here.held

  -- whoever reaches a motif that is held is held
  steps-held : (d : ℕ) (x : Name) → steps (called_by ms) d m.name x ≡ true → holds ms x ≡ true
  unfolding steps
  steps-held zero x e = ap (holds ms) (same-eq x m.name e) ∙ holds-in
  steps-held (suc d) x e = caller_held ms (steps (called_by ms) d m.name) x e

module _ {t : List ℕ} {n : ℕ} {ms : List Motif} (keeps : Keeps t n ms) where
  -- at first nobody that is held is lost
  pub lost-none : Shows ms n (lost (holds ms) (called_by ms) 0) 0
  unfolding lost
  lost-none = record { at = λ i m r. mark-none i ∙ sym (rw (holds-in r) refl); below = none_below }

  -- a round of the names that are lost
  pub lost-round : Noted t n ms → (d own table out : ℕ) → Adds 0 (lacks t) n own → Shows ms n (lost (holds ms) (called_by ms) d) table
      → Adds own (reaches t table) n out → Shows ms n (lost (holds ms) (called_by ms) (suc d)) out
  unfolding lacks_one
  lost-round noted d own table out o s a = record { at = at; below = adds_below (reaches t table) (adds_below (lacks t) none_below o) a }
    where
      is_lost : Name → Bool
      is_lost = lost (holds ms) (called_by ms) d

      at : (i : ℕ) (m : Motif) → InRow ms i m → mark out i ≡ lost (holds ms) (called_by ms) (suc d) m.name
      at i m r = adds_at (reaches t table) i l a ∙ rw (lacked) (alike (pick (lacks_one ms m.ops) true (reaches t table i)) (any is_lost (names_in m.ops)) there back) ∙ sym (lost-on r d)
        where
          l : i < n
          l = in_below keeps.rows r

          lacked : mark own i ≡ lacks_one ms m.ops
          lacked = adds_at (lacks t) i l o ∙ rw (mark-none i) (noted.lacks i m r)

          there : pick (lacks_one ms m.ops) true (reaches t table i) ≡ true → any is_lost (names_in m.ops) ≡ true
          there e = by (lacks_one ms m.ops) refl e
            where
              by : (b : Bool) → lacks_one ms m.ops ≡ b → pick b true (reaches t table i) ≡ true → any is_lost (names_in m.ops) ≡ true
              by true b g =
                  let x = some_of (λ y. not (holds ms y)) (names_in m.ops) b in
                  x.one is_lost (lost-unheld ms d x.which (not-true (holds ms x.which) x.so))
              by false b g = reaches-any keeps noted r is_lost s g

          back : any is_lost (names_in m.ops) ≡ true → pick (lacks_one ms m.ops) true (reaches t table i) ≡ true
          back e = let x = some_of is_lost (names_in m.ops) e in by x (holds ms x.which) refl
            where
              by : (x : Some is_lost (names_in m.ops)) (b : Bool) → holds ms x.which ≡ b → pick (lacks_one ms m.ops) true (reaches t table i) ≡ true
              by x true h = pick-on (lacks_one ms m.ops) (reaches t table i) (any-reaches keeps noted r is_lost s x h)
              by x false h = let z : lacks_one ms m.ops ≡ true = x.one (λ y. not (holds ms y)) (rw h refl) in rw z refl

  module _ {v : ℕ} {w : Motif} (turn : InRow ms v w) where
    -- at first a motif reaches itself alone
    pub steps-none : (table : ℕ) → ((k : ℕ) → mark table k ≡ pick (eqb v k) true (mark 0 k)) → Shows ms n (steps (called_by ms) 0 w.name) table
    unfolding steps
    steps-none table g = record { at = at; below = λ k e. below k (eqb v k) refl (sym (g k) ∙ e) }
      where
        marked : (k : ℕ) → mark table k ≡ eqb v k
        marked k = g k ∙ rw (mark-none k) (same-as (eqb v k))
          where
            same-as : (b : Bool) → pick b true false ≡ b
            same-as true = refl
            same-as false = refl

        at : (i : ℕ) (m : Motif) → InRow ms i m → mark table i ≡ same m.name w.name
        at i m r = marked i ∙ alike (eqb v i) (same m.name w.name) there back
          where
            there : eqb v i ≡ true → same m.name w.name ≡ true
            there e =
                let z : w ≡ m = row_one keeps.rows (rw (eqb-true v i e) at turn) r in
                rw z (same_refl m.name)

            back : same m.name w.name ≡ true → eqb v i ≡ true
            back e =
                let a : row_of ms w.name ≡ v = eqb-true (row_of ms w.name) v (row_in keeps v w turn) in
                let b : row_of ms m.name ≡ i = eqb-true (row_of ms m.name) i (row_in keeps i m r) in
                eq-eqb v i (sym a ∙ sym (ap (row_of ms) (same-eq m.name w.name e)) ∙ b)

        below : (k : ℕ) (b : Bool) → eqb v k ≡ b → pick b true (mark 0 k) ≡ true → k < n
        below k true e f = omega (arith, eqb-true v k e, in_below keeps.rows turn)
        below k false e f = none_below k f

    -- a round of the motifs that reach it
    pub steps-round : Noted t n ms → (d table out : ℕ) → Shows ms n (steps (called_by ms) d w.name) table → Adds 0 (reaches t table) n out
        → Shows ms n (steps (called_by ms) (suc d) w.name) out
    steps-round noted d table out s a = record { at = at; below = adds_below (reaches t table) none_below a }
      where
        comes : Name → Bool
        comes = steps (called_by ms) d w.name

        at : (i : ℕ) (m : Motif) → InRow ms i m → mark out i ≡ steps (called_by ms) (suc d) w.name m.name
        at i m r =
            adds_at (reaches t table) i (in_below keeps.rows r) a
            ∙ rw (mark-none i) (alike (reaches t table i) (any comes (names_in m.ops)) (reaches-any keeps noted r comes s) back)
            ∙ sym (steps_on r d w.name)
          where
            back : any comes (names_in m.ops) ≡ true → reaches t table i ≡ true
            back e =
                let x = some_of comes (names_in m.ops) e in
                any-reaches keeps noted r comes s x (steps-held turn d x.which x.so)
