-- From rows to names. The names that a motif calls are held exactly if no name is missing, and then the rows that it has marks for are theirs; so a motif whose marked
-- rows all have a level from earlier rounds, and that misses no name, is one that nests within this round.
-- Assumes nothing.
use Prim.Native.Nat.{ℕ, zero, suc, ◌-◌, ◌<◌}
use mathlib.Core.Path.{◌≡◌, refl, sym, ap, ◌∙◌}
use mathlib.Core.Bool.{Bool, true, false, not}
use mathlib.Core.List.{List, [], ◌∷◌}
use native.Mathlib.Omega.{arith}
use lib.Dec.{eqb}
use borrow.Author.Tests.{eqb-true, eqb-false, eq-eqb}
use Rattle.scope.specs.Choice.{pick}
use Rattle.scope.specs.Motif.{Motif, Held, held_as, is_held}
use Rattle.scope.specs.Reach.{Name, all, any, fits, names_in, names_of, holds, called_by}
use Rattle.scope.proofs.Graph.{clash, pick_true}
use Rattle.key.specs.Mark.{mark}
use Rattle.motif.specs.Held.{Keeps, InRow, level_in, calls_in, missing_in}
use Rattle.motif.specs.Tables.{row_of, calls_row, lacks_one, Noted}
use Rattle.motif.proofs.Rowed.{held-row, held_in, in_below}
use Rattle.rounds.specs.Rounds.{earlier_of, ready_of}
use Rattle.rounds.proofs.Levels.{nests}

-- two tests of which each is true if the other is
ways : (a b : Bool) → (a ≡ true → b ≡ true) → (b ≡ true → a ≡ true) → a ≡ b
ways true b f g = sym (f refl)
ways false true f g = g refl
ways false false f g = refl

-- tests and their opposites
is-not : (a b : Bool) → not a ≡ b → not b ≡ a
is-not true b e = rw (← e)
is-not false b e = rw (← e)

or_none : (a b : Bool) → pick a true b ≡ false → (a ≡ false) × (b ≡ false)
or_none true b e = clash (sym e)
or_none false b e = (refl, e)

-- one of them, of all of which f is true
one_of : {P : Type 0} (f g : Name → Bool) (l : List Name) → all f l ≡ true → any g l ≡ true → ((x : Name) → f x ≡ true → g x ≡ true → P) → P
unfolding all any
one_of f g [] a b h = clash b
one_of {P} f g (x ∷ l) a b h = let p = pick_true (f x) (all f l) a in by (g x) refl b (λ c. one_of f g l p.1 c h)
  where
    by : (c : Bool) → g x ≡ c → pick c true (any g l) ≡ true → (any g l ≡ true → P) → P
    by true c e k = h x (pick_true (f x) (all f l) a).0 c
    by false c e k = k e

-- what is held
held-motif : (h : Held) → is_held h ≡ true → (m : Motif) × (h ≡ Held.is m)
unfolding is_held
held-motif (Held.is m) e = (m, refl)
held-motif Held.none e = clash e

-- a motif that nests is held
pub nests-held : (ms : List Motif) (d : ℕ) (x : Name) → nests ms d x ≡ true → holds ms x ≡ true
unfolding fits
nests-held ms zero x e = clash e
nests-held ms (suc d) x e = (pick_true (holds ms x) (all (nests ms d) (called_by ms x)) e).0

-- the motif of a name that is held
pub named : (ms : List Motif) (x : Name) → holds ms x ≡ true → (m : Motif) × (held_as x ms ≡ Held.is m)
named ms x e = held-motif (held_as x ms) e

-- and its row
row_is : (ms : List Motif) (x : Name) (m : Motif) → held_as x ms ≡ Held.is m → row_of ms x ≡ m.number - 1
unfolding row_of
row_is ms x m e = rw e

-- a level within which a held motif nests, from those that it calls
pub nests-turn : (ms : List Motif) (i : ℕ) (m : Motif) → InRow ms i m → (d : ℕ) → nests ms (suc d) m.name ≡ all (nests ms d) (names_in m.ops)
unfolding fits is_held names_of
nests-turn ms i m r d = rw r.held

-- down the rows
pub ready_at : (t : List ℕ) (i c j k : ℕ) → j < k → ready_of t k i c ≡ true → earlier_of (mark (calls_in t i) j) (level_in t j) c ≡ true
unfolding ready_of
ready_at t i c j zero h e = absurd (omega arith)
ready_at t i c j (suc k) h e =
    let p = pick_true (earlier_of (mark (calls_in t i) k) (level_in t k) c) (ready_of t k i c) e in
    by (eqb j k) refl p.0 (λ w. ready_at t i c j k w p.1)
  where
    by : (b : Bool) → eqb j k ≡ b → earlier_of (mark (calls_in t i) k) (level_in t k) c ≡ true → (j < k → earlier_of (mark (calls_in t i) j) (level_in t j) c ≡ true)
        → earlier_of (mark (calls_in t i) j) (level_in t j) c ≡ true
    by true b p ih = rw (eqb-true j k b) p
    by false b p ih = ih (omega (arith, eqb-false j k b))

pub ready_all : (t : List ℕ) (i c k : ℕ) → ((j : ℕ) → j < k → earlier_of (mark (calls_in t i) j) (level_in t j) c ≡ true) → ready_of t k i c ≡ true
unfolding ready_of
ready_all t i c zero h = refl
ready_all t i c (suc k) h =
    let l : k < suc k = omega arith in
    rw (h k l) (ready_all t i c k (λ j w. let z : j < suc k = omega arith in h j z))

module _ (t : List ℕ) (n : ℕ) (ms : List Motif) (keeps : Keeps t n ms) (noted : Noted t n ms) (i : ℕ) (m : Motif) (r : InRow ms i m) (d : ℕ)
    (right : (j : ℕ) (x : Motif) → InRow ms j x → calls_row ms m.ops j ≡ true → earlier_of true (level_in t j) (suc d) ≡ nests ms d x.name) where
  -- a name that is called, where the rows are ready
  each : (x : Name) → holds ms x ≡ true → calls_row ms m.ops (row_of ms x) ≡ true → ready_of t n i (suc d) ≡ true → nests ms d x ≡ true
  each x h c e =
      let y = named ms x h in
      let q : InRow ms (y.0.number - 1) y.0 = held_in x keeps.rows y.1 in
      let l : y.0.number - 1 < n = in_below keeps.rows q in
      let w : calls_row ms m.ops (y.0.number - 1) ≡ true = rw (row_is ms x y.0 y.1) at c in
      let k : mark (calls_in t i) (y.0.number - 1) ≡ true = noted.whom i (y.0.number - 1) m r l ∙ w in
      let v : earlier_of true (level_in t (y.0.number - 1)) (suc d) ≡ true = rw k at (ready_at t i (suc d) (y.0.number - 1) n l e) in
      ap (nests ms d) (sym (held-row x keeps.rows y.1).0) ∙ sym (right (y.0.number - 1) y.0 q w) ∙ v

  -- all names that are called
  names_nest : (l : List Name) → any (λ x. not (holds ms x)) l ≡ false → ((j : ℕ) → any (λ x. eqb (row_of ms x) j) l ≡ true → calls_row ms m.ops j ≡ true)
      → ready_of t n i (suc d) ≡ true → all (nests ms d) l ≡ true
  unfolding all any
  names_nest [] a h e = refl
  names_nest (x ∷ l) a h e =
      let p = or_none (not (holds ms x)) (any (λ z. not (holds ms z)) l) a in
      let c : calls_row ms m.ops (row_of ms x) ≡ true = h (row_of ms x) (rw (eq-eqb (row_of ms x) (row_of ms x) refl)) in
      rw (each x (sym (is-not (holds ms x) false p.0)) c e)
      (names_nest l p.1 (λ j z. h j (more (eqb (row_of ms x) j) (any (λ y. eqb (row_of ms y) j) l) z)) e)
    where
      more : (a b : Bool) → b ≡ true → pick a true b ≡ true
      more true b z = refl
      more false b z = z

  -- none of names that nest is missing
  none-lacks : (l : List Name) → all (nests ms d) l ≡ true → any (λ x. not (holds ms x)) l ≡ false
  unfolding all any
  none-lacks [] e = refl
  none-lacks (x ∷ l) e =
      let p = pick_true (nests ms d x) (all (nests ms d) l) e in
      rw (nests-held ms d x p.0) (none-lacks l p.1)

  -- a row that is marked, where all names that are called nest
  row-ready : all (nests ms d) (names_in m.ops) ≡ true → (j : ℕ) → j < n → (b : Bool) → mark (calls_in t i) j ≡ b → earlier_of b (level_in t j) (suc d) ≡ true
  unfolding earlier_of calls_row
  row-ready e j l false c = refl
  row-ready e j l true c =
      one_of (nests ms d) (λ x. eqb (row_of ms x) j) (names_in m.ops) e (sym (noted.whom i j m r l) ∙ c)
      (λ x f g.
      let y = named ms x (nests-held ms d x f) in
      let q : y.0.number - 1 ≡ j = sym (row_is ms x y.0 y.1) ∙ eqb-true (row_of ms x) j g in
      let w : InRow ms j y.0 = rw q at (held_in x keeps.rows y.1) in
      right j y.0 w (sym (noted.whom i j m r l) ∙ c) ∙ ap (nests ms d) (held-row x keeps.rows y.1).0 ∙ f)

  -- from the table's two tests to the names, and back
  all-nest : lacks_one ms m.ops ≡ false → ready_of t n i (suc d) ≡ true → all (nests ms d) (names_in m.ops) ≡ true
  unfolding lacks_one calls_row
  all-nest q e = names_nest (names_in m.ops) q (λ j z. z) e

  none-missing : all (nests ms d) (names_in m.ops) ≡ true → eqb (missing_in t i) 0 ≡ true
  unfolding lacks_one
  none-missing e = sym (is-not (eqb (missing_in t i) 0) false (noted.lacks i m r ∙ none-lacks (names_in m.ops) e))

  -- the motif nests within this round exactly if it misses no name and its rows are ready
  pub ready_nests : pick (eqb (missing_in t i) 0) (ready_of t n i (suc d)) false ≡ nests ms (suc d) m.name
  ready_nests = ways _ _ there back
    where
      there : pick (eqb (missing_in t i) 0) (ready_of t n i (suc d)) false ≡ true → nests ms (suc d) m.name ≡ true
      there e =
          let p = pick_true (eqb (missing_in t i) 0) (ready_of t n i (suc d)) e in
          nests-turn ms i m r d ∙ all-nest (sym (noted.lacks i m r) ∙ ap not p.0) p.1

      back : nests ms (suc d) m.name ≡ true → pick (eqb (missing_in t i) 0) (ready_of t n i (suc d)) false ≡ true
      back e =
          let a = sym (nests-turn ms i m r d) ∙ e in
          rw (none-missing a) (ready_all t i (suc d) n (λ j l. row-ready a j l (mark (calls_in t i) j) refl))
