-- One motif more, under a new name, where all that each held motif calls are held: a held name means what it meant, nests as deep and unfolds to the same, and the
-- marks of those that call it are right still. The new one unfolds to its own operators with what each of those that it calls unfolds to.
-- Assumes nothing.
use Prim.Native.Nat.{ℕ, zero, suc, ◌≤◌}
use mathlib.Core.Path.{◌≡◌, refl, sym, ap, ◌∙◌}
use mathlib.Core.Bool.{Bool, true, false, not}
use mathlib.Core.List.{List, [], ◌∷◌}
use native.Mathlib.Omega.{arith}
use lib.Dec.{eqb}
use borrow.Author.Tests.{eq-eqb, not-false}
use Rattle.scope.specs.Choice.{pick}
use Rattle.scope.specs.Motif.{Own, Motif, Held, held_as, is_held}
use Rattle.scope.specs.Calls.{is_one, flat, call_by, call_of, through, unfolded}
use Rattle.scope.specs.Reach.{Name, all, fits, names_in, names_of, holds, called_by}
use Rattle.scope.proofs.Apart.{clash-of}
use Rattle.scope.proofs.Bare.{bare_by, bare}
use Rattle.scope.proofs.Graph.{pick_true, fits_more}
use Rattle.scope.proofs.Levels.{level-unfolds}
use Rattle.motif.specs.Tables.{row_by, row_of, calls_row, lacks_one, level_of}
use Rattle.motif.proofs.Rowed.{held_first, still-held}
use Rattle.adding.proofs.Each.{Each, each_map, each_both, all-each, any_none, none_each, all_same, any_same, flat-same}

-- of each name: it is held
abbrev pub Held-all : List Motif → List Name → Type 0
Held-all ms l = Each (λ x. holds ms x ≡ true) l

module _ (ms : List Motif) where
  -- what nests within some levels is held
  fits-held : (d : ℕ) (x : Name) → fits (holds ms) (called_by ms) d x ≡ true → holds ms x ≡ true
  unfolding fits
  fits-held zero x e = clash-of (sym e)
  fits-held (suc d) x e = (pick_true (holds ms x) (all (fits (holds ms) (called_by ms) d) (called_by ms x)) e).0

  -- and so are those that it calls
  pub fits-closed : (d : ℕ) (x : Name) → fits (holds ms) (called_by ms) (suc d) x ≡ true → Held-all ms (called_by ms x)
  unfolding fits
  fits-closed d x e =
      let p = pick_true (holds ms x) (all (fits (holds ms) (called_by ms) d) (called_by ms x)) e in
      each_map (λ c. fits (holds ms) (called_by ms) d c ≡ true) (λ c. holds ms c ≡ true) (fits-held d) (called_by ms x) (all-each (fits (holds ms) (called_by ms) d) (called_by ms x) p.1)

  -- a motif with a level nests within
  pub level-fits : (d : ℕ) (x : Name) → (level_of ms d x ≡ 0 → ⊥) → fits (holds ms) (called_by ms) d x ≡ true
  unfolding level_of
  level-fits zero x h = absurd (h refl)
  level-fits (suc d) x h = by (eqb (level_of ms d x) 0) (fits (holds ms) (called_by ms) (suc d) x) refl refl (level-fits d x)
    where
      by : (b e : Bool) → eqb (level_of ms d x) 0 ≡ b → fits (holds ms) (called_by ms) (suc d) x ≡ e
          → ((level_of ms d x ≡ 0 → ⊥) → fits (holds ms) (called_by ms) d x ≡ true) → e ≡ true
      by b true p q ih = refl
      by true false p q ih = absurd (h (rw (p, q)))
      by false false p q ih =
          sym q ∙ fits_more (holds ms) (called_by ms) d x (ih (λ z. clash-of (sym (eq-eqb (level_of ms d x) 0 z) ∙ p)))

  -- a name not held unfolds to nothing
  pub none-unfolds : (d : ℕ) (run : List Name) (x : Name) → held_as x ms ≡ Held.none → unfolded ms d run x ≡ []
  unfolding unfolded call_of call_by through
  none-unfolds zero run x e = refl
  none-unfolds (suc d) run x e = rw e refl

  -- operators that name none that is not held
  pub lacks-held : (ops : List Own) → lacks_one ms ops ≡ false → Held-all ms (names_in ops)
  unfolding lacks_one
  lacks-held ops e =
      each_map (λ x. not (holds ms x) ≡ false) (λ x. holds ms x ≡ true) (λ x h. not-false (holds ms x) h) (names_in ops) (any_none (λ x. not (holds ms x)) (names_in ops) e)

  pub held-lacks : (ops : List Own) → Held-all ms (names_in ops) → lacks_one ms ops ≡ false
  unfolding lacks_one
  held-lacks ops e =
      none_each (λ x. not (holds ms x)) (names_in ops) (each_map (λ x. holds ms x ≡ true) (λ x. not (holds ms x) ≡ false) (λ x h. ap not h) (names_in ops) e)

module _ (m : Motif) (ms : List Motif) (new : held_as m.name ms ≡ Held.none) where
  -- a held name means what it meant
  pub as_before : (x : Name) → holds ms x ≡ true → held_as x (m ∷ ms) ≡ held_as x ms
  unfolding is_held
  as_before x h = by (held_as x ms) refl h
    where
      by : (y : Held) → held_as x ms ≡ y → is_held y ≡ true → held_as x (m ∷ ms) ≡ y
      by (Held.is a) e k = still-held m ms new x e
      by Held.none e k = clash-of (sym k)

  pub still-all : (l : List Name) → Held-all ms l → Held-all (m ∷ ms) l
  still-all l e = each_map (λ x. holds ms x ≡ true) (λ x. holds (m ∷ ms) x ≡ true) (λ x h. ap is_held (as_before x h) ∙ h) l e

  -- operators that name held motifs call the same rows
  pub calls_same : (ops : List Own) (j : ℕ) → Held-all ms (names_in ops) → calls_row (m ∷ ms) ops j ≡ calls_row ms ops j
  unfolding calls_row row_of
  calls_same ops j e =
      any_same (λ x. eqb (row_by (held_as x (m ∷ ms))) j) (λ x. eqb (row_by (held_as x ms)) j) (names_in ops)
      (each_map (λ x. holds ms x ≡ true) (λ x. eqb (row_by (held_as x (m ∷ ms))) j ≡ eqb (row_by (held_as x ms)) j) (λ x h. ap (λ y. eqb (row_by y) j) (as_before x h)) (names_in ops) e)

  module _ (closed : (x : Name) → holds ms x ≡ true → Held-all ms (called_by ms x)) where
    -- it nests as deep as before
    pub fits-same : (d : ℕ) (x : Name) → holds ms x ≡ true → fits (holds (m ∷ ms)) (called_by (m ∷ ms)) d x ≡ fits (holds ms) (called_by ms) d x
    unfolding fits
    fits-same zero x h = refl
    fits-same (suc d) x h =
        rw (as_before x h)
        (ap (λ b. pick (holds ms x) b false)
        (all_same (fits (holds (m ∷ ms)) (called_by (m ∷ ms)) d) (fits (holds ms) (called_by ms) d) (called_by ms x)
        (each_map (λ c. holds ms c ≡ true) (λ c. fits (holds (m ∷ ms)) (called_by (m ∷ ms)) d c ≡ fits (holds ms) (called_by ms) d c) (λ c k. fits-same d c k) (called_by ms x) (closed x h))))

    pub level-same : (d : ℕ) (x : Name) → holds ms x ≡ true → level_of (m ∷ ms) d x ≡ level_of ms d x
    unfolding level_of
    level-same zero x h = refl
    level-same (suc d) x h = rw (level-same d x h, fits-same (suc d) x h)

    -- and unfolds to the same
    pub unfolds_same : (d : ℕ) (run : List Name) (x : Name) → holds ms x ≡ true → unfolded (m ∷ ms) d run x ≡ unfolded ms d run x
    unfolding unfolded call_of call_by through names_of
    unfolds_same zero run x h = refl
    unfolds_same (suc d) run x h = rw (as_before x h) (by (is_one x run) (held_as x ms) (closed x h) (unfolds_same d (x ∷ run)))
      where
        by : (b : Bool) (y : Held) → Held-all ms (names_of y) → ((c : Name) → holds ms c ≡ true → unfolded (m ∷ ms) d (x ∷ run) c ≡ unfolded ms d (x ∷ run) c)
            → through (unfolded (m ∷ ms) d (x ∷ run)) (call_by b y) ≡ through (unfolded ms d (x ∷ run)) (call_by b y)
        by b Held.none e ih = refl
        by true (Held.is a) e ih = refl
        by false (Held.is a) e ih =
            flat-same (unfolded (m ∷ ms) d (x ∷ run)) (unfolded ms d (x ∷ run)) a.number a.ops
            (each_map (λ c. holds ms c ≡ true) (λ c. unfolded (m ∷ ms) d (x ∷ run) c ≡ unfolded ms d (x ∷ run) c) ih (names_in a.ops) e)

    -- the new one, where it has a level: its callees nest one less deep
    bare-own : (d : ℕ) → d ≤ 32 → fits (holds (m ∷ ms)) (called_by (m ∷ ms)) (suc d) m.name ≡ true → Held-all ms (names_in m.ops)
        → bare (m ∷ ms) (suc d) m.name ≡ flat (unfolded ms 32 []) m.number m.ops
    unfolding bare bare_by fits names_of is_held
    bare-own d l e h =
        let f : all (fits (holds (m ∷ ms)) (called_by (m ∷ ms)) d) (names_in m.ops) ≡ true = rw (held_first m ms) at e in
        rw (held_first m ms)
        (flat-same (bare (m ∷ ms) d) (unfolded ms 32 []) m.number m.ops
        (each_map (λ c. (fits (holds (m ∷ ms)) (called_by (m ∷ ms)) d c ≡ true) × (holds ms c ≡ true)) (λ c. bare (m ∷ ms) d c ≡ unfolded ms 32 [] c)
        (λ c k. sym (level-unfolds (m ∷ ms) d 32 c l k.0) ∙ unfolds_same 32 [] c k.1) (names_in m.ops)
        (each_both (λ c. fits (holds (m ∷ ms)) (called_by (m ∷ ms)) d c ≡ true) (λ c. holds ms c ≡ true) (names_in m.ops)
        (all-each (fits (holds (m ∷ ms)) (called_by (m ∷ ms)) d) (names_in m.ops) f) h)))

    pub own-unfolds : (level_of (m ∷ ms) 32 m.name ≡ 0 → ⊥) → Held-all ms (names_in m.ops) → unfolded (m ∷ ms) 32 [] m.name ≡ flat (unfolded ms 32 []) m.number m.ops
    own-unfolds n h =
        let f : fits (holds (m ∷ ms)) (called_by (m ∷ ms)) 32 m.name ≡ true = level-fits (m ∷ ms) 32 m.name n in
        let l : 32 ≤ 32 = omega arith in
        let k : 31 ≤ 32 = omega arith in
        level-unfolds (m ∷ ms) 32 32 m.name l f ∙ bare-own 31 k f h
