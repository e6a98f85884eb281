-- The table of one motif more, the short way: every motif before it has its level and names held motifs only, and so does the new one. So the others' rows are right
-- still, and the new one's level and summary follow from theirs.
-- Assumes nothing.
use Prim.Native.Nat.{ℕ, suc, ◌+◌, ◌-◌, ◌*◌, ◌<◌}
use mathlib.Core.Logic.{◌≢◌}
use mathlib.Core.Path.{◌≡◌, refl, sym, ap, ◌∙◌, subst}
use mathlib.Core.Bool.{Bool, true, false, not}
use mathlib.Core.List.{List, [], ◌∷◌}
use native.Mathlib.Omega.{arith}
use lib.ListN.{length, get_or, set, length-set}
use lib.Seq.{get_or-set_same, get_or-set_other}
use lib.Dec.{eqb}
use borrow.Author.Tests.{eqb-true, eqb-false, ne_eqb}
use Rattle.scope.specs.Choice.{pick, same}
use Rattle.scope.specs.Motif.{Own, Motif, Held, held_as, is_held}
use Rattle.scope.specs.Calls.{unfolded}
use Rattle.scope.specs.Reach.{Name, names_in, names_of, holds, called_by}
use Rattle.scope.proofs.Apart.{clash-of}
use Rattle.summary.specs.Sums.{SumsAs}
use Rattle.summary.proofs.Empty.{empty-sums}
use Rattle.key.specs.Mark.{mark}
use Rattle.motif.specs.Held.{Rows, rows_more, Keeps, InRow, cell, level_in, sum_in, calls_in, missing_in}
use Rattle.motif.specs.Tables.{row_by, row_of, calls_row, lacks_one, level_of, settled_row, Noted, Settled, Tables, SumFor, SumsUp}
use Rattle.motif.proofs.Rowed.{is_same, held-here, held_on, held_first, held-row, held_in, in_below, keeps-beside}
use Rattle.rounds.specs.Rounds.{LevelsBut}
use Rattle.within.specs.declared.inside.Made.{Made}
use Rattle.adding.specs.Rowing.{Done}
use Rattle.adding.specs.Comes.{Fresh}
use Rattle.adding.proofs.Each.{each_map, none_each}
use Rattle.adding.proofs.Stays.{Held-all, fits-closed, level-fits, none-unfolds, lacks-held, held-lacks, still-all, calls_same, level-same, unfolds_same, own-unfolds}

-- the row of the last motif
rows_new : {t : List ℕ} {n : ℕ} {m : Motif} {ms : List Motif} → Rows t (suc n) (m ∷ ms) → held_as m.name ms ≡ Held.none
rows_new (rows_more p q r s e f k) = f

rows-number : {t : List ℕ} {n : ℕ} {m : Motif} {ms : List Motif} → Rows t (suc n) (m ∷ ms) → m.number ≡ suc n
rows-number (rows_more p q r s e f k) = e

module _ {t : List ℕ} {n : ℕ} {made : Made} {m : Motif} {ms : List Motif} (k : Fresh t n made m ms) (none : made.missing ≡ false) (done : (j : ℕ) → j < n → Done t n j) where
  new : held_as m.name ms ≡ Held.none
  new = rows_new k.keeps.rows

  -- a motif of the list is one of those before, or the new one
  either : {P : Type 0} {i : ℕ} {x : Motif} → InRow (m ∷ ms) i x → (InRow ms i x → i < n → P) → (i ≡ n → m ≡ x → P) → P
  either {P} {i} {x} r old last = by (same m.name x.name) refl
    where
      by : (b : Bool) → same m.name x.name ≡ b → P
      by true b =
          let z : m ≡ x = is_same (sym (held-here m ms x.name b) ∙ r.held) in
          let y : m.number ≡ suc i = ap (λ (u : Motif). u.number) z ∙ r.row in
          let e : i ≡ n = let w = rows-number k.keeps.rows in omega arith in
          last e z
      by false b =
          let w : InRow ms i x = record { held = sym (held_on m ms x.name b) ∙ r.held; row = r.row } in
          old w (in_below k.rows w)

  -- each motif before has a level
  level-is : (i : ℕ) (x : Motif) → InRow ms i x → level_in t i ≡ 0 → ⊥
  level-is i x r = (done i (in_below k.rows r)).level

  held-level : (x : Name) → holds ms x ≡ true → level_of ms 32 x ≡ 0 → ⊥
  unfolding is_held
  held-level x h z = by (held_as x ms) refl h
    where
      by : (y : Held) → held_as x ms ≡ y → is_held y ≡ true → ⊥
      by (Held.is a) e w =
          let r = held_in x k.rows e in
          let o = (held-row x k.rows e).0 in
          level-is (a.number - 1) a r (k.settled.level (a.number - 1) a r ∙ ap (level_of ms 32) o ∙ z)
      by Held.none e w = clash-of (sym w)

  -- and so all that it calls are held
  closed : (x : Name) → holds ms x ≡ true → Held-all ms (called_by ms x)
  closed x h = fits-closed ms 31 x (level-fits ms 32 x (held-level x h))

  is-held : {i : ℕ} {x : Motif} → InRow ms i x → holds ms x.name ≡ true
  unfolding is_held
  is-held r = rw r.held

  named-held : {i : ℕ} {x : Motif} → InRow ms i x → Held-all ms (names_in x.ops)
  unfolding names_of
  named-held {x = x} r = rw r.held at (closed x.name (is-held r))

  own_held : Held-all ms (names_in m.ops)
  own_held = lacks-held ms m.ops (sym k.makes.lacks ∙ none)

  -- no held name has the new row
  not_last : (ops : List Own) → Held-all ms (names_in ops) → calls_row (m ∷ ms) ops n ≡ false
  unfolding calls_row row_of is_held
  not_last ops h =
      calls_same m ms new ops n h ∙ none_each (λ x. eqb (row_by (held_as x ms)) n) (names_in ops) (each_map (λ x. holds ms x ≡ true) (λ x. eqb (row_by (held_as x ms)) n ≡ false) (λ x u. by x (held_as x ms) refl u) (names_in ops) h)
    where
      by : (x : Name) (y : Held) → held_as x ms ≡ y → is_held y ≡ true → eqb (row_by y) n ≡ false
      by x (Held.is a) e u =
          let r = held-row x k.rows e in
          let z : a.number - 1 ≡ n → ⊥ = λ w. omega (arith, r.1, r.2) in
          ne_eqb (a.number - 1) n z
      by x Held.none e u = clash-of (sym u)

  whom-old : (i j : ℕ) (x : Motif) → InRow ms i x → j < suc n → mark (calls_in t i) j ≡ calls_row (m ∷ ms) x.ops j
  whom-old i j x r h = by (eqb j n) refl
    where
      by : (b : Bool) → eqb j n ≡ b → mark (calls_in t i) j ≡ calls_row (m ∷ ms) x.ops j
      by true b =
          let z : j ≡ n = eqb-true j n b in
          rw z ((done i (in_below k.rows r)).unmarked ∙ sym (not_last x.ops (named-held r)))
      by false b =
          let z : j < n = omega (arith, eqb-false j n b) in
          k.noted.whom i j x r z ∙ sym (calls_same m ms new x.ops j (named-held r))

  whom-new : (j : ℕ) → j < suc n → mark (calls_in t n) j ≡ calls_row (m ∷ ms) m.ops j
  whom-new j h =
      let l : j < 64 = let w = k.keeps.most in omega arith in
      ap (λ v. mark v j) k.whom ∙ k.makes.whom j l ∙ sym (calls_same m ms new m.ops j own_held)

  lacks-new : not (eqb (missing_in t n) 0) ≡ lacks_one (m ∷ ms) m.ops
  lacks-new = rw (k.lacks, none) (sym (held-lacks (m ∷ ms) m.ops (still-all m ms new (names_in m.ops) own_held)))

  lacks-old : (i : ℕ) (x : Motif) → InRow ms i x → not (eqb (missing_in t i) 0) ≡ lacks_one (m ∷ ms) x.ops
  lacks-old i x r =
      k.noted.lacks i x r ∙ held-lacks ms x.ops (named-held r) ∙ sym (held-lacks (m ∷ ms) x.ops (still-all m ms new (names_in x.ops) (named-held r)))

  pub noted-last : Noted t (suc n) (m ∷ ms)
  noted-last =
      record {
        whom = λ i j x r h. either r (λ o l. whom-old i j x o h) (λ e z. rw (e, ← z) (whom-new j h));
        lacks = λ i x r. either r (λ o l. lacks-old i x o) (λ e z. rw (e, ← z) lacks-new);
      }

  level-old : (i : ℕ) (x : Motif) → InRow ms i x → level_in t i ≡ level_of (m ∷ ms) 32 x.name
  level-old i x r = k.settled.level i x r ∙ sym (level-same m ms new closed 32 x.name (is-held r))

  pub levels_before : LevelsBut t (m ∷ ms) n
  levels_before = record { others = λ i x r d. either r (λ o l. level-old i x o) (λ e z. absurd (d e)) }

  pub last-in : InRow (m ∷ ms) n m
  last-in = record { held = held_first m ms; row = rows-number k.keeps.rows }

  pub calls-not_itself : calls_row (m ∷ ms) m.ops n ≡ false
  calls-not_itself = not_last m.ops own_held

  -- the table's summaries are those of what each held name unfolds to
  sums_up : SumsUp t ms (unfolded ms 32 [])
  unfolding SumsUp settled_row
  sums_up x = by (held_as x ms) refl
    where
      by : (y : Held) → held_as x ms ≡ y → SumFor t y (unfolded ms 32 [] x)
      by (Held.is a) e =
          let r = held_in x k.rows e in
          let o = (held-row x k.rows e).0 in
          let z : eqb (level_in t (a.number - 1)) 0 ≡ false = ne_eqb (level_in t (a.number - 1)) 0 (level-is (a.number - 1) a r) in
          rw (z, o) at (k.settled.summed (a.number - 1) a r)
      by Held.none e = none-unfolds ms 32 [] x e

  module _ (v : ℕ) (level : v ≡ level_of (m ∷ ms) 32 m.name) where
    last_sum : SumsAs (pick (eqb v 0) 48 made.sum) (settled_row (m ∷ ms) v m.name)
    unfolding settled_row
    last_sum = by (eqb v 0) refl
      where
        by : (b : Bool) → eqb v 0 ≡ b → SumsAs (pick b 48 made.sum) (pick b [] (unfolded (m ∷ ms) 32 [] m.name))
        by true b = empty-sums
        by false b =
            let z : level_of (m ∷ ms) 32 m.name ≡ 0 → ⊥ = λ w. eqb-false v 0 b (level ∙ w) in
            subst (SumsAs made.sum) (sym (own-unfolds m ms new closed z own_held)) (k.makes.summed (unfolded ms 32 []) sums_up m.number)

    abbrev after : List ℕ
    after = set (set t (n * 10 + 5) v) (n * 10 + 6) (pick (eqb v 0) 48 made.sum)

    other : (j : ℕ) → j ≢ n * 10 + 5 → j ≢ n * 10 + 6 → get_or after j 0 ≡ get_or t j 0
    other j p q = get_or-set_other (set t (n * 10 + 5) v) (n * 10 + 6) j (pick (eqb v 0) 48 made.sum) 0 q ∙ get_or-set_other t (n * 10 + 5) j v 0 p

    below : (i c : ℕ) → i < n → c < 10 → cell after i c ≡ cell t i c
    below i c h l = other (i * 10 + c) (λ y. omega arith) (λ y. omega arith)

    beside : (i c : ℕ) → c < 10 → 6 < c → cell after i c ≡ cell t i c
    beside i c h l = other (i * 10 + c) (λ y. omega arith) (λ y. omega arith)

    keeps-after : Keeps after (suc n) (m ∷ ms)
    keeps-after =
        let l : n < 64 = k.keeps.most in
        keeps-beside n 6 (pick (eqb v 0) 48 made.sum) l (omega arith) (omega arith) (keeps-beside n 5 v l (omega arith) (omega arith) k.keeps)

    size : n * 10 + 6 < length t
    size = let a = k.keeps.sized in let b = k.keeps.most in omega arith

    level-after : level_in after n ≡ v
    level-after =
        let p : n * 10 + 5 ≢ n * 10 + 6 = λ y. omega arith in
        let q : n * 10 + 5 < length t = let s = size in omega arith in
        get_or-set_other (set t (n * 10 + 5) v) (n * 10 + 6) (n * 10 + 5) (pick (eqb v 0) 48 made.sum) 0 p ∙ get_or-set_same t (n * 10 + 5) v 0 q

    sum-after : sum_in after n ≡ pick (eqb v 0) 48 made.sum
    sum-after =
        let p : n * 10 + 6 < length (set t (n * 10 + 5) v) = simp length-set size in
        get_or-set_same (set t (n * 10 + 5) v) (n * 10 + 6) (pick (eqb v 0) 48 made.sum) 0 p

    noted-after : Noted after (suc n) (m ∷ ms)
    noted-after =
        record {
          whom = λ i j x r h. ap (λ u. mark u j) (beside i 7 (omega arith) (omega arith)) ∙ noted-last.whom i j x r h;
          lacks = λ i x r. ap (λ u. not (eqb u 0)) (beside i 8 (omega arith) (omega arith)) ∙ noted-last.lacks i x r;
        }

    settled-old : (l : ℕ) (x : Name) → holds ms x ≡ true → settled_row (m ∷ ms) l x ≡ settled_row ms l x
    unfolding settled_row
    settled-old l x h = ap (λ u. pick (eqb l 0) [] u) (unfolds_same m ms new closed 32 [] x h)

    settled-after : Settled after (m ∷ ms) 32
    settled-after =
        record {
          level = λ i x r. either r (λ o l. below i 5 l (omega arith) ∙ level-old i x o) (λ e z. rw (e, ← z) (level-after ∙ level));
          summed = λ i x r. either r
              (λ o l. rw (below i 6 l (omega arith), below i 5 l (omega arith), settled-old (level_in t i) x.name (is-held o)) (k.settled.summed i x o))
              (λ e z. rw (e, ← z, sum-after, level-after) last_sum);
        }

    pub tables-last : Tables after (suc n) (m ∷ ms)
    tables-last = record { keeps = keeps-after; noted = noted-after; settled = settled-after }
