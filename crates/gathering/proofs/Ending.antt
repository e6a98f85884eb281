-- At EndStream the code's place keeps the definitions' place: nothing but a valid motif comes there, and it is held.
-- Assumes nothing.
use Rattle.std.specs.Prelude.{Ok}
use Prim.Native.Nat.{ℕ, ◌+◌, ◌≤◌}
use mathlib.Core.Path.{◌≡◌, refl, sym, ap, ◌∙◌}
use mathlib.Core.Bool.{Bool, true, false}
use mathlib.Core.List.{List}
use native.Mathlib.Omega.{arith}
use lib.ListN.{length, take, drop}
use borrow.Author.Tests.{eq-eqb, ne_eqb, eqb-true, eqb-false}
use Rattle.scope.specs.Setting.{Setting}
use Rattle.scope.specs.Order.{may_come}
use Rattle.scope.specs.Arm as scope_arm
use Rattle.scope.specs.Motif as scope_motif
use Rattle.scope.specs.Motif.{Own, Motif, held_as, Judged, valid, motif_of}
use Rattle.scope.specs.Session as scope
use Rattle.scope.specs.Session.{phase_of, phase_busy, kept_as, session_after, place_after}
use Rattle.scope.specs.Judge.{State, Case, case_of, judged_at}
use Rattle.reader.specs.Reads.{operator_as}
use Rattle.reader.specs.declared.reading.Operator.{Operator}
use Rattle.page.specs.declared.page.Page.{Page}
use Rattle.key.specs.Keys.{IsName}
use Rattle.motif.specs.Held.{Keeps}
use Rattle.motif.specs.Stored.{Stored, full}
use Rattle.motif.specs.declared.kept.Kept.{Kept}
use Rattle.pattern_rows.specs.Numbers.{OfSession, OfMotif, numbers_in, collected}
use Rattle.patterns.specs.Selects.{selects_in}
use Rattle.place.specs.Places.{Hatches, BusyHolds, resting_holds, reading_holds, PlaceHolds, inside_holds}
use Rattle.early.specs.Earlier.{Earlies, early_fine, early_call, early_held}
use Rattle.gathering.specs.Afterwards.{Comes, After}
use Rattle.within.specs.Judging.{Makes}
use Rattle.within.specs.declared.inside.Made.{Made}
use Rattle.early.specs.declared.early.Early.{Early}
use Rattle.early.specs.declared.early.Early.TheVariants.{Held}
use Rattle.place.specs.declared.place.Busy.TheVariants.{Resting, Reading}
use Rattle.place.specs.declared.place.Place.{Place}
use Rattle.place.specs.declared.place.Place.TheVariants.{Inside}
use Rattle.scope.proofs.Replaces.{kept-replaced}
use Rattle.gathering.specs.Selected.{OwnKept}
use Rattle.gathering.proofs.Selecting.{selects-kept}
use Rattle.gathering.proofs.Storing.{held-room}
use Rattle.early.proofs.Tags.{stream_ends}

module _ (job attrs : List ℕ) (by : Setting) (o : Operator) (work t p : List ℕ) (nr : o.tag ≡ 0x5c → ⊥) where
  -- the place after the operator, which leaves the page so
  abbrev next : scope_arm.Page → scope.Place → scope.Place
  next g q = place_after by job (operator_as o attrs) g q

  abbrev case_at : State → scope.Place → Case
  case_at st q = case_of by job st (scope.session_of q) (operator_as o attrs)

  end-tag_in : {k : Kept} {ms : List Motif} {a l j : ℕ} (i : Bool) (x : scope.Session) (y : scope.Busy) → x.busy ≡ y
      → BusyHolds job work p k ms (Reading a l j) y → may_come (phase_busy x.busy) i o.tag ≡ true → o.tag ≡ 0x5d
  unfolding phase_busy
  end-tag_in i x y e (reading_holds m n lj tj le room) may = stream_ends i o.tag (rw e at may) nr

  end-tag : {early : Early} {page : Page} {i : Bool} {k : Kept} {a l j : ℕ} {q : scope.Place} {st : State}
      → PlaceHolds by job work t p (Inside i k (Reading a l j)) q → Comes job attrs by o early page work t p (Inside i k (Reading a l j)) q st → o.tag ≡ 0x5d
  unfolding phase_of
  end-tag (inside_holds {x = x} e u s h y) z = end-tag_in x.opened x x.busy refl y z.may

  -- at EndStream nothing but a motif goes on
  other-not : {c : Case} {early : Early} → c.op.tag ≡ 0x5d → Earlies t p c (Ok early) → ((made : Made) → early ≡ Held made → ⊥) → ⊥
  other-not {c} e (early_fine a b u) n = eqb-false c.op.tag 0x5d b e
  other-not {c} e (early_call a b d u) n = let f = eqb-true c.op.tag 0x5e a in omega arith
  other-not {c} e (early_held {made = made} a b w y u) n = n made refl

  pub other-after : {early : Early} {page : Page} {i : Bool} {k : Kept} {a l j : ℕ} {work₁ t₁ p₁ : List ℕ} {r : Place}
      → ((made : Made) → early ≡ Held made → ⊥) → After job attrs by o early page work t p (Inside i k (Reading a l j)) work₁ t₁ p₁ r
  unfolding case_of
  other-after n = record { keeps = λ q st h. absurd (other-not (end-tag h.holds h) h.earlier n) }

  made_at : (x : scope.Session) (st : State) {name bytes : List ℕ} → x.busy ≡ scope.reading name bytes → o.tag ≡ 0x5d
      → (case_of by job st x (operator_as o attrs)).made ≡ motif_of by bytes
  unfolding case_of judged_at
  made_at x st e b = rw (eq-eqb o.tag 0x5d b, e)

  -- a valid motif is held: the work buffer, the table and what is kept are those with it, and its row of the patterns has what it selects
  module _ (made : Made) (name work₁ t₁ p₁ : List ℕ) (j : ℕ) (k r : Kept)
      (holds : (ms : List Motif) (ops : List Own) (bytes : List ℕ) → Stored by work t k ms → k.used + j ≤ 16384 → 16384 ≤ length work → j ≡ length bytes
      → take j (drop k.used work) ≡ bytes → IsName name → full ms name ≡ false → motif_of by bytes ≡ valid ops → Makes t ms made ops
      → Stored by work₁ t₁ r (kept_as name bytes (valid ops) ms))
      (own : (ms : List Motif) (m : Motif) → Keeps t₁ r.held ms → held_as name ms ≡ scope_motif.Held.is m → OwnKept p m.number p₁) where
    hold_in : {i : Bool} {bytes : List ℕ} (x : scope.Session) (g : scope_arm.Page) (m : Judged) → motif_of by bytes ≡ m → x.busy ≡ scope.reading name bytes
        → o.tag ≡ 0x5d → i ≡ x.opened → r.used ≤ 16384 → Stored by work₁ t₁ r (kept_as name bytes m x.held)
        → Hatches p₁ (kept_as name bytes m x.held) x.patterns
        → PlaceHolds by job work₁ t₁ p₁ (Inside i r Resting) (next g (scope.inside x))
    unfolding place_after session_after
    hold_in x g m em e b oi u s h =
        let nx : o.tag ≡ 0x42 → ⊥ = λ z. omega arith in
        rw (ne_eqb o.tag 0x42 nx, e, ne_eqb o.tag 0x5c nr, em) (inside_holds oi u s h resting_holds)

    -- what is known of the motif
    record Becomes (ms : List Motif) (bytes : List ℕ) : Type 0 where
      ops : List Own
      judged : motif_of by bytes ≡ valid ops
      stored : Stored by work₁ t₁ r (kept_as name bytes (valid ops) ms)
      selected : numbers_in p OfMotif ≡ collected (selects_in ops)

    held_in : {c : Case} (ms : List Motif) (bytes : List ℕ) → c.session.held ≡ ms → c.made ≡ motif_of by bytes → Earlies t p c (Ok (Held made))
        → Stored by work t k ms
        → k.used + j ≤ 16384 → 16384 ≤ length work → j ≡ length bytes → take j (drop k.used work) ≡ bytes → IsName name → full ms name ≡ false
        → Becomes ms bytes
    held_in ms bytes em ec (early_held {ops = ops} a b w y u) s le hw lj tj n f =
        let v : motif_of by bytes ≡ valid ops = sym ec ∙ b in
        record { ops = ops; judged = v; stored = holds ms ops bytes s le hw lj tj n f v (rw em at w); selected = y }

    hatches_in : {ms : List Motif} {bytes ns : List ℕ} (b : Becomes ms bytes) → Hatches p ms ns → Hatches p₁ (kept_as name bytes (valid b.ops) ms) ns
    hatches_in {ms} {bytes} b h =
        let w = (kept-replaced name bytes b.ops ms).held in
        let y = own (kept_as name bytes (valid b.ops) ms) w.0 b.stored.tables.keeps w.1 in
        record {
          selects = selects-kept name bytes b.ops ms b.judged b.stored w.0 w.1 y b.selected h.selects;
          session = y.others.same OfSession (omega arith) (λ x. omega (arith, x, y.below)) ∙ h.session;
          few = h.few;
        }

    hold_of : {page : Page} {i : Bool} {a l : ℕ} (x : scope.Session) (st : State) (y : scope.Busy) → x.busy ≡ y → take l (drop a job) ≡ name → i ≡ x.opened
        → Stored by work t k x.held → Hatches p x.held x.patterns → BusyHolds job work p k x.held (Reading a l j) y → o.tag ≡ 0x5d
        → Comes job attrs by o (Held made) page work t p (Inside i k (Reading a l j)) (scope.inside x) st
        → PlaceHolds by job work₁ t₁ p₁ (Inside i r Resting) (next (case_at st (scope.inside x)).seen.page (scope.inside x))
    unfolding case_of
    hold_of x st y e en oi s hs (reading_holds {name = named} {joined = bytes} m n lj tj le room) b z =
        let g : named ≡ name = sym m.same ∙ en in
        let e₂ : x.busy ≡ scope.reading name bytes = e ∙ ap (λ (c : List ℕ). scope.reading c bytes) g in
        let h : Becomes x.held bytes = held_in x.held bytes refl (made_at x st e b) z.earlier s le z.room lj tj (rw g at n) (rw g at room) in
        let w = h.stored.used in
        let v = held-room name bytes h.ops x.held in
        let q = s.used in
        let u : r.used ≤ 16384 = omega (arith, w, v, q, lj, le) in
        hold_in x _ (valid h.ops) h.judged e₂ b oi u h.stored (hatches_in h hs)

    hold_keeps : {page : Page} {i : Bool} {a l : ℕ} (q : scope.Place) (st : State) → take l (drop a job) ≡ name
        → PlaceHolds by job work t p (Inside i k (Reading a l j)) q
        → Comes job attrs by o (Held made) page work t p (Inside i k (Reading a l j)) q st
        → PlaceHolds by job work₁ t₁ p₁ (Inside i r Resting) (next (case_at st q).seen.page q)
    hold_keeps q st en (inside_holds {x = x} e u s h y) z = hold_of x st x.busy refl en e s h y (end-tag z.holds z) z

    pub hold_after : {page : Page} {i : Bool} {a l : ℕ} → take l (drop a job) ≡ name
        → After job attrs by o (Held made) page work t p (Inside i k (Reading a l j)) work₁ t₁ p₁ (Inside i r Resting)
    hold_after en = record { keeps = λ q st h. hold_keeps q st en h.holds h }
