-- A place is kept where of the patterns only the row of the motif that is being judged changes, and what is known of calls: no motif has that row, nor page nor
-- session.
-- Assumes nothing.
use Prim.Native.Nat.{ℕ, ◌≤◌, ◌<◌}
use mathlib.Core.Path.{◌≡◌, refl, sym, ◌∙◌}
use mathlib.Core.Bool.{Bool, false}
use mathlib.Core.List.{List}
use native.Mathlib.Omega.{arith}
use Rattle.scope.specs.Setting.{Setting}
use Rattle.scope.specs.Motif.{Motif}
use Rattle.scope.specs.Session as scope
use Rattle.motif.specs.Held.{InRow}
use Rattle.motif.specs.Stored.{Stored}
use Rattle.motif.specs.declared.kept.Kept.{Kept}
use Rattle.motif.proofs.Rowed.{in_below}
use Rattle.pattern_rows.specs.Numbers.{OfMotif, OfPage, OfSession, numbers_in, selecting_in, Others, OtherRows, Unknown, Quiet}
use Rattle.patterns.specs.Selects.{missing_of, Selects}
use Rattle.place.specs.Places.{Beside, Hatches, BusyHolds, resting_holds, reading_holds, drawing_holds, PlaceHolds, inside_holds}
use Rattle.place.specs.declared.place.Busy.{Busy}
use Rattle.place.specs.declared.place.Place.TheVariants.{Inside}

pub beside_same : {p : List ℕ} → Beside p p
beside_same = record { long = refl; rows = λ r h. refl; selecting = refl; known = λ i l k. k; still = λ i l k ns e. e }

module _ {p p₁ : List ℕ} where
  -- a row behind those of the motifs may change, if nothing is missing then that was defined
  pub beside-of : {row : ℕ} → Others p row p₁ → 64 ≤ row → selecting_in p₁ ≡ selecting_in p
      → ((ns : List ℕ) → missing_of p ns ≡ false → missing_of p₁ ns ≡ false) → Beside p p₁
  beside-of o l e f =
      record {
        long = o.long;
        rows = λ r h. o.same r (λ x. omega (arith, x, h, l));
        selecting = e;
        known = λ i h k z. k (o.known i ∙ z);
        still = λ i h k. f;
      }

  -- the row of the motif that is being judged
  pub beside-own : Others p OfMotif p₁ → selecting_in p₁ ≡ selecting_in p → Beside p p₁
  beside-own o e = beside-of o (omega arith) e (λ ns z. rw (o.same OfPage (λ x. omega (arith, x)), o.same OfSession (λ x. omega (arith, x))) z)

  -- or any of them, where nothing is known of calls any more
  pub beside-unknown : {row : ℕ} → OtherRows p row p₁ → 64 ≤ row → selecting_in p₁ ≡ selecting_in p → Unknown p₁ → Beside p p₁
  beside-unknown o l e u =
      record {
        long = o.long;
        rows = λ r h. o.same r (omega arith) (λ x. omega (arith, x, h, l));
        selecting = e;
        known = λ i h k. absurd (k (u.none i h));
        still = λ i h k. absurd (k (u.none i h));
      }

  pub quiet-beside : Beside p p₁ → Quiet p → Quiet p₁
  quiet-beside b q = record { none = λ z r l. b.rows r l ∙ q.none (sym b.selecting ∙ z) r l }

  pub selects-beside : {set : Setting} {work t : List ℕ} {kept : Kept} {ms : List Motif} → Beside p p₁
      → Stored set work t kept ms → Selects p ms → Selects p₁ ms
  selects-beside {ms = ms} b s h =
      record {
        at = λ i m r. b.rows i (below i m r) ∙ h.at i m r;
        quiet = quiet-beside b h.quiet;
        known = λ i m r k. b.still i (below i m r) k _ (h.known i m r (b.known i (below i m r) k));
      }
    where
      below : (i : ℕ) (m : Motif) → InRow ms i m → i < 64
      below i m r = omega (arith, in_below s.tables.keeps.rows r, s.tables.keeps.most)

module _ {p p₁ : List ℕ} (o : OtherRows p OfMotif p₁) where
  at-page : numbers_in p₁ OfPage ≡ numbers_in p OfPage
  at-page = o.same OfPage (omega arith) (λ x. omega (arith, x))

  at-session : numbers_in p₁ OfSession ≡ numbers_in p OfSession
  at-session = o.same OfSession (omega arith) (λ x. omega (arith, x))

  busy-kept : {job work : List ℕ} {kept : Kept} {ms : List Motif} {b : Busy} {x : scope.Busy} → BusyHolds job work p kept ms b x
      → BusyHolds job work p₁ kept ms b x
  busy-kept resting_holds = resting_holds
  busy-kept (reading_holds a b c d e f) = reading_holds a b c d e f
  busy-kept (drawing_holds a b n f z) = drawing_holds a b (at-page ∙ n) f (rw at-session z)

  pub place_kept : {set : Setting} {job work t : List ℕ} {opened : Bool} {kept : Kept} {b : Busy} {q : scope.Place}
      → ((x : scope.Session) → Stored set work t kept x.held → Hatches p x.held x.patterns → BusyHolds job work p kept x.held b x.busy
      → Selects p₁ x.held)
      → PlaceHolds set job work t p (Inside opened kept b) q → PlaceHolds set job work t p₁ (Inside opened kept b) q
  place_kept f (inside_holds {x = x} a l s h b) =
      inside_holds a l s (record { selects = f x s h b; session = at-session ∙ h.session; few = h.few }) (busy-kept b)
