-- After an operator at rest or in a page, and after BeginSession, the code's place keeps the definitions' place.
-- Assumes nothing.
use Prim.Native.Nat.{ℕ, ◌≤◌}
use mathlib.Core.Path.{◌≡◌, refl, ap, ◌∙◌}
use mathlib.Core.Bool.{Bool, true, false}
use mathlib.Core.List.{List, []}
use native.Mathlib.Omega.{arith}
use lib.ListN.{length}
use lib.Dec.{eqb}
use borrow.Author.Tests.{eq-eqb, ne_eqb, eqb-true}
use Rattle.items.specs.Rows.{rows_of}
use Rattle.scope.specs.Choice.{pick}
use Rattle.scope.specs.Setting.{Setting}
use Rattle.scope.specs.Order.{rows_fit, image_of}
use Rattle.scope.specs.Arm as scope_arm
use Rattle.scope.specs.Motif as scope_motif
use Rattle.scope.specs.Motif.{Motif, hatch_of, picture_after}
use Rattle.scope.specs.Session as scope
use Rattle.scope.specs.Session.{phase_of, phase_busy, phase_drawing, defined_after, session_after, place_after}
use Rattle.scope.specs.Judge.{State, Case, case_of}
use Rattle.reader.specs.Reads.{operator_as}
use Rattle.reader.specs.declared.reading.Operator.{Operator}
use Rattle.page.specs.declared.page.Page.{Page}
use Rattle.motif.specs.Stored.{Stored}
use Rattle.motif.specs.declared.kept.Kept.{Kept}
use Rattle.order.specs.Pictures.{picture_as, picture_for, image_in}
use Rattle.order.specs.declared.picture.Picture.{Picture}
use Rattle.order.proofs.Pictures.{picture-is}
use Rattle.place.specs.Places.{drawn_so, Beside, Hatches, HasPlace, BusyHolds, resting_holds, drawing_holds}
use Rattle.place.specs.Places.{PlaceHolds, outside_holds, inside_holds}
use Rattle.pattern_rows.specs.Numbers.{OfPage, OfSession, numbers_in}
use Rattle.place.proofs.Hatched.{quiet-beside, selects-beside}
use Rattle.after.specs.Hatching.{Defines}
use Rattle.gathering.specs.Afterwards.{Comes, After}
use Rattle.after.specs.Begins.{opened_after, resting_after, Begins, Draws}
use Rattle.early.specs.declared.early.Early.{Early}
use Rattle.place.specs.declared.place.Busy.{Busy}
use Rattle.place.specs.declared.place.Busy.TheVariants.{Resting, Drawing}
use Rattle.place.specs.declared.place.Place.{Place}
use Rattle.place.specs.declared.place.Place.TheVariants.{Outside, Inside}
use Rattle.after.proofs.Defining.{defined-other, few-after, begin-place, not_full, place_after_lem}
use Rattle.after.proofs.Storing.{stored-none, selects-none}
use Rattle.early.proofs.Breaking.{begin-room}
use Rattle.early.proofs.Full.{passes-unbroken}
use Rattle.early.proofs.Tags.{page-not, page-not_over, image-not_over, pattern-not_over}

module _ (job attrs : List ℕ) (by : Setting) (o : Operator) (work t p : List ℕ) where
  -- the place after the operator, which leaves the page so
  abbrev next : scope_arm.Page → scope.Place → scope.Place
  next p q = place_after by job (operator_as o attrs) p q

  abbrev case_at : State → scope.Place → Case
  case_at st q = case_of by job st (scope.session_of q) (operator_as o attrs)

  -- BeginSession: no motif is held, so no row has to be right
  module _ (p₁ : List ℕ) (none : numbers_in p₁ OfSession ≡ []) (beside : Beside p p₁) where
    outside-keeps : {b : Bool} {q : scope.Place} (g : scope_arm.Page) → length t ≡ 704 → PlaceHolds by job work t p (Outside b) q
        → PlaceHolds by job work t p₁ (Inside false (record { held = 0; used = 0 }) Resting) (next g q)
    unfolding place_after
    outside-keeps g l (outside_holds z) =
        let k : 0 ≤ 16384 = omega arith in
        let f : 0 ≤ 32 = omega arith in
        inside_holds refl k (stored-none by work t l) (record { selects = selects-none (quiet-beside beside z); session = none; few = f }) resting_holds

    pub outside-after : {early : Early} {page : Page} {b : Bool}
        → After job attrs by o early page work t p (Outside b) work t p₁ (Inside false (record { held = 0; used = 0 }) Resting)
    outside-after = record { keeps = λ q st h. outside-keeps _ h.table_long h.holds }

  -- EndSession
  rest_over : {i : Bool} {k : Kept} {b : Busy} {q : scope.Place} (g : scope_arm.Page) → o.tag ≡ 0x42 → PlaceHolds by job work t p (Inside i k b) q
      → PlaceHolds by job work t p (Outside true) (next g q)
  unfolding place_after
  rest_over g e (inside_holds a u s h y) = rw (eq-eqb o.tag 0x42 e) (outside_holds h.selects.quiet)

  pub over-after : {early : Early} {page : Page} {i : Bool} {k : Kept} {b : Busy} → o.tag ≡ 0x42
      → After job attrs by o early page work t p (Inside i k b) work t p (Outside true)
  over-after e = record { keeps = λ q st h. rest_over _ e h.holds }

  -- at rest
  module _ (i : Bool) (r : Busy) (p₁ : List ℕ) (nx : o.tag ≡ 0x42 → ⊥) (beside : Beside p p₁) (same : numbers_in p₁ OfSession ≡ numbers_in p OfSession) where
    rest_in : {k : Kept} (x : scope.Session) (y : scope.Busy) (g : scope_arm.Page) → x.busy ≡ y → i ≡ opened_after o.tag x.opened
        → k.used ≤ 16384 → Stored by work t k x.held → Hatches p₁ x.held x.patterns → BusyHolds job work p k x.held Resting y
        → BusyHolds job work p₁ k x.held r (resting_after by.gray job o.tag (rows_of attrs o.count))
        → PlaceHolds by job work t p₁ (Inside i k r) (next g (scope.inside x))
    unfolding place_after session_after opened_after resting_after
    rest_in x y g e oi u s h resting_holds f = rw (ne_eqb o.tag 0x42 nx, e) (inside_holds oi u s h f)

    rest-keeps : {early : Early} {page : Page} {opened : Bool} {k : Kept} {q : scope.Place} {st : State} → i ≡ opened_after o.tag opened
        → Begins job attrs by.gray o p₁ r
        → PlaceHolds by job work t p (Inside opened k Resting) q → Comes job attrs by o early page work t p (Inside opened k Resting) q st
        → PlaceHolds by job work t p₁ (Inside i k r) (next (case_at st q).seen.page q)
    rest-keeps {k = k} {st = st} oi f (inside_holds {x = x} e u s h y) z =
        let room = (passes-unbroken z.earlier).room in
        let w : Hatches p₁ x.held x.patterns = record { selects = selects-beside beside s h.selects; session = same ∙ h.session; few = h.few } in
        rest_in x x.busy _ refl (oi ∙ ap (opened_after o.tag) e) u s w y
        (f work k x.held z.sized u (λ b. (z.short b, begin-room by t p job attrs x o b st room)))

    pub rest_after : {early : Early} {page : Page} {opened : Bool} {k : Kept} → i ≡ opened_after o.tag opened
        → Begins job attrs by.gray o p₁ r
        → After job attrs by o early page work t p (Inside opened k Resting) work t p₁ (Inside i k r)
    rest_after oi f = record { keeps = λ q st h. rest-keeps oi f h.holds h }

  -- in a page
  image-is : (q : scope_arm.Page) (v : scope_motif.Picture) → image_of (phase_drawing q v) ≡ image_in v
  unfolding phase_drawing
  image-is q scope_motif.Picture.none = refl
  image-is q (scope_motif.Picture.being i) = refl
  image-is q (scope_motif.Picture.hatching h i) = refl

  -- EndPage defines no pattern for the session
  pick-busy : {r : Place} {u : List ℕ} (b : Bool) (ms : List Motif) (i : Bool) (ns ns₁ : List ℕ) (x y : scope.Busy) → (b ≡ true → ns₁ ≡ ns)
      → PlaceHolds by job work t u r (scope.inside (record { held = ms; opened = i; patterns = ns₁; busy = pick b x y }))
      → PlaceHolds by job work t u r
      (scope.inside (pick b (record { held = ms; opened = i; patterns = ns; busy = x }) (record { held = ms; opened = i; patterns = ns₁; busy = y })))
  pick-busy true ms i ns ns₁ x y e h = rw (e refl) at h
  pick-busy false ms i ns ns₁ x y e h = h

  module _ (r : Busy) (p₁ : List ℕ) where
    draw_in : {i : Bool} {k : Kept} (x : scope.Session) (q g : scope_arm.Page) (ns : List ℕ) (v : scope_motif.Picture) → x.busy ≡ scope.drawing q ns v
        → (o.tag ≡ 0x42 → ⊥) → i ≡ x.opened → k.used ≤ 16384 → Stored by work t k x.held
        → Hatches p₁ x.held (defined_after true o.tag v x.patterns)
        → BusyHolds job work p₁ k x.held r
        (pick (eqb o.tag 0x44) scope.resting
        (scope.drawing g (defined_after false o.tag v ns) (picture_for by.high job o.tag (rows_of attrs o.count) v)))
        → PlaceHolds by job work t p₁ (Inside i k r) (next g (scope.inside x))
    unfolding place_after session_after
    draw_in x q g ns v e nx oi u s h f =
        rw (ne_eqb o.tag 0x42 nx, e)
        (pick-busy (eqb o.tag 0x44) x.held x.opened x.patterns (defined_after true o.tag v x.patterns) scope.resting
        (scope.drawing g (defined_after false o.tag v ns) (picture_after by.high job (operator_as o attrs) v))
        (λ b. defined-other true o.tag v x.patterns (λ c. omega (arith, c, eqb-true o.tag 0x44 b)))
        (inside_holds oi u s h (rw (picture-is by.high job (operator_as o attrs) v) at f)))

    draw_of : {early : Early} {page d : Page} {picture : Picture} {i : Bool} {k : Kept} (x : scope.Session) (st : State) (y : scope.Busy) → x.busy ≡ y
        → Draws job attrs by.high o page picture r → Defines p o.tag (picture_as picture) p₁
        → i ≡ x.opened → k.used ≤ 16384 → Stored by work t k x.held → Hatches p x.held x.patterns
        → BusyHolds job work p k x.held (Drawing d picture) y
        → Comes job attrs by o early page work t p (Inside i k (Drawing d picture)) (scope.inside x) st
        → PlaceHolds by job work t p₁ (Inside i k r) (next (case_at st (scope.inside x)).seen.page (scope.inside x))
    unfolding phase_of phase_busy
    draw_of {k = k} x st y e f d oi u s h (drawing_holds {q = q} {ns = ns} {i = picture} {v = v} g pv n few place) z =
        let nx : o.tag ≡ 0x42 → ⊥ =
        page-not x.opened x.busy (rw e drawn_so) o.tag 0x42 (page-not_over x.opened) (image-not_over x.opened) (pattern-not_over x.opened)
        z.may in
        let fit : rows_fit by.high job (image_in (picture_as picture)) o.tag (rows_of attrs o.count) ≡ true =
        rw (pv, ← image-is q v) (rw e at z.fits) in
        let unbroken = passes-unbroken z.earlier in
        let at-page : numbers_in p₁ OfPage ≡ defined_after false o.tag v ns = rw (pv, n) at (d.page (rw n few)) in
        let at-session : numbers_in p₁ OfSession ≡ defined_after true o.tag v x.patterns = rw (pv, h.session) at (d.session (rw h.session h.few)) in
        let was : HasPlace ns x.patterns v = rw h.session at place in
        let few₁ = few-after few h.few o.tag was in
        let is = place_after_lem by.high job o.tag (rows_of attrs o.count) v was
        (λ b. begin-place few h.few x (hatch_of by.high job (rows_of attrs o.count)) refl (ap scope.page_patterns e)
        (not_full by job attrs x o st unbroken.place b)) in
        let hatches : Hatches p₁ x.held (defined_after true o.tag v x.patterns) =
        record { selects = selects-beside d.beside s h.selects; session = at-session; few = few₁.1 } in
        draw_in x q _ ns v e nx oi u s hatches
        (rw (pv, at-page) at (f work p₁ k x.held _ z.sized z.drawn fit (rw at-page few₁.0) (rw (pv, at-page, at-session) is)))

    draw_keeps : {early : Early} {page d : Page} {picture : Picture} {i : Bool} {k : Kept} (q : scope.Place) (st : State)
        → Draws job attrs by.high o page picture r → Defines p o.tag (picture_as picture) p₁
        → PlaceHolds by job work t p (Inside i k (Drawing d picture)) q
        → Comes job attrs by o early page work t p (Inside i k (Drawing d picture)) q st
        → PlaceHolds by job work t p₁ (Inside i k r) (next (case_at st q).seen.page q)
    draw_keeps q st f d (inside_holds {x = x} e u s h y) z = draw_of x st x.busy refl f d e u s h y z

    pub draw_after : {early : Early} {page d : Page} {picture : Picture} {i : Bool} {k : Kept}
        → Draws job attrs by.high o page picture r → Defines p o.tag (picture_as picture) p₁
        → After job attrs by o early page work t p (Inside i k (Drawing d picture)) work t p₁ (Inside i k r)
    draw_after f d = record { keeps = λ q st h. draw_keeps q st f d h.holds h }
