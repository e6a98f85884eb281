-- A motif is known only inside the session that defined it.
-- Assumes nothing.
use Prim.Native.Nat.{ℕ, zero, suc, ◌+◌}
use mathlib.Core.Path.{◌≡◌, refl, sym, ap, ◌∙◌, subst, subst⁻¹}
use mathlib.Core.Bool.{Bool, true, false, ◌||◌}
use mathlib.Core.List.{List, [], ◌∷◌, ◌++◌}
use native.Mathlib.Omega.{arith}
use borrow.Author.Tests.{eqb-true, ne_eqb}
use lib.ListN.{length, take, drop}
use lib.Dec.{eqb}
use Rattle.scope.specs.Choice.{pick, among}
use Rattle.scope.specs.Header.{Header, header_of}
use Rattle.scope.specs.Attributes.{bytes_in}
use Rattle.scope.specs.Order.{may_come, drawn}
use Rattle.scope.specs.Reading.{Operator}
use Rattle.scope.specs.Arm.{Page, Stroke, idle}
use Rattle.scope.specs.Motif.{Own, Motif, Held, held_as, Picture, Judged, motif_of}
use Rattle.scope.specs.Calls.{flat, is_one, call_by, call_of, through, unfolded, Met, nothing, met_in, met_by, met}
use Rattle.scope.specs.Setting.{Setting}
use Rattle.scope.specs.Session.{Busy, resting, reading, drawing, Session, Place, outside, inside, kept_as, session_of, joined_of, row_for, phase_of, phase_busy, phase_drawing, session_after, place_after}
use Rattle.scope.specs.Judge.{State, judged_at, met_at, case_of, after, judged_from, starting}
use Rattle.scope.specs.Verdict.{every, judged_after, Entry, entry_of, outcome_at, outcome_of}
use Rattle.scope.specs.Runs.{case_at, next, Performs, Runs, here, then}
use Rattle.scope.specs.Claims.{of_session, Collects, Defines, AllDefined, Among, Drawn, AllDrawn, OwnMotifs, OwnStrokes, OwnCalls}
use Rattle.scope.proofs.Ends.{pick_all}
use Rattle.scope.proofs.Apart.{clash-of, differs}
use Rattle.scope.proofs.Runs.{performs-may, runs_of, ends-state}
use Rattle.scope.proofs.Codes.{Valid, Laid, laid, none-layout}
use Rattle.scope.proofs.Defined.{known-later, found-own, kept-defined}

module _ (s : List ℕ) where
  -- what is at hand in a session: a motif that is being read has been collected
  abbrev Collected : List Operator → Busy → Type 0
  Collected since resting = Unit {0}
  Collected since (reading n j) = Collects s n j since
  Collected since (drawing p ns i) = Unit {0}

  -- every call among some operators names a motif defined in its own session
  pub data Owned : List Operator → Type 0 where
    none : Owned []
    more : {o : Operator} {os : List Operator} → (o.tag ≡ 0x5e → (bytes : List ℕ) × Defines s (bytes_in s o.attrs 139) bytes (of_session os)) → Owned os
        → Owned (o ∷ os)

  owned_at : (later before : List Operator) (o : Operator) → Owned (later ++ (o ∷ before)) → o.tag ≡ 0x5e
      → (bytes : List ℕ) × Defines s (bytes_in s o.attrs 139) bytes (of_session before)
  owned_at [] before o (Owned.more h k) e = h e
  owned_at (x ∷ later) before o (Owned.more h k) e = owned_at later before o k e

  pub record Fine (set : Setting) (st : State) : Type 0 where
    pub known : AllDefined set s (of_session st.past) (session_of st.place).held
    pub collected : Collected (of_session st.past) (session_of st.place).busy
    pub owned : Owned st.past

  starts-fine : (set : Setting) (at : ℕ) → Fine set (starting at)
  starts-fine set at = record { known = AllDefined.none; collected = tt; owned = Owned.none }

  -- the operators since, behind one that is no BeginSession
  since-more : (o : Operator) (os : List Operator) → eqb o.tag 0x41 ≡ false → of_session (o ∷ os) ≡ o ∷ of_session os
  unfolding of_session
  since-more o os e = λ i. elim (e i) as (λ _. List Operator) [ true ↦ [] | false ↦ o ∷ of_session os ]

  module _ (set : Setting) (o : Operator) (p : Page) (past : List Operator) where
    abbrev since : List Operator
    since = of_session past

    record After (x : Session) : Type 0 where
      known : AllDefined set s (o ∷ since) x.held
      collected : Collected (o ∷ since) x.busy

    module _ (quiet : eqb o.tag 0x5d ≡ false) where
      rest_after : (x : Session) → AllDefined set s since x.held → After (session_after set s o p resting x)
      unfolding session_after
      rest_after x k = record { known = known-later s o quiet k; collected = by (eqb o.tag 0x43) (eqb o.tag 0x5b) refl }
        where
          by : (a b : Bool) → eqb o.tag 0x5b ≡ b
              → Collected (o ∷ since) (pick a (drawing (record { cursor = false; gray = set.gray; saved = [] }) [] Picture.none) (pick b (reading (bytes_in s o.attrs 139) []) resting))
          by true b e = tt
          by false true e = Collects.begins (eqb-true o.tag 0x5b e) refl
          by false false e = tt

      draw_after : (q : Page) (ns : List ℕ) (i : Picture) (x : Session) → AllDefined set s since x.held → After (session_after set s o p (drawing q ns i) x)
      unfolding session_after
      draw_after q ns i x k =
          pick_all After (eqb o.tag 0x44) (λ _. record { known = known-later s o quiet k; collected = tt }) (λ _. record { known = known-later s o quiet k; collected = tt })

    kept-after : (n j : List ℕ) (held : List Motif) → o.tag ≡ 0x5d → AllDefined set s since held → Collects s n j since → (w : Judged) → motif_of set j ≡ w → Valid w
        → AllDefined set s (o ∷ since) (kept_as n j w held)
    kept-after n j held e k c (Judged.faulty code inner) f h = elim h [ ]
    kept-after n j held e k c (Judged.valid ops) f h = kept-defined set s o since n j ops e c f k

    read-after : (n j : List ℕ) (x : Session) → (eqb o.tag 0x5c || eqb o.tag 0x5d) ≡ true → Valid (judged_at set j o.tag) → AllDefined set s since x.held
        → Collects s n j since → After (session_after set s o p (reading n j) x)
    unfolding session_after judged_at
    read-after n j x m v k c = by (eqb o.tag 0x5c) (eqb o.tag 0x5d) refl refl m v
      where
        by : (a b : Bool) → eqb o.tag 0x5c ≡ a → eqb o.tag 0x5d ≡ b → (a || b) ≡ true → Valid (pick b (motif_of set j) (Judged.valid []))
            → After (pick a (record { held = x.held; opened = x.opened; patterns = x.patterns; busy = reading n (j ++ take o.length (drop o.first s)) })
            (record { held = kept_as n j (motif_of set j) x.held; opened = x.opened; patterns = x.patterns; busy = resting }))
        by true b e f g h =
            let t = eqb-true o.tag 0x5c e in
            record { known = known-later s o (ne_eqb o.tag 0x5d (λ z. omega arith)) k; collected = Collects.reads t c }
        by false true e f g h = record { known = kept-after n j x.held (eqb-true o.tag 0x5d f) k c (motif_of set j) refl h; collected = tt }
        by false false e f g h = clash-of (sym g)

    session-after : (b : Busy) (x : Session) → may_come (phase_busy b) x.opened o.tag ≡ true → Valid (judged_at set (joined_of b) o.tag)
        → AllDefined set s since x.held → Collected since b → After (session_after set s o p b x)
    unfolding phase_busy phase_drawing may_come among drawn
    session-after resting x m v k c = rest_after (no_end x.opened m) x k
      where
        no_end : (b : Bool) → may_come (phase_busy resting) b o.tag ≡ true → eqb o.tag 0x5d ≡ false
        no_end true h = differs (may_come (phase_busy resting) true) o.tag 0x5d h refl
        no_end false h = differs (may_come (phase_busy resting) false) o.tag 0x5d h refl
    session-after (reading n j) x m v k c = read-after n j x m v k c
    session-after (drawing q ns Picture.none) x m v k c =
        draw_after (differs (may_come (phase_busy (drawing q ns Picture.none)) x.opened) o.tag 0x5d m refl) q ns Picture.none x k
    session-after (drawing q ns (Picture.being i)) x m v k c =
        draw_after (differs (may_come (phase_busy (drawing q ns (Picture.being i))) x.opened) o.tag 0x5d m refl) q ns (Picture.being i) x k
    session-after (drawing q ns (Picture.hatching h i)) x m v k c =
        draw_after (differs (may_come (phase_busy (drawing q ns (Picture.hatching h i))) x.opened) o.tag 0x5d m refl) q ns (Picture.hatching h i) x k

    -- inside a session no BeginSession may come
    pub no-begin : (b : Busy) (opened : Bool) → may_come (phase_busy b) opened o.tag ≡ true → eqb o.tag 0x41 ≡ false
    unfolding phase_busy phase_drawing may_come among drawn
    no-begin resting true m = differs (may_come (phase_busy resting) true) o.tag 0x41 m refl
    no-begin resting false m = differs (may_come (phase_busy resting) false) o.tag 0x41 m refl
    no-begin (reading n j) opened m = differs (may_come (phase_busy (reading n j)) opened) o.tag 0x41 m refl
    no-begin (drawing q ns Picture.none) opened m = differs (may_come (phase_busy (drawing q ns Picture.none)) opened) o.tag 0x41 m refl
    no-begin (drawing q ns (Picture.being i)) opened m = differs (may_come (phase_busy (drawing q ns (Picture.being i))) opened) o.tag 0x41 m refl
    no-begin (drawing q ns (Picture.hatching h i)) opened m = differs (may_come (phase_busy (drawing q ns (Picture.hatching h i))) opened) o.tag 0x41 m refl

    abbrev Stays : Place → Type 0
    Stays w = AllDefined set s (of_session (o ∷ past)) (session_of w).held × Collected (of_session (o ∷ past)) (session_of w).busy

    place-stays : (w : Place) → may_come (phase_of w) (session_of w).opened o.tag ≡ true → Valid (judged_at set (joined_of (session_of w).busy) o.tag)
        → AllDefined set s since (session_of w).held → Collected since (session_of w).busy → Stays (place_after set s o p w)
    unfolding place_after phase_of
    place-stays (outside b) m v k c = (AllDefined.none, tt)
    place-stays (inside x) m v k c =
        pick_all Stays (eqb o.tag 0x42) (λ _. (AllDefined.none, tt))
        (λ _. let h = session-after x.busy x m v k c in
        let e = since-more o past (no-begin x.busy x.opened m) in
        (subst⁻¹ (λ z. AllDefined set s z (session_after set s o p x.busy x).held) e h.known, subst⁻¹ (λ z. Collected z (session_after set s o p x.busy x).busy) e h.collected))

  -- what a call meets
  called_at : (held : List Motif) (n : List ℕ) (tag : ℕ) → tag ≡ 0x5e → met_at held n tag ≡ met held 32 [] n
  unfolding met_at
  called_at held n tag e = rw e refl

  -- a call that meets nothing finds its motif
  call-found : (held : List Motif) (n : List ℕ) → met held 32 [] n ≡ nothing → (m : Motif) × (held_as n held ≡ Held.is m)
  unfolding met call_of call_by met_by is_one
  call-found held n e = by (held_as n held) refl e
    where
      by : (x : Held) → held_as n held ≡ x → met_by (λ m. met_in (met held 31 (n ∷ [])) m.ops) (call_by false x) ≡ nothing → (m : Motif) × (held_as n held ≡ Held.is m)
      by (Held.is m) f g = (m, f)
      by Held.none f g = clash-of (ap (λ (m : Met). m.missing) g)

  module _ (set : Setting) (room : ℕ) where
    performs-fine : (st : State) (o : Operator) → Performs every set s room st o → Fine set st → Fine set (next set s st o)
    unfolding after case_of
    performs-fine st o p f =
        let m = performs-may every set s room p in
        let k = place-stays set o (case_at set s st o).seen.page st.past st.place m good.made f.known f.collected in
        record { known = k.0; collected = k.1; owned = Owned.more own f.owned }
      where
        good : Laid (case_at set s st o)
        good = laid (case_at set s st o) (none-layout room (case_at set s st o) p.kept)

        own : o.tag ≡ 0x5e → (bytes : List ℕ) × Defines s (bytes_in s o.attrs 139) bytes (of_session st.past)
        own e =
            let held = (session_of st.place).held in
            let name = bytes_in s o.attrs 139 in
            let h = call-found held name (sym (called_at held name o.tag e) ∙ good.met) in
            let d = found-own s name f.known h.0 h.1 in
            (h.0.bytes, subst (λ n. Defines s n h.0.bytes (of_session st.past)) d.1 d.0)

    pub runs-fine : {a b : State} {os : List Operator} → Runs every set s room a os b → Fine set a → Fine set b
    runs-fine here f = f
    runs-fine (then {a = a} {o = o} p r) f = runs-fine r (performs-fine a o p f)

pub own-motifs : OwnMotifs
own-motifs set job room next os st r = (runs-fine job set room r (starts-fine job set next)).known

judged-owned : (set : Setting) (job : List ℕ) (room next : ℕ) → Owned job (judged_from every set job room (starting next)).state.past
judged-owned set job room next =
    let c = runs_of every set job room (starting next) in
    subst⁻¹ (λ z. Owned job z.past) (ends-state every set job room c.ends) (runs-fine job set room c.runs (starts-fine job set next)).owned

header-owned : (gray : Bool) (job : List ℕ) (room : ℕ) (h : Header) → Owned job (judged_after gray every job room h).state.past
unfolding judged_after
header-owned gray job room (Header.is class high next) = judged-owned (record { class = class; high = high; gray = gray }) job room next
header-owned gray job room (Header.no code place) = Owned.none

entry_owned : (gray : Bool) (job : List ℕ) (room : ℕ) (e : Entry) → Owned job (outcome_at gray every job room e).state.past
unfolding outcome_at
entry_owned gray job room (Entry.refused code position) = Owned.none
entry_owned gray job room Entry.admitted = header-owned gray job room (header_of job)

pub own-calls : OwnCalls
unfolding outcome_of
own-calls gray job work room later before o e f = owned_at job later before o (subst (Owned job) e (entry_owned gray job room (entry_of (length job) work))) f

-- what is performed for an operator
module _ (s : List ℕ) (since : List Operator) where
  drawn-append : {l m : List Stroke} → AllDrawn s since l → AllDrawn s since m → AllDrawn s since (l ++ m)
  drawn-append AllDrawn.none k = k
  drawn-append (AllDrawn.more d h) k = AllDrawn.more d (drawn-append h k)

  -- the own operators of a motif, of which some have been passed
  flat-drawn : (m : Motif) → Defines s m.name m.bytes since → (f : List ℕ → List Stroke) → ((n : List ℕ) → AllDrawn s since (f n)) → (os : List Own)
      → ((x : Stroke) → Among x os → Among x m.ops) → AllDrawn s since (flat f m.number os)
  unfolding flat
  flat-drawn m d f h [] u = AllDrawn.none
  flat-drawn m d f h (Own.does o a ∷ os) u =
      AllDrawn.more (Drawn.of_motif m refl (u (record { motif = m.number; op = o; act = a }) Among.does_it) d) (flat-drawn m d f h os (λ x k. u x (Among.later k)))
  flat-drawn m d f h (Own.calls o n ∷ os) u =
      AllDrawn.more (Drawn.of_motif m refl (u (record { motif = m.number; op = o; act = idle }) Among.calls_it) d)
      (drawn-append (h n) (flat-drawn m d f h os (λ x k. u x (Among.later k))))

  unfolded-drawn : {set : Setting} {held : List Motif} → AllDefined set s since held → (d : ℕ) (running : List (List ℕ)) (n : List ℕ) → AllDrawn s since (unfolded held d running n)
  unfolding unfolded call_of call_by through
  unfolded-drawn k zero running n = AllDrawn.none
  unfolded-drawn {held = held} k (suc d) running n = by (is_one n running) (held_as n held) refl (λ c. unfolded-drawn k d (n ∷ running) c)
    where
      by : (b : Bool) (x : Held) → held_as n held ≡ x → ((c : List ℕ) → AllDrawn s since (unfolded held d (n ∷ running) c))
          → AllDrawn s since (through (unfolded held d (n ∷ running)) (call_by b x))
      by b Held.none e ih = AllDrawn.none
      by true (Held.is m) e ih = AllDrawn.none
      by false (Held.is m) e ih = flat-drawn m (found-own s n k m e).0 (unfolded held d (n ∷ running)) ih m.ops (λ x h. h)

  row-drawn : (set : Setting) {held : List Motif} → AllDefined set s since held → (o : Operator) → AllDrawn s since (row_for set s held o)
  unfolding row_for
  row-drawn set k o =
      pick_all (AllDrawn s since) (eqb o.tag 0x5e) (λ _. AllDrawn.more (Drawn.itself refl) (unfolded-drawn k 32 [] (bytes_in s o.attrs 139)))
      (λ _. AllDrawn.more (Drawn.itself refl) AllDrawn.none)

pub own-strokes : OwnStrokes
own-strokes set job room next os st o r = row-drawn job (of_session st.past) set (own-motifs set job room next os st r) o
