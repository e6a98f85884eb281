-- The plain arm and the judge's state go together: after an operator's row the arm stands where the state after that operator says.
-- Assumes nothing.
use Prim.Native.Nat.{ℕ}
use mathlib.Core.Path.{◌≡◌, refl, sym, ap, ◌∙◌, subst, subst⁻¹}
use mathlib.Core.Bool.{Bool, true, false, not, ◌&&◌, ◌||◌}
use mathlib.Core.List.{List, []}
use borrow.Author.Tests.{eqb-true}
use lib.Dec.{eqb}
use Rattle.scope.specs.Choice.{pick, among}
use Rattle.scope.specs.Attributes.{bytes_in}
use Rattle.scope.specs.Order.{may_come, drawn, between_sessions, in_session, in_stream}
use Rattle.scope.specs.Reading.{Operator}
use Rattle.scope.specs.Arm.{Page, Seen, blank, act_of, effect_of, done, walk, step, from, Stroke}
use Rattle.scope.specs.Motif.{Motif, Picture}
use Rattle.scope.specs.Setting.{Setting}
use Rattle.scope.specs.Session.{Busy, resting, reading, drawing, Session, Place, outside, inside, session_of, phase_of, phase_busy, phase_drawing, page_of, page_patterns, defined, defined_after, row_for, session_after, place_after}
use Rattle.scope.specs.Judge.{State, Case, case_of, after}
use Rattle.scope.specs.Plain.{Turn, stays, opens, closes, begins, ends, leaves, defines, Doing, ends_pattern, turn_of, opened_by, page_by, of_session_by, of_page_by, PlainArm, performed, deeds}
use Rattle.scope.proofs.Ends.{pick_all}
use Rattle.scope.proofs.Apart.{clash-of, differs}
use Rattle.scope.proofs.Rows.{Around, arm_of, turned, row-performed}
use Rattle.scope.proofs.Codes.{around}
use Rattle.scope.proofs.Shaped.{doing_busy, doing_of, Shaped, shaped, row-shaped}

-- an operator that is no call and leaves the page as it is
record Quiet (tag : ℕ) : Type 0 where
  call : eqb tag 0x5e ≡ false
  push : eqb tag 0x61 ≡ false
  pop : eqb tag 0x60 ≡ false
  set : eqb tag 0x6b ≡ false
  unset : eqb tag 0x85 ≡ false
  space : eqb tag 0x6a ≡ false
  default : eqb tag 0x57 ≡ false

quiet-page : (set : Setting) (s : List ℕ) (held : List Motif) (o : Operator) (p : Page) (n : ℕ) → Quiet o.tag
    → (walk (row_for set s held o) (from p n)).page ≡ p
unfolding row_for walk step from act_of effect_of done
quiet-page set s held o p n q = rw (q.call, q.push, q.pop, q.set, q.unset, q.space, q.default) refl

quiet_by : (f : ℕ → Bool) (tag : ℕ) → f tag ≡ true → f 0x5e ≡ false → f 0x61 ≡ false → f 0x60 ≡ false → f 0x6b ≡ false → f 0x85 ≡ false
    → f 0x6a ≡ false → f 0x57 ≡ false → Quiet tag
quiet_by f tag h a b c d e g k =
    record {
      call = differs f tag 0x5e h a;
      push = differs f tag 0x61 h b;
      pop = differs f tag 0x60 h c;
      set = differs f tag 0x6b h d;
      unset = differs f tag 0x85 h e;
      space = differs f tag 0x6a h g;
      default = differs f tag 0x57 h k;
    }

-- what a turn at rest does, test by test
module _ (g : Bool) where
  abbrev at_rest : (a b c d e f : Bool) → Turn
  at_rest a b c d e f = pick a opens (pick b closes (pick c (begins g) (pick d ends (pick e leaves (pick f stays stays)))))

  opened-turned : (a b c d e f o : Bool) → opened_by (at_rest a b c d e f) o ≡ pick a true (pick b false o)
  opened-turned true b c d e f o = refl
  opened-turned false true c d e f o = refl
  opened-turned false false true d e f o = refl
  opened-turned false false false true e f o = refl
  opened-turned false false false false true f o = refl
  opened-turned false false false false false true o = refl
  opened-turned false false false false false false o = refl

  unturned : (a b d e f : Bool) → page_by (at_rest a b false d e f) (blank false) ≡ blank false
  unturned true b d e f = refl
  unturned false true d e f = refl
  unturned false false true e f = refl
  unturned false false false true f = refl
  unturned false false false false true = refl
  unturned false false false false false = refl

  -- no pattern comes or goes at rest, but at EndSession
  kept-turned : (a b c d f : Bool) (ns : List ℕ) → of_session_by (at_rest a b c d false f) ns ≡ ns
  kept-turned true b c d f ns = refl
  kept-turned false true c d f ns = refl
  kept-turned false false true d f ns = refl
  kept-turned false false false true f ns = refl
  kept-turned false false false false true ns = refl
  kept-turned false false false false false ns = refl

  none-turned : (a b c d e f : Bool) → of_page_by (at_rest a b c d e f) [] ≡ []
  none-turned true b c d e f = refl
  none-turned false true c d e f = refl
  none-turned false false true d e f = refl
  none-turned false false false true e f = refl
  none-turned false false false false true f = refl
  none-turned false false false false false true = refl
  none-turned false false false false false false = refl

resting-page : (b : Bool) (n : List ℕ) → page_of (pick b (reading n []) resting) ≡ blank false
resting-page true n = refl
resting-page false n = refl

-- at rest only BeginPage changes the page
page-turned : (gray : Bool) (tag : ℕ) (n : List ℕ) (c : Bool) → eqb tag 0x43 ≡ c
    → page_by (turn_of gray Doing.resting tag) (blank false) ≡ page_of (pick c (drawing (blank gray) [] Picture.none) (pick (eqb tag 0x5b) (reading n []) resting))
unfolding turn_of ends_pattern
page-turned gray tag n true e = rw (eqb-true tag 0x43 e) refl
page-turned gray tag n false e =
    rw e (unturned gray (eqb tag 0x48) (eqb tag 0x49) (eqb tag 0x44) (eqb tag 0x42) (eqb tag 0xb5) ∙ sym (resting-page (eqb tag 0x5b) n))

no-patterns : (b c : Bool) (n : List ℕ) (g : Bool) → page_patterns (pick b (drawing (blank g) [] Picture.none) (pick c (reading n []) resting)) ≡ []
no-patterns true c n g = refl
no-patterns false true n g = refl
no-patterns false false n g = refl

-- the session after an operator: source, page, and the patterns of session and page
pub record Stands (t : Turn) (o : Bool) (p : Page) (ns ms : List ℕ) (y : Session) : Type 0 where
  pub opened : opened_by t o ≡ y.opened
  pub page : page_by t p ≡ page_of y.busy
  pub of_session : of_session_by t ns ≡ y.patterns
  pub of_page : of_page_by t ms ≡ page_patterns y.busy

abbrev pub quietly : Busy → Page → Type 0
quietly resting p = p ≡ blank false
quietly (reading n j) p = p ≡ blank false
quietly (drawing q ns i) p = Unit {0}

stay_turn : (gray : Bool) (d : Doing) (tag : ℕ) → eqb tag 0x48 ≡ false → eqb tag 0x49 ≡ false → eqb tag 0x43 ≡ false → eqb tag 0x44 ≡ false → eqb tag 0x42 ≡ false
    → eqb tag 0xb5 ≡ false → turn_of gray d tag ≡ stays
unfolding turn_of
stay_turn gray d tag a b c e f g = rw (a, b, c, e, f, g) refl

-- the turn in a page of an operator that is not EndPage: a pattern that ends is defined, and nothing else turns
ends-turn : (gray : Bool) (i : Picture) (tag : ℕ) → eqb tag 0x48 ≡ false → eqb tag 0x49 ≡ false → eqb tag 0x43 ≡ false → eqb tag 0x44 ≡ false → eqb tag 0x42 ≡ false
    → turn_of gray (Doing.drawing i) tag ≡ pick (eqb tag 0xb5) (ends_pattern (Doing.drawing i)) stays
unfolding turn_of
ends-turn gray i tag a b c e f = rw (a, b, c, e, f) refl

ended-turn : (gray : Bool) (i : Picture) (tag : ℕ) → eqb tag 0x44 ≡ true → turn_of gray (Doing.drawing i) tag ≡ ends
unfolding turn_of
ended-turn gray i tag e = rw (eqb-true tag 0x44 e) refl

module _ (tag : ℕ) (o : Bool) (p : Page) (ns ms : List ℕ) where
  -- what a pattern that ends defines
  abbrev hatched : (b c : Bool) (n : ℕ) → Turn → Type 0
  hatched b c n t =
      (opened_by t o ≡ o) × (page_by t p ≡ p) × (of_session_by t ns ≡ pick (b && c) (defined n ns) ns) × (of_page_by t ms ≡ pick (b && not c) (defined n ms) ms)

  hatched-by : (b c : Bool) (n : ℕ) → hatched b c n (pick b (defines (record { session = c; number = n })) stays)
  unfolding defined
  hatched-by true true n = (refl, refl, refl, refl)
  hatched-by true false n = (refl, refl, refl, refl)
  hatched-by false true n = (refl, refl, refl, refl)
  hatched-by false false n = (refl, refl, refl, refl)

  drawn-by : (i : Picture) (t : Turn) → t ≡ pick (eqb tag 0xb5) (ends_pattern (Doing.drawing i)) stays
      → (opened_by t o ≡ o) × (page_by t p ≡ p) × (of_session_by t ns ≡ defined_after true tag i ns) × (of_page_by t ms ≡ defined_after false tag i ms)
  unfolding ends_pattern defined_after
  drawn-by Picture.none t e = rw (e, either (eqb tag 0xb5)) (refl, refl, refl, refl)
    where
      either : (b : Bool) → pick b stays stays ≡ stays
      either true = refl
      either false = refl
  drawn-by (Picture.being i) t e = rw (e, either (eqb tag 0xb5)) (refl, refl, refl, refl)
    where
      either : (b : Bool) → pick b stays stays ≡ stays
      either true = refl
      either false = refl
  drawn-by (Picture.hatching h i) t e = rw e (hatched-by (eqb tag 0xb5) h.session h.number)

module _ (set : Setting) (s : List ℕ) (c : Case) where
  in_drawing : (f : ℕ → Bool) (p : Page) (ms : List ℕ) (i : Picture) (x : Session) → f c.op.tag ≡ true → f 0x48 ≡ false → f 0x49 ≡ false → f 0x43 ≡ false
      → f 0x42 ≡ false → (e : Bool) → eqb c.op.tag 0x44 ≡ e
      → Stands (turn_of set.gray (Doing.drawing i) c.op.tag) x.opened c.seen.page x.patterns ms (session_after set s c.op c.seen.page (drawing p ms i) x)
  unfolding session_after
  in_drawing f p ms i x h a b d g true e = rw (end-turn, e) (record { opened = refl; page = refl; of_session = refl; of_page = refl })
    where
      end-turn : turn_of set.gray (Doing.drawing i) c.op.tag ≡ ends
      end-turn = ended-turn set.gray i c.op.tag e
  in_drawing f p ms i x h a b d g false e =
      let tag = c.op.tag in
      let z = drawn-by tag x.opened c.seen.page x.patterns ms i (turn_of set.gray (Doing.drawing i) tag)
      (ends-turn set.gray i tag (differs f tag 0x48 h a) (differs f tag 0x49 h b) (differs f tag 0x43 h d) e (differs f tag 0x42 h g)) in
      rw e (record { opened = z.0; page = z.1; of_session = z.2; of_page = z.3 })

  in_reading : (n j : List ℕ) (x : Session) → may_come (phase_busy (reading n j)) x.opened c.op.tag ≡ true → c.seen.page ≡ blank false
      → Stands (turn_of set.gray (Doing.reading n j) c.op.tag) x.opened c.seen.page x.patterns [] (session_after set s c.op c.seen.page (reading n j) x)
  unfolding session_after may_come phase_busy
  in_reading n j x h q =
      let f : ℕ → Bool = λ t. eqb t 0x5c || eqb t 0x5d in
      let tag = c.op.tag in
      let e = stay_turn set.gray (Doing.reading n j) tag (differs f tag 0x48 h refl) (differs f tag 0x49 h refl) (differs f tag 0x43 h refl) (differs f tag 0x44 h refl)
      (differs f tag 0x42 h refl) (differs f tag 0xb5 h refl) in
      subst⁻¹ (λ t. Stands t x.opened c.seen.page x.patterns [] (session_after set s c.op c.seen.page (reading n j) x)) e
      (pick_all (Stands stays x.opened c.seen.page x.patterns []) (eqb c.op.tag 0x5c)
      (λ _. record { opened = refl; page = q; of_session = refl; of_page = refl }) (λ _. record { opened = refl; page = q; of_session = refl; of_page = refl }))

  in_resting : (x : Session) → eqb c.op.tag 0x42 ≡ false → c.seen.page ≡ blank false
      → Stands (turn_of set.gray Doing.resting c.op.tag) x.opened c.seen.page x.patterns [] (session_after set s c.op c.seen.page resting x)
  unfolding session_after turn_of ends_pattern
  in_resting x l q =
      let tag = c.op.tag in
      record {
        opened = opened-turned set.gray (eqb tag 0x48) (eqb tag 0x49) (eqb tag 0x43) (eqb tag 0x44) (eqb tag 0x42) (eqb tag 0xb5) x.opened;
        page = ap (page_by (turn_of set.gray Doing.resting tag)) q ∙ page-turned set.gray tag (bytes_in s c.op.attrs 139) (eqb tag 0x43) refl;
        of_session = ap (λ e. of_session_by (at_rest set.gray (eqb tag 0x48) (eqb tag 0x49) (eqb tag 0x43) (eqb tag 0x44) e (eqb tag 0xb5)) x.patterns) l
            ∙ kept-turned set.gray (eqb tag 0x48) (eqb tag 0x49) (eqb tag 0x43) (eqb tag 0x44) (eqb tag 0xb5) x.patterns;
        of_page = none-turned set.gray (eqb tag 0x48) (eqb tag 0x49) (eqb tag 0x43) (eqb tag 0x44) (eqb tag 0x42) (eqb tag 0xb5)
            ∙ sym (no-patterns (eqb tag 0x43) (eqb tag 0x5b) (bytes_in s c.op.attrs 139) set.gray);
      }

  in_session-of : (b : Busy) (x : Session) → eqb c.op.tag 0x42 ≡ false → may_come (phase_busy b) x.opened c.op.tag ≡ true → quietly b c.seen.page
      → Stands (turn_of set.gray (doing_busy b) c.op.tag) x.opened c.seen.page x.patterns (page_patterns b) (session_after set s c.op c.seen.page b x)
  unfolding phase_busy phase_drawing may_come drawn among
  in_session-of resting x l h q = in_resting x l q
  in_session-of (reading n j) x l h q = in_reading n j x h q
  in_session-of (drawing p ms Picture.none) x l h q =
      in_drawing (may_come (phase_busy (drawing p ms Picture.none)) x.opened) p ms Picture.none x h refl refl refl refl (eqb c.op.tag 0x44) refl
  in_session-of (drawing p ms (Picture.being i)) x l h q =
      in_drawing (may_come (phase_busy (drawing p ms (Picture.being i))) x.opened) p ms (Picture.being i) x h refl refl refl refl (eqb c.op.tag 0x44) refl
  in_session-of (drawing p ms (Picture.hatching k i)) x l h q =
      in_drawing (may_come (phase_busy (drawing p ms (Picture.hatching k i))) x.opened) p ms (Picture.hatching k i) x h refl refl refl refl (eqb c.op.tag 0x44) refl

  -- EndSession comes only at rest and with the source closed
  end-session : (b : Busy) (opened : Bool) → may_come (phase_busy b) opened 0x42 ≡ true → quietly b c.seen.page
      → (opened ≡ false) × (c.seen.page ≡ blank false) × (b ≡ resting)
  unfolding phase_busy phase_drawing may_come drawn among
  end-session resting true h q = clash-of (sym h)
  end-session resting false h q = (refl, q, refl)
  end-session (reading n j) opened h q = clash-of (sym h)
  end-session (drawing p ms Picture.none) opened h q = clash-of (sym h)
  end-session (drawing p ms (Picture.being i)) opened h q = clash-of (sym h)
  end-session (drawing p ms (Picture.hatching k i)) opened h q = clash-of (sym h)

  ended-session : (x : Session) → eqb c.op.tag 0x42 ≡ true → may_come (phase_busy x.busy) x.opened c.op.tag ≡ true
      → quietly x.busy c.seen.page
      → Stands (turn_of set.gray (doing_busy x.busy) c.op.tag) x.opened c.seen.page x.patterns (page_patterns x.busy) (session_of (outside true))
  unfolding turn_of
  ended-session x e h q =
      let k = end-session x.busy x.opened (ap (may_come (phase_busy x.busy) x.opened) (sym (eqb-true c.op.tag 0x42 e)) ∙ h) q in
      rw (eqb-true c.op.tag 0x42 e) (record { opened = k.0; page = k.1; of_session = refl; of_page = ap page_patterns k.2 })

  pub place-stands : (p : Place) → may_come (phase_of p) (session_of p).opened c.op.tag ≡ true → quietly (session_of p).busy c.seen.page
      → Stands (turn_of set.gray (doing_of p) c.op.tag) (session_of p).opened c.seen.page (session_of p).patterns (page_patterns (session_of p).busy)
      (session_of (place_after set s c.op c.seen.page p))
  unfolding phase_of place_after may_come turn_of
  place-stands (outside b) h q = rw (eqb-true c.op.tag 0x41 h) (record { opened = refl; page = q; of_session = refl; of_page = refl })
  place-stands (inside x) h q =
      pick_all (λ r. Stands (turn_of set.gray (doing_busy x.busy) c.op.tag) x.opened c.seen.page x.patterns (page_patterns x.busy) (session_of r))
      (eqb c.op.tag 0x42) (λ e. ended-session x e h q) (λ l. in_session-of x.busy x l h q)

-- outside a page an operator leaves the blank page as it is
module _ (set : Setting) (s : List ℕ) (held : List Motif) (o : Operator) (n : ℕ) where
  quiet-busy : (b : Busy) (opened : Bool) → may_come (phase_busy b) opened o.tag ≡ true
      → quietly b (walk (row_for set s held o) (from (page_of b) n)).page
  unfolding phase_busy may_come among
  quiet-busy resting true h = quiet-page set s held o (blank false) n (quiet_by (may_come in_session true) o.tag h refl refl refl refl refl refl refl)
  quiet-busy resting false h = quiet-page set s held o (blank false) n (quiet_by (may_come in_session false) o.tag h refl refl refl refl refl refl refl)
  quiet-busy (reading a j) opened h = quiet-page set s held o (blank false) n (quiet_by (may_come in_stream opened) o.tag h refl refl refl refl refl refl refl)
  quiet-busy (drawing p ns i) opened h = tt

  pub quiet-seen : (p : Place) → may_come (phase_of p) (session_of p).opened o.tag ≡ true
      → quietly (session_of p).busy (walk (row_for set s held o) (from (page_of (session_of p).busy) n)).page
  unfolding phase_of may_come
  quiet-seen (outside b) h = quiet-page set s held o (blank false) n (quiet_by (may_come between_sessions false) o.tag h refl refl refl refl refl refl refl)
  quiet-seen (inside x) h = quiet-busy x.busy x.opened h

-- where the plain arm stands in a state
abbrev pub standing : State → PlainArm
standing st =
    record {
      opened = (session_of st.place).opened;
      page = page_of (session_of st.place).busy;
      of_session = (session_of st.place).patterns;
      of_page = page_patterns (session_of st.place).busy;
      count = st.performed;
    }

shaped-performed : (o : Around) (t : Turn) {r : List Stroke} (w : Seen) → Shaped t r → performed (deeds t r) (arm_of o w) ≡ turned t (arm_of o (walk r w))
shaped-performed o t w (shaped {a = a} {l = l} f) = row-performed o t a l w f

-- after an operator's row the plain arm stands where the state after it says
pub stands : (set : Setting) (s : List ℕ) (st : State) (o : Operator) → may_come (phase_of st.place) (session_of st.place).opened o.tag ≡ true
    → performed (deeds (turn_of set.gray (doing_of st.place) o.tag) (row_for set s (session_of st.place).held o)) (standing st)
    ≡ standing (after set s st (case_of set s st (session_of st.place) o))
unfolding after case_of from
stands set s st o h =
    let x = session_of st.place in
    let c = case_of set s st x o in
    let w = from (page_of x.busy) st.performed in
    let k = place-stands set s c st.place h (quiet-seen set s x.held o st.performed st.place h) in
    shaped-performed (around x) (turn_of set.gray (doing_of st.place) o.tag) w (row-shaped set s (doing_of st.place) x.held o)
    ∙ (λ i. record { opened = k.opened i; page = k.page i; of_session = k.of_session i; of_page = k.of_page i; count = c.seen.count })
