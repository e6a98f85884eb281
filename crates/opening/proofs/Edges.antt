-- BeginSession, EndSession, OpenDataSource and CloseDataSource: they break no rule but perhaps that of the room, and the place after them.
-- Assumes nothing.
use Prim.Native.Nat.{ℕ, suc, ◌+◌, ◌≤◌, ◌<◌}
use mathlib.Core.Path.{◌≡◌, refl, sym, ap, ◌∙◌, subst, subst⁻¹}
use mathlib.Core.Bool.{Bool, true, false}
use mathlib.Core.List.{List, [], ◌∷◌}
use native.Mathlib.Omega.{arith}
use native.Mathlib.Numerals.{add-one}
use borrow.Author.Tests.{le-ltb, eq-eqb, ne_eqb}
use lib.ListN.{length}
use lib.Dec.{eqb}
use Rattle.scope.specs.Choice.{pick, among}
use Rattle.scope.specs.Reading.{Operator}
use Rattle.scope.specs.Arm.{Page, blank, needs_cursor, needs_space, no_pattern, select_of, effect_of, act_of, risen, done, Seen, step, walk, from}
use Rattle.scope.specs.Motif.{Motif}
use Rattle.scope.specs.Calls.{nothing}
use Rattle.scope.specs.Setting.{Setting}
use Rattle.scope.specs.Session as session
use Rattle.scope.specs.Session.{Session, session_of, page_of, session_after, place_after}
use Rattle.scope.specs.Judge.{State, case_of, judged_at, met_at, too_much, no_place, own_or, outer}
use Rattle.arm.specs.Codes.{code_of}
use Rattle.page.specs.Views.{stack}
use Rattle.page.specs.Holds.{PageHolds}
use Rattle.arm.specs.Holds.{Moves, moves_to}
use Rattle.page.specs.declared.page.Page as Code
use Rattle.std.specs.Prelude.{Ok}
use Rattle.motif.specs.Stored.{Stored}
use Rattle.motif.specs.declared.kept.Kept.{Kept}
use Rattle.pattern_rows.specs.Numbers.{OfSession, numbers_in}
use Rattle.place.specs.Places.{Hatches, BusyHolds, resting_holds, PlaceHolds, outside_holds, inside_holds}
use Rattle.place.specs.declared.place.Busy.{Busy}
use Rattle.place.specs.declared.place.Busy.TheVariants.{Resting}
use Rattle.place.specs.declared.place.Place.{Place}
use Rattle.place.specs.declared.place.Place.TheVariants.{Outside, Inside}
use Rattle.early.specs.Earlier.{Unbroken}
use Rattle.after.proofs.Storing.{stored-none, selects-none}
use Rattle.ruling.specs.Judged.{Judgement}
use Rattle.ruling.proofs.Ruling.{plain-judged}
use Rattle.ruling.proofs.Selecting as selecting
use Rattle.opening.specs.Opening.{Edge, begins, ends, opens, closes, Rests, rests_outside, rests_inside, Past}

-- what holds of each of the four tags
each-tag : {tag : ℕ} (P : ℕ → Type 0) → P 0x41 → P 0x42 → P 0x48 → P 0x49 → Edge tag → P tag
each-tag P a b c d begins = a
each-tag P a b c d ends = b
each-tag P a b c d opens = c
each-tag P a b c d closes = d

-- the operator of a tag that takes no data, and is as o beside that
abbrev plain : Operator → ℕ → Operator
plain o tag = record { tag = tag; at = o.at; attrs = o.attrs; reads = false; length = o.length; first = o.first; next = o.next }

module _ (set : Setting) (s : List ℕ) (o : Operator) {tag : ℕ} (a : Edge tag) where
  no_call : eqb tag 0x5e ≡ false
  no_call = each-tag (λ t. eqb t 0x5e ≡ false) refl refl refl refl a

  -- it selects nothing
  selects : (act_of set s (plain o tag)).select ≡ no_pattern
  unfolding act_of select_of
  selects = each-tag (λ t. (act_of set s (plain o t)).select ≡ no_pattern) refl refl refl refl a

  -- the rules of motifs, their names and patterns say nothing of it
  unbroken_edge : (st : State) (x : Session) → Unbroken (case_of set s st x (plain o tag))
  unfolding case_of too_much no_place judged_at met_at
  unbroken_edge st x =
      record {
        room = each-tag (λ t. too_much (case_of set s st x (plain o t)) ≡ false) refl refl refl refl a;
        place = each-tag (λ t. no_place (case_of set s st x (plain o t)) ≡ false) refl refl refl refl a;
        sound = λ r. each-tag (λ t. own_or (case_of set s st x (plain o t)).made r ≡ r) refl refl refl refl a;
        met = each-tag (λ t. (case_of set s st x (plain o t)).met ≡ nothing) refl refl refl refl a;
      }

  -- the arm after it
  abbrev seen : ℕ → Page → ℕ → Seen
  seen t q n = walk (record { motif = 0; op = plain o t; act = act_of set s (plain o t) } ∷ []) (from q n)

  page-edge : (q : Page) (n : ℕ) → q ≡ (seen tag q n).page
  unfolding walk step from act_of effect_of done
  page-edge q n = each-tag (λ t. q ≡ (seen t q n).page) refl refl refl refl a

  -- no rule of the arm's is broken, where fewer than 1,000,000 were performed
  code-edge : (opened : Bool) (q : Page) (n : ℕ) → n < 1_000_000 → code_of opened false (seen tag q n) ≡ 0
  unfolding walk step from act_of effect_of needs_cursor needs_space among code_of risen
  code-edge opened q n k =
      each-tag (λ t. code_of opened false (seen t q n) ≡ 0) (rw (le-ltb 1_000_000 (suc n) k)) (rw (le-ltb 1_000_000 (suc n) k)) (rw (le-ltb 1_000_000 (suc n) k))
      (rw (le-ltb 1_000_000 (suc n) k)) a

  judged-plain : (st : State) (x : Session) (p : Code.Page) → PageHolds p (page_of x.busy) → st.performed < 1_000_000
      → Judgement (case_of set s st x (plain o tag)) outer (Ok (record { page = p; performed = st.performed + 1 }))
  unfolding walk step from
  judged-plain st x p h k =
      let q = page_of x.busy in
      let n = st.performed in
      let m : Moves x.opened false (Ok (record { page = p; performed = n + 1 })) (seen tag q n) = moves_to (code-edge x.opened q n k) (subst (PageHolds p) (page-edge q n) h) (add-one n) in
      plain-judged set s st x (plain o tag) x.opened n (Ok (record { page = p; performed = n + 1 })) refl refl (unbroken_edge st x) no_call
      false (selecting.selects-none set s st x (plain o tag) no_call selects) m

-- the code's page on which nothing was done
abbrev untouched : Code.Page
untouched = record { cursor = false; gray = false; depth = 0; saved = 0 }

blank-holds : PageHolds untouched (blank false)
unfolding stack
blank-holds = record { same = refl; few = omega arith }

-- at rest there is no page
page-in : {job work p : List ℕ} {kept : Kept} {ms : List Motif} (y : session.Busy) → BusyHolds job work p kept ms Resting y → PageHolds untouched (page_of y)
page-in y resting_holds = blank-holds

page-rests : {set : Setting} {job work t p : List ℕ} {place : Place} {q : session.Place} → Rests place → PlaceHolds set job work t p place q
    → PageHolds untouched (page_of (session_of q).busy)
page-rests rests_outside (outside_holds z) = blank-holds
page-rests rests_inside (inside_holds {x = x} e u s h y) = page-in x.busy y

pub judged-edge : {job work t p : List ℕ} {place : Place} (set : Setting) (st : State) (o : Operator) → Edge o.tag → o.reads ≡ false → st.performed < 1_000_000
    → Rests place → PlaceHolds set job work t p place st.place
    → Judgement (case_of set job st (session_of st.place) o) outer (Ok (record { page = untouched; performed = st.performed + 1 }))
judged-edge {job} set st o a e k r h =
    let same : o ≡ plain o o.tag =
    λ i. record { tag = o.tag; at = o.at; attrs = o.attrs; reads = e i; length = o.length; first = o.first; next = o.next } in
    subst⁻¹ (λ (z : Operator). Judgement (case_of set job st (session_of st.place) z) outer (Ok (record { page = untouched; performed = st.performed + 1 }))) same
    (judged-plain set job o a st (session_of st.place) untouched (page-rests r h) k)

module _ (set : Setting) (job work t p : List ℕ) (o : Operator) (g : Page) where
  begun-in : {b : Bool} {q : session.Place} → numbers_in p OfSession ≡ [] → length t ≡ 704
      → PlaceHolds set job work t p (Outside b) q → PlaceHolds set job work t p (Inside false (record { held = 0; used = 0 }) Resting) (place_after set job o g q)
  unfolding place_after
  begun-in n l (outside_holds z) =
      let k : 0 ≤ 16384 = omega arith in
      let f : 0 ≤ 32 = omega arith in
      inside_holds refl k (stored-none set work t l) (record { selects = selects-none z; session = n; few = f }) resting_holds

  over-in : {opened : Bool} {kept : Kept} {q : session.Place} → o.tag ≡ 0x42
      → PlaceHolds set job work t p (Inside opened kept Resting) q → PlaceHolds set job work t p (Outside true) (place_after set job o g q)
  unfolding place_after
  over-in e (inside_holds a u s h y) = rw (eq-eqb o.tag 0x42 e) (outside_holds h.selects.quiet)

  -- the source after it
  abbrev opened_past : Bool → Bool
  opened_past opened = pick (eqb o.tag 0x48) true (pick (eqb o.tag 0x49) false opened)

  rest-busy : {kept : Kept} (r : Bool) (x : Session) (y : session.Busy) → x.busy ≡ y → Edge o.tag → (o.tag ≡ 0x42 → ⊥) → r ≡ opened_past x.opened
      → kept.used ≤ 16384 → Stored set work t kept x.held → Hatches p x.held x.patterns → BusyHolds job work p kept x.held Resting y
      → PlaceHolds set job work t p (Inside r kept Resting) (place_after set job o g (session.inside x))
  unfolding place_after session_after
  rest-busy r x y e a nx oi u s h resting_holds =
      let np : eqb o.tag 0x43 ≡ false = each-tag (λ z. eqb z 0x43 ≡ false) refl refl refl refl a in
      let ns : eqb o.tag 0x5b ≡ false = each-tag (λ z. eqb z 0x5b ≡ false) refl refl refl refl a in
      rw (ne_eqb o.tag 0x42 nx, e, np, ns) (inside_holds oi u s h resting_holds)

  rest_in : {opened : Bool} {kept : Kept} {q : session.Place} (r : Bool) → Edge o.tag → (o.tag ≡ 0x42 → ⊥) → r ≡ opened_past opened
      → PlaceHolds set job work t p (Inside opened kept Resting) q → PlaceHolds set job work t p (Inside r kept Resting) (place_after set job o g q)
  rest_in r a nx oi (inside_holds {x = x} e u s h y) = rest-busy r x x.busy refl a nx (oi ∙ ap opened_past e) u s h y

-- outside a session one begins: no motif is held, so no row has to be right
pub begun : {b : Bool} {tag : ℕ} → Past (Outside b) tag (Inside false (record { held = 0; used = 0 }) Resting)
begun = record { keeps = λ set job work t p o g q e n l h. begun-in set job work t p o g n l h }

-- EndSession
pub over : {opened : Bool} {kept : Kept} {tag : ℕ} → tag ≡ 0x42 → Past (Inside opened kept Resting) tag (Outside true)
over f = record { keeps = λ set job work t p o g q e n l h. over-in set job work t p o g (e ∙ f) h }

-- the session goes on, its source as it is then
goes_on : {opened : Bool} {kept : Kept} {tag : ℕ} (r : Bool) → Edge tag → (tag ≡ 0x42 → ⊥) → r ≡ pick (eqb tag 0x48) true (pick (eqb tag 0x49) false opened)
    → Past (Inside opened kept Resting) tag (Inside r kept Resting)
goes_on {opened} r a nx oi =
    record {
      keeps = λ set job work t p o g q e n l h.
          rest_in set job work t p o g r (subst⁻¹ Edge e a) (λ z. nx (sym e ∙ z)) (oi ∙ ap (λ (k : ℕ). pick (eqb k 0x48) true (pick (eqb k 0x49) false opened)) (sym e)) h;
    }

pub source-opens : {opened : Bool} {kept : Kept} {tag : ℕ} → Edge tag → (tag ≡ 0x42 → ⊥) → tag ≡ 0x48 → Past (Inside opened kept Resting) tag (Inside true kept Resting)
source-opens {tag = tag} a nx e = goes_on true a nx (rw (eq-eqb tag 0x48 e) refl)

pub source-closes : {opened : Bool} {kept : Kept} {tag : ℕ} → Edge tag → (tag ≡ 0x42 → ⊥) → (tag ≡ 0x48 → ⊥) → tag ≡ 0x49
    → Past (Inside opened kept Resting) tag (Inside false kept Resting)
source-closes {tag = tag} a nx ny e = goes_on false a nx (rw (ne_eqb tag 0x48 ny, eq-eqb tag 0x49 e) refl)

pub source_stays : {opened : Bool} {kept : Kept} {tag : ℕ} → Edge tag → (tag ≡ 0x42 → ⊥) → (tag ≡ 0x48 → ⊥) → (tag ≡ 0x49 → ⊥)
    → Past (Inside opened kept Resting) tag (Inside opened kept Resting)
source_stays {opened} {tag = tag} a nx ny nz = goes_on opened a nx (rw (ne_eqb tag 0x48 ny, ne_eqb tag 0x49 nz) refl)

-- a session that rests is at nothing else
pub past-rests : {opened : Bool} {kept : Kept} {b : Busy} {tag : ℕ} {next : Place} → Rests (Inside opened kept b) → Past (Inside opened kept Resting) tag next
    → Past (Inside opened kept b) tag next
past-rests rests_inside h = h
