-- An operator that is its tag alone, in a page with no image and no pattern open: how it is read, that it breaks no rule, and where the job stands after it.
-- Assumes nothing.
use Prim.Native.Nat.{ℕ, suc, ◌+◌, ◌≤◌, ◌<◌, max}
use mathlib.Core.Path.{◌≡◌, refl, ap, ◌∙◌, subst}
use mathlib.Core.Bool.{Bool, true, false}
use mathlib.Core.List.{List, [], ◌∷◌}
use native.Mathlib.Omega.{arith}
use native.Mathlib.Numerals.{add-one}
use borrow.Author.Tests.{le-leb, le-ltb}
use lib.ListN.{length, get_or}
use lib.Dec.{eqb}
use Rattle.scope.specs.Choice.{among, between}
use Rattle.scope.specs.Item.{Scan, white, scan_at}
use Rattle.scope.specs.Header.{Class, one, two}
use Rattle.scope.specs.Table.{table_one, table_two, table, line_in}
use Rattle.scope.specs.Attributes.{one_by_one, all_there, form_code}
use Rattle.scope.specs.Data.{reads_rows, due_of}
use Rattle.scope.specs.Order.{in_page, drawn, may_come, rows_fit}
use Rattle.scope.specs.Reading.{Context, Operator, Read, with_data, as_whole, with_attributes, with_line, scanned, operator_at}
use Rattle.scope.specs.Arm.{Page, needs_cursor, needs_space, no_pattern, select_of, effect_of, act_of, risen, Seen, step, walk, from}
use Rattle.scope.specs.Motif.{Motif, Picture, picture_after}
use Rattle.scope.specs.Calls.{nothing}
use Rattle.scope.specs.Setting.{Setting}
use Rattle.scope.specs.Session.{Session, Place, drawing, inside, page_of, defined_after, session_after, place_after}
use Rattle.scope.specs.Judge.{State, case_of, judged_at, met_at, too_much, no_place, own_or, outer}
use Rattle.items.proofs.Pairs.{scan_tag}
use Rattle.page.specs.Alone.{Alone, alone_close, alone_new, alone_paint, alone_push, alone_pop}
use Rattle.arm.specs.Codes.{code_of}
use Rattle.page.specs.Holds.{PageHolds}
use Rattle.arm.specs.Holds.{Moves, moves_to}
use Rattle.page.specs.declared.page.Page as Code
use Rattle.std.specs.Prelude.{Ok}
use Rattle.early.specs.Earlier.{Unbroken}
use Rattle.ruling.specs.Judged.{Judgement}
use Rattle.ruling.proofs.Ruling.{plain-judged}
use Rattle.ruling.proofs.Selecting.{selects-none}

-- what no operator of a run changes: the motifs held, and the numbers defined for the session and for the page
pub record Unmoved : Type 0 where
  pub motifs : List Motif
  pub of_session : List ℕ
  pub of_page : List ℕ

-- a session in a page with no image and no pattern open
abbrev pub drawing-on : Unmoved → Bool → Page → Session
drawing-on u opened q = record { held = u.motifs; opened = opened; patterns = u.of_session; busy = drawing q u.of_page Picture.none }

abbrev pub drawn-on : Unmoved → Bool → Page → Place
drawn-on u opened q = inside (drawing-on u opened q)

-- the operator of a tag alone
abbrev pub alone : (tag at : ℕ) → Operator
alone tag at = record { tag = tag; at = at; attrs = []; reads = false; length = 0; first = 0; next = suc at }

-- what holds of each of the five tags
each-tag : {tag : ℕ} {q q₁ : Page} (P : ℕ → Type 0) → P 0x84 → P 0x85 → P 0x86 → P 0x61 → P 0x60 → Alone tag q q₁ → P tag
each-tag P a b c d e alone_close = a
each-tag P a b c d e alone_new = b
each-tag P a b c d e alone_paint = c
each-tag P a b c d e (alone_push h) = d
each-tag P a b c d e (alone_pop h) = e

module _ {tag : ℕ} {q q₁ : Page} (a : Alone tag q q₁) where
  black : white tag ≡ false
  unfolding white
  black = each-tag (λ t. white t ≡ false) refl refl refl refl refl a

  tagged : between 0x41 0xbf tag ≡ true
  tagged = each-tag (λ t. between 0x41 0xbf t ≡ true) refl refl refl refl refl a

  no_call : eqb tag 0x5e ≡ false
  no_call = each-tag (λ t. eqb t 0x5e ≡ false) refl refl refl refl refl a

may-come : (opened : Bool) {tag : ℕ} {q q₁ : Page} → Alone tag q q₁ → may_come (in_page (length q.saved)) opened tag ≡ true
unfolding may_come drawn among
may-come opened alone_close = refl
may-come opened alone_new = refl
may-come opened alone_paint = refl
may-come opened (alone_push h) = refl
may-come opened (alone_pop {q = q} h) = le-leb 1 (length q.saved) h

module _ (set : Setting) (opened : Bool) (s : List ℕ) (at : ℕ) {tag : ℕ} {q q₁ : Page} (a : Alone tag q q₁) where
  abbrev c : Context
  c = record { set = set; phase = in_page (length q.saved); opened = opened; asked = true }

  lined : (class : Class) → with_line c s tag at [] (line_in (table class) tag) ≡ Read.operator (alone tag at)
  unfolding with_line line_in table_one table_two table with_attributes one_by_one as_whole form_code all_there rows_fit reads_rows with_data due_of
  lined one =
      each-tag (λ t. may_come (in_page (length q.saved)) opened t ≡ true → with_line c s t at [] (line_in (table one) t) ≡ Read.operator (alone t at))
      (λ e. rw e) (λ e. rw e) (λ e. rw e) (λ e. rw e) (λ e. rw e) a (may-come opened a)
  lined two =
      each-tag (λ t. may_come (in_page (length q.saved)) opened t ≡ true → with_line c s t at [] (line_in (table two) t) ≡ Read.operator (alone t at))
      (λ e. rw e) (λ e. rw e) (λ e. rw e) (λ e. rw e) (λ e. rw e) a (may-come opened a)

  pub read-alone : at < length s → get_or s at 0 ≡ tag → operator_at c s at ≡ Read.operator (alone tag at)
  unfolding operator_at scanned scan_at
  read-alone h e =
      ap (scanned c s) (scan_tag set.high s at [] h (rw e (black a)) (rw e (tagged a)) ∙ ap (λ t. Scan.tagged t at []) e) ∙ lined set.class

-- the rules of motifs, their names and patterns say nothing of it
unbroken_alone : (set : Setting) (s : List ℕ) (st : State) (x : Session) (at : ℕ) {tag : ℕ} {q q₁ : Page} → Alone tag q q₁ → Unbroken (case_of set s st x (alone tag at))
unfolding case_of too_much no_place judged_at met_at
unbroken_alone set s st x at a =
    record {
      room = each-tag (λ t. too_much (case_of set s st x (alone t at)) ≡ false) refl refl refl refl refl a;
      place = each-tag (λ t. no_place (case_of set s st x (alone t at)) ≡ false) refl refl refl refl refl a;
      sound = λ r. each-tag (λ t. own_or (case_of set s st x (alone t at)).made r ≡ r) refl refl refl refl refl a;
      met = each-tag (λ t. (case_of set s st x (alone t at)).met ≡ nothing) refl refl refl refl refl a;
    }

-- the arm after it
module _ (set : Setting) (opened : Bool) (s : List ℕ) (at n : ℕ) where
  abbrev seen : ℕ → Page → Seen
  seen tag q = walk (record { motif = 0; op = alone tag at; act = act_of set s (alone tag at) } ∷ []) (from q n)

  page-alone : {tag : ℕ} {q q₁ : Page} → Alone tag q q₁ → q₁ ≡ (seen tag q).page
  unfolding walk step from act_of effect_of
  page-alone alone_close = refl
  page-alone alone_new = refl
  page-alone alone_paint = refl
  page-alone (alone_push h) = refl
  page-alone (alone_pop h) = refl

  -- no rule of the arm's is broken, where fewer than 1,000,000 were performed
  code-alone : {tag : ℕ} {q q₁ : Page} → Alone tag q q₁ → n < 1_000_000 → code_of opened false (seen tag q) ≡ 0
  unfolding walk step from act_of effect_of needs_cursor needs_space among code_of risen
  code-alone alone_close k = rw (le-ltb 1_000_000 (suc n) k)
  code-alone alone_new k = rw (le-ltb 1_000_000 (suc n) k)
  code-alone alone_paint k = rw (le-ltb 1_000_000 (suc n) k)
  code-alone (alone_push {q = q} h) k = let m : max 0 (suc (length q.saved)) ≤ 24 = omega arith in rw (le-ltb 24 (max 0 (suc (length q.saved))) m, le-ltb 1_000_000 (suc n) k)
  code-alone (alone_pop h) k = rw (le-ltb 1_000_000 (suc n) k)

  moves-alone : {tag : ℕ} {q q₁ : Page} {p : Code.Page} → Alone tag q q₁ → PageHolds p q₁ → n < 1_000_000 → Moves opened false (Ok (record { page = p; performed = n + 1 })) (seen tag q)
  unfolding walk step from
  moves-alone {tag} {q} {p = p} a h k = moves_to (code-alone a k) (subst (PageHolds p) (page-alone a) h) (add-one n)

-- it selects nothing
selects-alone : (set : Setting) (s : List ℕ) (at : ℕ) {tag : ℕ} {q q₁ : Page} → Alone tag q q₁ → (act_of set s (alone tag at)).select ≡ no_pattern
unfolding act_of select_of
selects-alone set s at a = each-tag (λ t. (act_of set s (alone t at)).select ≡ no_pattern) refl refl refl refl refl a

pub judged-alone : (set : Setting) (s : List ℕ) (st : State) (x : Session) (at : ℕ) {tag : ℕ} {q q₁ : Page} {p : Code.Page} → Alone tag q q₁ → PageHolds p q₁ → st.performed < 1_000_000
    → q ≡ page_of x.busy → Judgement (case_of set s st x (alone tag at)) outer (Ok (record { page = p; performed = st.performed + 1 }))
judged-alone set s st x at {tag} {p = p} a h k e =
    plain-judged set s st x (alone tag at) x.opened st.performed (Ok (record { page = p; performed = st.performed + 1 })) refl refl (unbroken_alone set s st x at a) (no_call a)
    false (selects-none set s st x (alone tag at) (no_call a) (selects-alone set s at a))
    (rw e at (moves-alone set x.opened s at st.performed a h k))

-- the session stays in the page, with nothing open
pub place-alone : (set : Setting) (s : List ℕ) (at : ℕ) (u : Unmoved) (opened : Bool) (p : Page) {tag : ℕ} {q q₁ : Page} → Alone tag q q₁
    → place_after set s (alone tag at) p (drawn-on u opened q) ≡ drawn-on u opened p
unfolding place_after session_after defined_after picture_after reads_rows
place-alone set s at u opened p {q = q} a =
    each-tag (λ t. place_after set s (alone t at) p (drawn-on u opened q) ≡ drawn-on u opened p) refl refl refl refl refl a
