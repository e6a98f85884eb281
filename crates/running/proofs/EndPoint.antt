-- A line by its end point, in a page with no image and no pattern open and the cursor set: that it breaks no rule, and where the job stands after it.
-- Assumes nothing.
use Prim.Native.Nat.{ℕ, suc, ◌+◌, ◌<◌}
use mathlib.Core.Path.{◌≡◌, refl, sym, ap, ◌∙◌}
use mathlib.Core.Bool.{Bool, true, false}
use mathlib.Core.List.{List, [], ◌∷◌}
use native.Mathlib.Numerals.{add-one}
use borrow.Author.Tests.{le-ltb}
use lib.Dec.{eqb}
use Rattle.scope.specs.Choice.{among}
use Rattle.scope.specs.Data.{reads_rows}
use Rattle.scope.specs.Arm.{Page, needs_cursor, needs_space, no_pattern, select_of, effect_of, act_of, risen, done, Seen, step, walk, from}
use Rattle.scope.specs.Motif.{picture_after}
use Rattle.scope.specs.Calls.{nothing}
use Rattle.scope.specs.Setting.{Setting}
use Rattle.scope.specs.Session.{Session, page_of, defined_after, session_after, place_after}
use Rattle.scope.specs.Judge.{State, case_of, judged_at, met_at, too_much, no_place, own_or, outer}
use Rattle.arm.specs.Codes.{code_of}
use Rattle.page.specs.Holds.{PageHolds}
use Rattle.arm.specs.Holds.{Moves, moves_to}
use Rattle.page.specs.declared.page.Page as Code
use Rattle.std.specs.Prelude.{Ok}
use Rattle.end_point.specs.EndPoint.{line_of, Drawn, drawn_path, drawn_rel}
use Rattle.early.specs.Earlier.{Unbroken}
use Rattle.ruling.specs.Judged.{Judgement}
use Rattle.ruling.proofs.Ruling.{plain-judged}
use Rattle.ruling.proofs.Selecting.{selects-none}
use Rattle.running.proofs.Alone.{Unmoved, drawn-on}

-- what holds of both tags
each_line : {tag : ℕ} (P : ℕ → Type 0) → P 0x9b → P 0x9d → Drawn tag → P tag
each_line P a b drawn_path = a
each_line P a b drawn_rel = b

-- the rules of motifs, their names and patterns say nothing of it
unbroken_line : (set : Setting) (s : List ℕ) (st : State) (x : Session) (point at op : ℕ) {tag : ℕ} → Drawn tag → Unbroken (case_of set s st x (line_of point tag at op))
unfolding case_of too_much no_place judged_at met_at
unbroken_line set s st x point at op d =
    record {
      room = each_line (λ t. too_much (case_of set s st x (line_of point t at op)) ≡ false) refl refl d;
      place = each_line (λ t. no_place (case_of set s st x (line_of point t at op)) ≡ false) refl refl d;
      sound = λ r. each_line (λ t. own_or (case_of set s st x (line_of point t at op)).made r ≡ r) refl refl d;
      met = each_line (λ t. (case_of set s st x (line_of point t at op)).met ≡ nothing) refl refl d;
    }

-- the arm after it
module _ (set : Setting) (opened : Bool) (s : List ℕ) (point at op n : ℕ) (q : Page) where
  abbrev seen : ℕ → Seen
  seen tag = walk (record { motif = 0; op = line_of point tag at op; act = act_of set s (line_of point tag at op) } ∷ []) (from q n)

  page-line : {tag : ℕ} → Drawn tag → q ≡ (seen tag).page
  unfolding walk step from act_of effect_of done
  page-line drawn_path = refl
  page-line drawn_rel = refl

  -- no rule of the arm's is broken, where the cursor is set and fewer than 1,000,000 were performed
  code-line : {tag : ℕ} → Drawn tag → q.cursor ≡ true → n < 1_000_000 → code_of opened false (seen tag) ≡ 0
  unfolding walk step from act_of effect_of needs_cursor needs_space among code_of risen
  code-line drawn_path e k = rw (e, le-ltb 1_000_000 (suc n) k)
  code-line drawn_rel e k = rw (e, le-ltb 1_000_000 (suc n) k)

  moves-line : {tag : ℕ} {p : Code.Page} → Drawn tag → PageHolds p q → p.cursor ≡ true → n < 1_000_000 → Moves opened false (Ok (record { page = p; performed = n + 1 })) (seen tag)
  unfolding walk step from
  moves-line {p = p} d h e k = moves_to (code-line d (ap (λ (x : Page). x.cursor) (sym h.same) ∙ e) k) (rw (page-line d) at h) (add-one n)

line-no_call : {tag : ℕ} → Drawn tag → eqb tag 0x5e ≡ false
line-no_call d = each_line (λ t. eqb t 0x5e ≡ false) refl refl d

-- it selects nothing
selects-line : (set : Setting) (s : List ℕ) (point at op : ℕ) {tag : ℕ} → Drawn tag → (act_of set s (line_of point tag at op)).select ≡ no_pattern
unfolding act_of select_of
selects-line set s point at op d = each_line (λ t. (act_of set s (line_of point t at op)).select ≡ no_pattern) refl refl d

pub judged-line : (set : Setting) (s : List ℕ) (st : State) (x : Session) (point at op : ℕ) {tag : ℕ} {q : Page} {p : Code.Page} → Drawn tag → PageHolds p q → p.cursor ≡ true → st.performed < 1_000_000
    → q ≡ page_of x.busy → Judgement (case_of set s st x (line_of point tag at op)) outer (Ok (record { page = p; performed = st.performed + 1 }))
judged-line set s st x point at op {tag} {q} {p} d h c k e =
    plain-judged set s st x (line_of point tag at op) x.opened st.performed (Ok (record { page = p; performed = st.performed + 1 })) refl refl (unbroken_line set s st x point at op d)
    (line-no_call d) false (selects-none set s st x (line_of point tag at op) (line-no_call d) (selects-line set s point at op d))
    (rw e at (moves-line set x.opened s point at op st.performed q d h c k))

-- the session stays in the page, with nothing open
pub place-line : (set : Setting) (s : List ℕ) (point at op : ℕ) (u : Unmoved) (opened : Bool) (p q : Page) {tag : ℕ} → Drawn tag
    → place_after set s (line_of point tag at op) p (drawn-on u opened q) ≡ drawn-on u opened p
unfolding place_after session_after defined_after picture_after reads_rows
place-line set s point at op u opened p q d =
    each_line (λ t. place_after set s (line_of point t at op) p (drawn-on u opened q) ≡ drawn-on u opened p) refl refl d
