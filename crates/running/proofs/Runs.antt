-- A run of operators: the definition goes as far as the code.
-- Assumes nothing.
use Prim.Native.Nat.{ℕ, suc, ◌+◌, ◌*◌, ◌≤◌, ◌<◌}
use mathlib.Core.Path.{◌≡◌, refl, sym, ap, ◌∙◌, subst, subst⁻¹}
use mathlib.Core.Bool.{Bool, true}
use mathlib.Core.List.{List, []}
use native.Mathlib.Omega.{arith}
use native.Mathlib.Numerals.{add-one}
use lib.ListN.{length, get_or}
use lib.Dec.{leb}
use Rattle.scope.specs.Item.{after}
use Rattle.scope.specs.Reading.{Context, Operator, Read, operator_at}
use Rattle.scope.specs.Arm.{Page}
use Rattle.scope.specs.Motif.{Picture}
use Rattle.scope.specs.Setting.{Setting}
use Rattle.scope.specs.Session.{Session, Busy, Place, drawing, inside, phase_drawing, phase_busy, phase_of, place_after}
use Rattle.scope.specs.Judge as scope
use Rattle.scope.specs.Judge.{context_of, case_of, judged_from, outer}
use Rattle.scope.specs.Verdict.{every}
use Rattle.scope.proofs.White.{read-after}
use Rattle.scope.proofs.ExchangeEdges.{after-again}
use Rattle.page.specs.Alone.{Leaves, leaves_to}
use Rattle.page.specs.Holds.{PageHolds}
use Rattle.page.specs.declared.page.Page as Code
use Rattle.std.specs.Prelude.{Some, Ok}
use Rattle.end_point.specs.EndPoint.{line_of, Line}
use Rattle.end_point.proofs.EndPoint.{read-line, line-drawn}
use Rattle.buffer.specs.Over.{over}
use Rattle.listed.specs.Listed.{records_for}
use Rattle.motif.specs.Stored.{Stored}
use Rattle.motif.specs.declared.kept.Kept.{Kept}
use Rattle.order.specs.declared.picture.Picture.TheVariants.{Nothing}
use Rattle.place.specs.Places.{Hatches, none_place, BusyHolds, drawing_holds, PlaceHolds, inside_holds}
use Rattle.place.specs.declared.place.Busy.TheVariants.{Drawing}
use Rattle.place.specs.declared.place.Place.TheVariants.{Inside}
use Rattle.ruling.specs.Judged.{Judgement}
use Rattle.running.specs.Running.{in_session, Reaches, Runs}
use Rattle.state.specs.Standing.{Lent, Stands}
use Rattle.running.specs.declared.running.Run.{Run}
use Rattle.state.specs.declared.state.State.{State}
use Rattle.running.proofs.Alone.{Unmoved, drawing-on, drawn-on, alone, read-alone, judged-alone, place-alone}
use Rattle.running.proofs.EndPoint.{judged-line, place-line}
use Rattle.ruling.proofs.Turns.{turned-go, listed-go, steps-read}
use Rattle.ruling.proofs.Judgements.{judged-rules, judged-page, judged-count}

-- one run after another
pub runs_then : {job a b c : List ℕ} {high : Bool} {r s t : State} → Runs job high a b r s → Runs job high b c s t → Runs job high a c r t
runs_then f g =
    record {
      long = g.long ∙ f.long;
      on = omega arith;
      within = λ h. g.within (f.within h);
      counted = omega arith;
      leads = λ list₀ table patterns work set d order e h.
          let x = f.leads list₀ table patterns work set d order e h in
          let y = g.leads list₀ table patterns work set x.there order (e ∙ sym f.long) x.stands in
          record { there = y.there; stands = y.stands; judged = y.judged ∙ x.judged };
    }

-- the definition's place is a session in a page with nothing open, and the code keeps it whatever the page is
record InPage (set : Setting) (job work t n : List ℕ) (opened : Bool) (kept : Kept) (p : Code.Page) (place : Place) : Type 0 where
  unmoved : Unmoved
  page : Page
  is : drawn-on unmoved opened page ≡ place
  holds : PageHolds p page
  keeps : (r : Code.Page) (q : Page) → PageHolds r q → PlaceHolds set job work t n (Inside opened kept (Drawing r Nothing)) (drawn-on unmoved opened q)

module _ {set : Setting} {job work t n : List ℕ} {opened : Bool} {kept : Kept} {p : Code.Page} where
  in_busy : (x : Session) (y : Busy) → x.busy ≡ y → opened ≡ x.opened → kept.used ≤ 16384 → Stored set work t kept x.held → Hatches n x.held x.patterns
      → BusyHolds job work n kept x.held (Drawing p Nothing) y → InPage set job work t n opened kept p (inside x)
  in_busy x y f e u k w (drawing_holds {q = q} {ns = ns} g v c l z) =
      let b : drawing q ns Picture.none ≡ x.busy = ap (drawing q ns) v ∙ sym f in
      record {
        unmoved = record { motifs = x.held; of_session = x.patterns; of_page = ns };
        page = q;
        is = λ i. inside (record { held = x.held; opened = e i; patterns = x.patterns; busy = b i });
        holds = g;
        keeps = λ r z m. inside_holds refl u k w (drawing_holds m refl c l none_place);
      }

  in_page : {place : Place} → PlaceHolds set job work t n (Inside opened kept (Drawing p Nothing)) place → InPage set job work t n opened kept p place
  in_page (inside_holds {x = x} e u k w y) = in_busy x x.busy refl e u k w y

-- one operator more, from the run r to the run t
module _ (job list₀ table patterns work list list₁ : List ℕ) (set : Setting) (opened : Bool) (kept : Kept) (r t : Run) (o : Operator) where
  abbrev l : Lent
  l = record { table = table; patterns = patterns; work = work; list = list }

  abbrev l₁ : Lent
  l₁ = record { table = table; patterns = patterns; work = work; list = list₁ }

  abbrev here : Place → List Operator → scope.State
  here place past = record { at = r.at; place = place; performed = r.performed; records = r.records; past = past }

  -- it is read where r stands, breaks no rule, and leaves the session in its page
  pub record Passes (u : Unmoved) (past : List Operator) (q : Page) : Type 0 where
    pub read : operator_at (context_of every set (drawn-on u opened q)) job r.at ≡ Read.operator o
    pub judged : Judgement (case_of set job (here (drawn-on u opened q) past) (drawing-on u opened q) o) outer
        (Ok (record { page = t.page; performed = t.performed }))
    pub stays : (p : Page) → place_after set job o p (drawn-on u opened q) ≡ drawn-on u opened p

  module _ (n : ℕ) (many : n ≡ length o.attrs) (same : length list₀ ≡ length list) (next : t.at ≡ o.next) (more : t.records ≡ r.records + n + 1)
      (room : true ≡ leb ((r.records + suc n) * 16) (length list))
      (listed : list₁ ≡ over list (r.records * 16) (records_for o.tag o.at o.length o.first o.attrs)) where
    from_place : (u : Unmoved) (past : List Operator) (q : Page) → Passes u past q
        → ((z : Code.Page) (q : Page) → PageHolds z q → PlaceHolds set job work table patterns (Inside opened kept (Drawing z Nothing)) (drawn-on u opened q))
        → Stands set job list₀ l (in_session opened kept r) (here (drawn-on u opened q) past)
        → Reaches job list₀ table patterns work list₁ set (in_session opened kept t) (here (drawn-on u opened q) past)
    from_place u past q passes keeps s =
        let d = here (drawn-on u opened q) past in
        let j = passes.judged in
        let c = case_of set job d (drawing-on u opened q) o in
        let place : PlaceHolds set job work table patterns (in_session opened kept t).place (place_after set job o c.seen.page (drawn-on u opened q)) =
        subst⁻¹ (PlaceHolds set job work table patterns (in_session opened kept t).place) (passes.stays c.seen.page) (keeps t.page c.seen.page (judged-page j)) in
        let z = turned-go job list₀ set (judged_from every set job (length list₀) d) l₁ (in_session opened kept t) d refl
        (steps-read set d o passes.read
        (listed-go job list₀ l (in_session opened kept r) d set o n s many same (judged-rules j (length list₀)) l₁ (in_session opened kept t) room next place (judged-count j) more listed
        refl)) in
        record { there = z.0; stands = z.1.0; judged = z.1.1 }

    pub one_more : ((u : Unmoved) (past : List Operator) (q : Page) → PageHolds r.page q → Passes u past q)
        → (d : scope.State) → Stands set job list₀ l (in_session opened kept r) d → Reaches job list₀ table patterns work list₁ set (in_session opened kept t) d
    one_more passes d s =
        let i = in_page s.place in
        let e : here (drawn-on i.unmoved opened i.page) d.past ≡ d =
        λ k. record { at = s.at k; place = i.is k; performed = s.performed k; records = s.records k; past = d.past } in
        subst (λ x. Stands set job list₀ l (in_session opened kept r) x → Reaches job list₀ table patterns work list₁ set (in_session opened kept t) x) e
        (from_place i.unmoved d.past i.page (passes i.unmoved d.past i.page i.holds) i.keeps) s

-- white space before an operator plays no part in how it is read
read_behind : (c : Context) (s : List ℕ) (from at : ℕ) → at ≡ after s from → operator_at c s from ≡ operator_at c s at
read_behind c s from at e = read-after c s from at (after-again s from ∙ ap (after s) (sym e))

-- an operator that is its tag alone, which stands at `at`
module _ (job list₀ table patterns work list list₁ : List ℕ) (set : Setting) (opened : Bool) (kept : Kept) (r : Run) (at : ℕ) (p : Code.Page) (tag : ℕ) where
  abbrev after-alone : Run
  after-alone = record { at = at + 1; page = p; performed = r.performed + 1; records = r.records + 1 }

  passes-alone : at ≡ after job r.at → at < length job → get_or job at 0 ≡ tag → r.performed < 1_000_000 → (u : Unmoved) (past : List Operator) (q : Page) → Leaves tag q (Some p)
      → Passes job list₀ table patterns work list list₁ set opened kept r after-alone (alone tag at) u past q
  unfolding context_of phase_of phase_busy phase_drawing
  passes-alone white h byte few u past q (leaves_to a k) =
      record {
        read = read_behind (context_of every set (drawn-on u opened q)) job r.at at white ∙ read-alone set opened job at a h byte;
        judged = judged-alone set job (record { at = r.at; place = drawn-on u opened q; performed = r.performed; records = r.records; past = past })
            (drawing-on u opened q) at a k few refl;
        stays = λ z. place-alone set job at u opened z a;
      }

  pub one-alone : at ≡ after job r.at → at < length job → get_or job at 0 ≡ tag → r.performed < 1_000_000 → length list₀ ≡ length list
      → true ≡ leb ((r.records + 1) * 16) (length list) → list₁ ≡ over list (r.records * 16) (records_for tag at 0 0 [])
      → ((q : Page) → PageHolds r.page q → Leaves tag q (Some p))
      → (d : scope.State) → Stands set job list₀ (record { table = table; patterns = patterns; work = work; list = list }) (in_session opened kept r) d
      → Reaches job list₀ table patterns work list₁ set (in_session opened kept after-alone) d
  one-alone white h byte few same room listed leaves =
      one_more job list₀ table patterns work list list₁ set opened kept r after-alone (alone tag at) 0 refl same (add-one at) (omega arith) room listed
      (λ u past q k. passes-alone white h byte few u past q (leaves q k))

-- a line by its end point, from `at` on
module _ (job list₀ table patterns work list list₁ : List ℕ) (set : Setting) (opened : Bool) (kept : Kept) (r : Run) (at op : ℕ) where
  abbrev after_line : Run
  after_line = record { at = op + 1; page = r.page; performed = r.performed + 1; records = r.records + 2 }

  abbrev line : Operator
  line = line_of (get_or job at 0) (get_or job op 0) at op

  passes_line : at ≡ after job r.at → Line set.high job at op → r.performed < 1_000_000 → r.page.cursor ≡ true → (u : Unmoved) (past : List Operator) (q : Page) → PageHolds r.page q
      → Passes job list₀ table patterns work list list₁ set opened kept r after_line line u past q
  unfolding context_of phase_of phase_busy phase_drawing
  passes_line white h few cursor u past q k =
      record {
        read = read_behind (context_of every set (drawn-on u opened q)) job r.at at white ∙ read-line set opened (length q.saved) job at op h;
        judged = judged-line set job (record { at = r.at; place = drawn-on u opened q; performed = r.performed; records = r.records; past = past })
            (drawing-on u opened q) (get_or job at 0) at op (line-drawn h) k cursor few refl;
        stays = λ z. place-line set job (get_or job at 0) at op u opened z q (line-drawn h);
      }

  pub one_line : at ≡ after job r.at → Line set.high job at op → r.performed < 1_000_000 → r.page.cursor ≡ true → length list₀ ≡ length list
      → true ≡ leb ((r.records + 2) * 16) (length list) → list₁ ≡ over list (r.records * 16) (records_for (get_or job op 0) op 0 0 line.attrs)
      → (d : scope.State) → Stands set job list₀ (record { table = table; patterns = patterns; work = work; list = list }) (in_session opened kept r) d
      → Reaches job list₀ table patterns work list₁ set (in_session opened kept after_line) d
  one_line white h few cursor same room listed =
      one_more job list₀ table patterns work list list₁ set opened kept r after_line line 1 refl same (add-one op) (omega arith) room listed (passes_line white h few cursor)
