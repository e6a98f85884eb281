-- One operator of a job: after it the code stands where the definition stands, or both have ended with the same verdict and list.
-- Assumes nothing.
use Prim.Native.Nat.{ℕ, suc, ◌+◌, ◌*◌, ◌≤◌}
use mathlib.Core.Path.{◌≡◌, refl, sym, ap, ◌∙◌, subst, subst⁻¹}
use mathlib.Core.Bool.{Bool, true, false}
use mathlib.Core.List.{List, [], ◌∷◌, ◌++◌}
use native.Mathlib.Omega.{arith}
use borrow.Author.Tests.{leb-true, leb-false, lt-ltb, le-ltb}
use lib.ListN.{length, drop, length-append}
use lib.Dec.{leb}
use Rattle.items.specs.Rows.{Sized}
use Rattle.reader.specs.Reads.{operator_as}
use Rattle.reader.specs.declared.reading.Operator as Reader
use Rattle.page.specs.declared.page.Page.{Page}
use Rattle.gathering.specs.Afterwards as Afterwards
use Rattle.early.specs.declared.early.Early.{Early}
use Rattle.place.specs.declared.place.Place.{Place}
use Rattle.scope.specs.Choice.{pick}
use Rattle.scope.specs.Iterate.{Next, go, stop, onward}
use Rattle.scope.specs.Order.{Phase, may_come, rows_fit, image_of}
use Rattle.scope.specs.Attributes.{bytes_in}
use Rattle.scope.specs.Reading.{Context, Operator, Read, operator_at}
use Rattle.scope.specs.Session as session
use Rattle.scope.specs.Setting.{Setting}
use Rattle.scope.specs.Session.{session_of, phase_of, place_after}
use Rattle.scope.specs.Judge.{State, Case, case_of, Outcome, Refusal, refused, refused_at, outer, first_broken, rules, room_over, after, end_at, on_refusal, on_case, on_read, context_of, job_step, judged_from, starting}
use Rattle.scope.specs.Verdict as verdict
use Rattle.scope.specs.Verdict.{every}
use Rattle.scope.proofs.Ends.{GoodRead, read-good}
use Rattle.scope.proofs.Taken.{Taken, read_taken}
use Rattle.scope.proofs.Falls.{judged-step}
use Rattle.buffer.specs.Over.{over}
use Rattle.listed.specs.Listed.{BytesIn, records_for}
use Rattle.listed.proofs.Listed.{listed_more, records_before-more, length-records_for}
use Rattle.place.specs.Places.{PlaceHolds}
use Rattle.state.specs.Views.{verdict_as}
use Rattle.state.specs.Standing.{Listed, Lent, Stands, Steps, steps_go, steps_stop, Comes, end_code}
use Rattle.state.specs.declared.verdict.Verdict.{Verdict}
use Rattle.state.specs.declared.state.State as Code
use Rattle.std.specs.declared.ops.ControlFlow.{ControlFlow}
use Rattle.std.specs.declared.ops.ControlFlow.TheVariants.{Continue, Break}
use Rattle.ruling.proofs.Bytes.{bytes-taken}
use Rattle.ruling.proofs.Short.{short-taken}

-- what is known of an operator that was read
module _ (c : Context) (s : List ℕ) (at : ℕ) (o : Operator) (e : operator_at c s at ≡ Read.operator o) where
  may_read : {len at : ℕ} {may : ℕ → Bool} → GoodRead len at may (Read.operator o) → may o.tag ≡ true
  may_read (GoodRead.operator a b k) = k

  pub read-may : may_come c.phase c.opened o.tag ≡ true
  read-may = may_read (subst (λ r. GoodRead (length s) at (may_come c.phase c.opened) r) e (read-good c s at))

  rows-read : Taken c s (Read.operator o) → rows_fit c.set.high s (image_of c.phase) o.tag o.attrs ≡ true
  rows-read (Taken.operator a b k) = k

  pub read-rows : rows_fit c.set.high s (image_of c.phase) o.tag o.attrs ≡ true
  read-rows = rows-read (subst (λ r. Taken c s r) e (read_taken c s at))

  pub read_short : o.tag ≡ 0x5b → length (bytes_in s o.attrs 139) ≤ 16
  read_short = short-taken (subst (λ r. Taken c s r) e (read_taken c s at))

  pub read-bytes : BytesIn o.attrs
  read-bytes = bytes-taken (subst (λ r. Taken c s r) e (read_taken c s at))

-- what the rules come to decides the step
module _ (set : Setting) (s : List ℕ) (room : ℕ) (d : State) (o : Operator) where
  abbrev c : Case
  c = case_of set s d (session_of d.place) o

  pub step-refused : (code inner : ℕ) → first_broken every c (rules room) ≡ refused code inner
      → on_read every set s room d (Read.operator o) ≡ stop (refused_at code o.at inner d)
  unfolding on_read on_case on_refusal case_of
  step-refused code inner e = rw e

  pub step_room : first_broken every c (rules room) ≡ pick (room_over room c) (refused 28 outer) Refusal.none
      → leb ((d.records + suc (length o.attrs)) * 16) room ≡ false → on_read every set s room d (Read.operator o) ≡ stop (refused_at 28 o.at outer d)
  unfolding room_over case_of
  step_room e f =
      let h = leb-false ((d.records + suc (length o.attrs)) * 16) room f in
      step-refused 28 outer (e ∙ ap (λ b. pick b (refused 28 outer) Refusal.none) (lt-ltb room ((d.records + suc (length o.attrs)) * 16) h))

  step-on : first_broken every c (rules room) ≡ Refusal.none → on_read every set s room d (Read.operator o) ≡ go (after set s d c)
  unfolding on_read on_case on_refusal
  step-on e = rw e

  pub step_fits : first_broken every c (rules room) ≡ pick (room_over room c) (refused 28 outer) Refusal.none
      → leb ((d.records + suc (length o.attrs)) * 16) room ≡ true → on_read every set s room d (Read.operator o) ≡ go (after set s d c)
  unfolding room_over case_of
  step_fits e f =
      let h = leb-true ((d.records + suc (length o.attrs)) * 16) room f in
      step-on (e ∙ ap (λ b. pick b (refused 28 outer) Refusal.none) (le-ltb room ((d.records + suc (length o.attrs)) * 16) h))

-- a stop, where the list is kept
pub stopped : {set : Setting} {job list₀ : List ℕ} {l : Lent} {d : State} (v : Verdict) (n : Next State Outcome) (code position inner : ℕ)
    → Listed list₀ d.past l.list → n ≡ stop (refused_at code position inner d) → verdict_as v ≡ verdict.told (refused_at code position inner d) → Steps set job list₀ l (Break v) n
stopped {set} {job} {list₀} {l} {d} v n code position inner h e f =
    subst⁻¹ (λ x. Steps set job list₀ l (Break v) x) e (steps_stop {e = refused_at code position inner d} f h)

-- the list with one operator more
module _ (list₀ list : List ℕ) (past : List Operator) (n : ℕ) (o : Operator) (h : Listed list₀ past list) (k : length (verdict.records_before past []) ≡ n * 16) where
  abbrev new : List ℕ
  new = records_for o.tag o.at o.length o.first o.attrs

  pub counted-more : length (verdict.records_before (o ∷ past) []) ≡ (n + suc (length o.attrs)) * 16
  counted-more =
      ap length (records_before-more o past) ∙ length-append (verdict.records_before past []) new
      ∙ (let a = length-records_for o.tag o.at o.length o.first o.attrs in omega arith)

  pub listed-on : (list₁ : List ℕ) → list₁ ≡ over list (n * 16) new → Listed list₀ (o ∷ past) list₁
  listed-on list₁ e =
      record {
        is = e ∙ listed_more list₀ list (verdict.records_before past []) new n h.is k
            ∙ ap (λ r. r ++ drop (length r) list₀) (sym (records_before-more o past));
      }

-- a step that goes on
pub gone : {job list₀ : List ℕ} {l l₁ : Lent} {st t : Code.State} {d : State} (set : Setting) (o : Operator) (n : Next State Outcome) → Stands set job list₀ l st d
    → n ≡ go (after set job d (case_of set job d (session_of d.place) o)) → t.at ≡ o.next
    → PlaceHolds set job l₁.work l₁.table l₁.patterns t.place
    (place_after set job o (case_of set job d (session_of d.place) o).seen.page d.place)
    → t.performed ≡ (case_of set job d (session_of d.place) o).seen.count → t.records ≡ st.records + length o.attrs + 1
    → l₁.list ≡ over l.list (st.records * 16) (records_for o.tag o.at o.length o.first o.attrs)
    → length l₁.table ≡ length l.table → Steps set job list₀ l₁ (Continue t) n
unfolding after case_of
gone {job} {list₀} {l} {l₁} {st} {t} {d} set o n h e a p c r w x =
    let q : t.records ≡ d.records + suc (length o.attrs) = let z = h.records in omega arith in
    let v : l₁.list ≡ over l.list (d.records * 16) (records_for o.tag o.at o.length o.first o.attrs) =
    w ∙ ap (λ k. over l.list (k * 16) (records_for o.tag o.at o.length o.first o.attrs)) h.records in
    subst⁻¹ (λ z. Steps set job list₀ l₁ (Continue t) z) e
    (steps_go
    (record {
      at = a;
      place = p;
      performed = c;
      records = q;
      counted = counted-more list₀ l.list d.past d.records o h.listed h.counted;
      listed = listed-on list₀ l.list d.past d.records o h.listed h.counted l₁.list v;
      table_long = x ∙ h.table_long;
    }))

-- what reading knows where the definition stands
pub context_is : (set : Setting) (job : List ℕ) (at : ℕ) (d : State) (p : Phase) (b : Bool) → at ≡ d.at → p ≡ phase_of d.place → b ≡ (session_of d.place).opened
    → operator_at (record { set = set; phase = p; opened = b; asked = true }) job at ≡ operator_at (context_of every set d.place) job d.at
unfolding context_of
context_is set job at d p b e f g = λ i. operator_at (record { set = set; phase = f i; opened = g i; asked = true }) job (e i)

module _ (set : Setting) (s : List ℕ) (room : ℕ) (d : State) where
  pub step-no : (code place : ℕ) → operator_at (context_of every set d.place) s d.at ≡ Read.no code place
      → job_step every set s room d ≡ stop (refused_at code place outer d)
  unfolding job_step on_read
  step-no code place e = rw e

  end_is : (q : session.Place) → end_at s d q ≡ refused_at (end_code q) (length s) outer d
  unfolding end_at
  end_is (session.outside true) = refl
  end_is (session.outside false) = refl
  end_is (session.inside x) = refl

  pub step-ended : operator_at (context_of every set d.place) s d.at ≡ Read.ended
      → job_step every set s room d ≡ stop (refused_at (end_code d.place) (length s) outer d)
  unfolding job_step on_read
  step-ended e = rw e (ap stop (end_is d.place))

  pub step-operator : (o : Operator) → operator_at (context_of every set d.place) s d.at ≡ Read.operator o
      → job_step every set s room d ≡ on_read every set s room d (Read.operator o)
  unfolding job_step
  step-operator o e = rw e

-- the walk goes on from where the code goes on, and stops with what the code stops with
module _ (job list₀ : List ℕ) (set : Setting) (end : Outcome) where
  abbrev J : State → Outcome
  J = judged_from every set job (length list₀)

  goes : (l : Lent) (t : Code.State) (n : Next State Outcome) → Steps set job list₀ l (Continue t) n → onward J n ≡ end → (d : State) × (Stands set job list₀ l t d × (J d ≡ end))
  goes l t (stop _) x3 e = elim x3 [ ]
  goes l t (go d) (steps_go h) e = (d, (h, e))

  stops : (l : Lent) (v : Verdict) (n : Next State Outcome) → Steps set job list₀ l (Break v) n → onward J n ≡ end
      → (verdict_as v ≡ verdict.told end) × Listed list₀ end.state.past l.list
  stops l v (go _) x3 e = elim x3 [ ]
  stops l v (stop r) (steps_stop h k) e = (h ∙ ap verdict.told e, subst (λ x. Listed list₀ x.state.past l.list) e k)

  pub turned-go : (l : Lent) (t : Code.State) (d : State) → J d ≡ end → Steps set job list₀ l (Continue t) (job_step every set job (length list₀) d)
      → (d' : State) × (Stands set job list₀ l t d' × (J d' ≡ end))
  turned-go l t d e h = goes l t (job_step every set job (length list₀) d) h (sym (judged-step every set job (length list₀) d) ∙ e)

  pub turned-stop : (l : Lent) (v : Verdict) (d : State) → J d ≡ end → Steps set job list₀ l (Break v) (job_step every set job (length list₀) d)
      → (verdict_as v ≡ verdict.told end) × Listed list₀ end.state.past l.list
  turned-stop l v d e h = stops l v (job_step every set job (length list₀) d) h (sym (judged-step every set job (length list₀) d) ∙ e)

-- before the first item
pub starts : (set : Setting) (job list₀ : List ℕ) (l : Lent) (st : Code.State) (next : ℕ) → st.at ≡ next → PlaceHolds set job l.work l.table l.patterns st.place (session.outside false)
    → st.performed ≡ 0 → st.records ≡ 0 → l.list ≡ list₀ → length l.table ≡ 704 → Stands set job list₀ l st (starting next)
unfolding verdict.records_before
starts set job list₀ l st next a p b c e x =
    record { at = a; place = p; performed = b; records = c; counted = refl; listed = record { is = e }; table_long = x }

-- an operator whose records do not fit, and one whose do
module _ (job list₀ : List ℕ) (l : Lent) (st : Code.State) (d : State) (set : Setting) (o : Operator) (n : ℕ) (h : Stands set job list₀ l st d) (many : n ≡ length o.attrs)
    (same : length list₀ ≡ length l.list)
    (ruled : first_broken every (case_of set job d (session_of d.place) o) (rules (length list₀))
    ≡ pick (room_over (length list₀) (case_of set job d (session_of d.place) o)) (refused 28 outer) Refusal.none) where
  room-is : (b : Bool) → b ≡ leb ((st.records + suc n) * 16) (length l.list) → leb ((d.records + suc (length o.attrs)) * 16) (length list₀) ≡ b
  room-is b e = let t = sym same in sym (e ∙ (λ i. leb ((h.records i + suc (many i)) * 16) (t i)))

  pub listed-no : (list₁ : List ℕ) (v : Verdict) → list₁ ≡ l.list → false ≡ leb ((st.records + suc n) * 16) (length l.list)
      → verdict_as v ≡ verdict.told (refused_at 28 o.at outer d)
      → Steps set job list₀ (record { table = l.table; patterns = l.patterns; work = l.work; list = list₁ }) (Break v) (on_read every set job (length list₀) d (Read.operator o))
  listed-no list₁ v e r f =
      subst⁻¹ (λ x. Steps set job list₀ (record { table = l.table; patterns = l.patterns; work = l.work; list = x }) (Break v) (on_read every set job (length list₀) d (Read.operator o))) e
      (stopped v (on_read every set job (length list₀) d (Read.operator o)) 28 o.at outer h.listed (step_room set job (length list₀) d o ruled (room-is false r)) f)

  pub listed-go : (l₁ : Lent) (t : Code.State) → true ≡ leb ((st.records + suc n) * 16) (length l.list) → t.at ≡ o.next
      → PlaceHolds set job l₁.work l₁.table l₁.patterns t.place
      (place_after set job o (case_of set job d (session_of d.place) o).seen.page d.place)
      → t.performed ≡ (case_of set job d (session_of d.place) o).seen.count → t.records ≡ st.records + n + 1
      → l₁.list ≡ over l.list (st.records * 16) (records_for o.tag o.at o.length o.first o.attrs)
      → length l₁.table ≡ length l.table → Steps set job list₀ l₁ (Continue t) (on_read every set job (length list₀) d (Read.operator o))
  listed-go l₁ t r a p c k w x =
      gone {l = l} {l₁ = l₁} {st = st} {t = t} set o (on_read every set job (length list₀) d (Read.operator o)) h (step_fits set job (length list₀) d o ruled (room-is true r)) a p c
      (k ∙ ap (λ z. st.records + z + 1) many) w x

-- what the session knows of an operator that was read
pub comes-in : (job attrs work t p list₀ : List ℕ) (set : Setting) (d : State) (o : Reader.Operator) (early : Early) (page : Page) (n : ℕ) (place : Place)
    → PlaceHolds set job work t p place d.place → Sized attrs o.count → length t ≡ 704 → 16384 ≤ length work → o.first + o.length ≤ length job
    → Comes t p job list₀ set d (operator_as o attrs) early page n → Afterwards.Comes job attrs set o early page work t p place d.place d
unfolding context_of
comes-in job attrs work t p list₀ set d o early page n place h z x w i m =
    record {
      holds = h;
      sized = z;
      table_long = x;
      room = w;
      within = i;
      may = read-may (context_of every set d.place) job d.at (operator_as o attrs) m.read;
      fits = read-rows (context_of every set d.place) job d.at (operator_as o attrs) m.read;
      short = read_short (context_of every set d.place) job d.at (operator_as o attrs) m.read;
      earlier = m.earlier;
      drawn = m.drawn;
    }

pub comes-bytes : (t p job list₀ : List ℕ) (set : Setting) (d : State) (o : Operator) (early : Early) (page : Page) (n : ℕ) → Comes t p job list₀ set d o early page n → BytesIn o.attrs
comes-bytes t p job list₀ set d o early page n m = read-bytes (context_of every set d.place) job d.at o m.read

-- a step over an operator that was read
pub steps-read : {job list₀ : List ℕ} {l : Lent} {t : ControlFlow Verdict Code.State} (set : Setting) (d : State) (o : Operator) → operator_at (context_of every set d.place) job d.at ≡ Read.operator o
    → Steps set job list₀ l t (on_read every set job (length list₀) d (Read.operator o)) → Steps set job list₀ l t (job_step every set job (length list₀) d)
steps-read {job} {list₀} {l} {t} set d o e h = subst⁻¹ (λ n. Steps set job list₀ l t n) (step-operator set job (length list₀) d o e) h

-- the rules of motifs keep the place, though the row of the motif that is being judged changes and what is known of calls
pub stands-kept : {set : Setting} {job list₀ table p p₁ work list : List ℕ} {st : Code.State} {d : State}
    → ((q : session.Place) → PlaceHolds set job work table p st.place q → PlaceHolds set job work table p₁ st.place q)
    → Stands set job list₀ (record { table = table; patterns = p; work = work; list = list }) st d
    → Stands set job list₀ (record { table = table; patterns = p₁; work = work; list = list }) st d
stands-kept {d = d} f h =
    record {
      at = h.at;
      place = f d.place h.place;
      performed = h.performed;
      records = h.records;
      counted = h.counted;
      listed = record { is = h.listed.is };
      table_long = h.table_long;
    }
