-- No looking ahead: the start of a job is judged as the of-whole job is, operator by operator, until its end cuts it off.
-- Assumes nothing.
use Prim.Native.Nat.{ℕ, zero, suc, ◌+◌, ◌-◌, ◌≤◌, ◌<◌}
use mathlib.Core.Path.{◌≡◌, refl, ap, ◌∙◌, subst, subst⁻¹}
use mathlib.Core.Bool.{Bool, true, false, ◌&&◌, ◌||◌}
use mathlib.Core.List.{List, [], ◌∷◌, ◌++◌}
use native.Mathlib.Omega.{arith}
use borrow.Author.Tests.{leb-true, le-ltb, ltb-false}
use lib.ListN.{length, get_or, length-append, get_or-append}
use lib.Dec.{ltb, leb, eqb}
use Rattle.scope.specs.Choice.{pick, among}
use Rattle.scope.specs.Iterate.{onward}
use Rattle.scope.specs.Header.{Class, Form, ends, breaks, Header, may_stand, form_from, classed, header_of}
use Rattle.scope.specs.Reading.{Operator, Read}
use Rattle.scope.specs.Motif.{Judged}
use Rattle.scope.specs.Setting.{Setting}
use Rattle.scope.specs.Session.{Place, outside, inside}
use Rattle.scope.specs.Judge.{State, Outcome, Refusal, case_of, after, rules, first_broken, outer, end_at, on_refusal, on_case, on_read, context_of, job_step, judged_from, starting}
use Rattle.scope.specs.Verdict.{every, judged_after, Entry, entry_of, outcome_at, outcome_of, verdict_of}
use Rattle.scope.specs.Runs.{case_at, next}
use Rattle.scope.specs.Claims.{cut_off, StartOf, InnerSays, NoLookingAhead, Cuts}
use Rattle.scope.proofs.Ends.{pick_all, GoodRead, read-good}
use Rattle.scope.proofs.Falls.{judged-step}
use Rattle.scope.proofs.Codes.{GoodJudged, motif-good, not-coded}
use Rattle.scope.proofs.Says.{akin_refl, Says, LikePlace, same_place, uncounted, case_like, place-like}
use Rattle.scope.proofs.Beside.{equal_broken}
use Rattle.scope.proofs.AheadRead.{OpIn, CutRead, ShortRead, value-in_cut, bytes_cut, stretch_cut, read-cut}
use Rattle.scope.proofs.Told.{inner-known}

module _ (u v : List ℕ) where
  abbrev w : List ℕ
  w = u ++ v

  -- an operator all of which stands in u says the same in both
  op-says : (high : Bool) (o : Operator) → OpIn u v o → Says high high u w o o
  op-says high o i =
      record {
        tag = refl;
        reads = refl;
        size = refl;
        many = refl;
        there = λ n. refl;
        value = λ n _. value-in_cut u v high n i.attrs;
        name = bytes_cut u v 139 i.attrs;
        block = stretch_cut u v o.length o.first i.block;
      }

  module _ (set : Setting) (room : ℕ) where
    -- so it is judged the same, and the state after it is the same
    pub broken-same : (st : State) (o : Operator) → OpIn u v o → first_broken every (case_at set u st o) (rules room) ≡ first_broken every (case_at set w st o) (rules room)
    broken-same st o i =
        equal_broken every every (λ k _. refl) room room (case_like set set akin_refl u w o o (op-says set.high o i) st st refl) (λ _. refl) refl refl refl

    pub next-same : (st : State) (o : Operator) → OpIn u v o → next set u st o ≡ next set w st o
    unfolding after case_of uncounted
    next-same st o i =
        let z = op-says set.high o i in
        let c = case_like set set akin_refl u w o o z st st refl in
        let q : LikePlace (Unit {0}) st.place st.place = same_place in
        let p = place-like set set akin_refl u w o o z (case_at set u st o).seen.page (case_at set w st o).seen.page (ap (λ x. x.page) c.seen) q in
        let k = c.count in
        let n : (case_at set u st o).seen.count ≡ (case_at set w st o).seen.count = omega arith in
        λ j. record { at = o.next; place = p j; performed = n j; records = (case_at set u st o).records; past = o ∷ st.past }

    abbrev of-start : State → Outcome
    of-start = judged_from every set u room

    abbrev of-whole : State → Outcome
    of-whole = judged_from every set w room

    end-cut : (st : State) (p : Place) (f : Outcome) → StartOf u (end_at u st p) f
    unfolding end_at
    end-cut st (outside true) f = StartOf.passes refl
    end-cut st (outside false) f = StartOf.cut refl refl
    end-cut st (inside x) f = StartOf.cut refl refl

    module _ (n : ℕ) (ih : (st : State) → st.at ≤ length u → length u - st.at < n → StartOf u (of-start st) (of-whole st)) (st : State) where
      by-rule : (o : Operator) → OpIn u v o → length u - o.next < n → (f : Refusal) → first_broken every (case_at set u st o) (rules room) ≡ f
          → StartOf u (onward of-start (on_refusal set u st (case_at set u st o) f)) (onward of-whole (on_refusal set w st (case_at set w st o) f))
      unfolding on_refusal
      by-rule o i h Refusal.none e = subst (λ x. StartOf u (of-start (next set u st o)) (of-whole x)) (next-same st o i) (unfold after case_of in ih (next set u st o) i.ends h)
      by-rule o i h (Refusal.refused code inner) e = StartOf.same (unfold case_of in refl)

      by-case : (o : Operator) → OpIn u v o → length u - o.next < n
          → StartOf u (onward of-start (on_read every set u room st (Read.operator o))) (onward of-whole (on_read every set w room st (Read.operator o)))
      unfolding on_read on_case
      by-case o i h =
          subst (λ f. StartOf u (onward of-start (on_refusal set u st (case_at set u st o) (first_broken every (case_at set u st o) (rules room)))) (onward of-whole (on_refusal set w st (case_at set w st o) f)))
          (broken-same st o i) (by-rule o i h (first_broken every (case_at set u st o) (rules room)) refl)

      on-cut : length u - st.at < suc n → {may : ℕ → Bool} {x y : Read} → GoodRead (length u) st.at may x → CutRead u v x y
          → StartOf u (onward of-start (on_read every set u room st x)) (onward of-whole (on_read every set w room st y))
      unfolding on_read
      on-cut h (GoodRead.operator {o = o} a b m) (CutRead.both i) = let k : length u - o.next < n = omega arith in by-case o i k
      on-cut h g CutRead.same = StartOf.same refl
      on-cut h g (CutRead.lost {x = x} {y = y} a b) = by x a
        where
          by : (x : Read) → ShortRead u v x → StartOf u (onward of-start (on_read every set u room st x)) (onward of-whole (on_read every set w room st y))
          by (Read.operator o) k = absurd k
          by Read.ended k = end-cut st st.place _
          by (Read.no code place) k = StartOf.cut k refl

    cut-from : (n : ℕ) (st : State) → st.at ≤ length u → length u - st.at < n → StartOf u (of-start st) (of-whole st)
    unfolding job_step
    cut-from zero st h k = absurd (omega arith)
    cut-from (suc n) st h k =
        let c = context_of every set st.place in
        subst⁻¹ (λ x. StartOf u x (of-whole st)) (judged-step every set u room st)
        (subst⁻¹ (λ y. StartOf u (onward of-start (job_step every set u room st)) y) (judged-step every set w room st)
        (on-cut n (cut-from n) st k (read-good c u st.at) (read-cut u v c st.at h)))

-- a form that ends, ends behind a place
abbrev FormPast : ℕ → Form → Type 0
FormPast i (ends n) = i < n
FormPast i (breaks k) = Unit {0}

form-back : (i : ℕ) (f : Form) → FormPast (suc i) f → FormPast i f
form-back i (ends n) h = omega arith
form-back i (breaks k) h = tt

form-past : (i : ℕ) (l : List ℕ) → FormPast i (form_from i l)
unfolding form_from
form-past i [] = tt
form-past i (b ∷ bs) = by (may_stand i b) (leb 15 i && eqb b 0x0a) (form-back i (form_from (suc i) bs) (form-past (suc i) bs))
  where
    by : (x y : Bool) → FormPast i (form_from (suc i) bs)
        → FormPast i (elim x [ false ↦ breaks i | true ↦ elim y [ true ↦ ends (suc i) | false ↦ form_from (suc i) bs ] ])
    by false y h = tt
    by true true h = let z : i < suc i = omega arith in z
    by true false h = h

-- the form of a header: it ends within u, it breaks at the same place in both, or the end of u cuts it off
data FormCut (i : ℕ) (u : List ℕ) : Form → Form → Type 0 where
  ended : {n : ℕ} → 16 ≤ n → n ≤ i + length u → FormCut i u (ends n) (ends n)
  broken : {k : ℕ} → FormCut i u (breaks k) (breaks k)
  cut_short : {f : Form} → FormPast (i + length u) f → FormCut i u (breaks (i + length u)) f

form-up : {i : ℕ} {b : ℕ} {bs : List ℕ} {f g : Form} → FormCut (suc i) bs f g → FormCut i (b ∷ bs) f g
form-up {i} {b} {bs} (ended {n = n} h k) = let l : n ≤ i + length (b ∷ bs) = omega arith in ended h l
form-up broken = broken
form-up {i} {b} {bs} (cut_short {f = f} h) =
    let e : suc i + length bs ≡ i + length (b ∷ bs) = omega arith in
    subst⁻¹ (λ k. FormCut i (b ∷ bs) (breaks k) f) e (cut_short (subst (λ k. FormPast k f) e h))

both_true : (a b : Bool) → (a && b) ≡ true → a ≡ true
both_true true b e = refl
both_true false b e = e

form-cut : (i : ℕ) (u v : List ℕ) → FormCut i u (form_from i u) (form_from i (u ++ v))
unfolding form_from
form-cut i [] v =
    let e : i ≡ i + 0 = omega arith in
    subst⁻¹ (λ k. FormCut i [] (breaks k) (form_from i v)) e (cut_short (subst (λ k. FormPast k (form_from i v)) e (form-past i v)))
form-cut i (b ∷ bs) v = by (may_stand i b) (leb 15 i && eqb b 0x0a) refl (form-cut (suc i) bs v)
  where
    by : (x y : Bool) → (leb 15 i && eqb b 0x0a) ≡ y → FormCut (suc i) bs (form_from (suc i) bs) (form_from (suc i) (bs ++ v))
        → FormCut i (b ∷ bs) (elim x [ false ↦ breaks i | true ↦ elim y [ true ↦ ends (suc i) | false ↦ form_from (suc i) bs ] ])
        (elim x [ false ↦ breaks i | true ↦ elim y [ true ↦ ends (suc i) | false ↦ form_from (suc i) (bs ++ v) ] ])
    by false y e h = broken
    by true true e h =
        let l = leb-true 15 i (both_true (leb 15 i) (eqb b 0x0a) e) in
        let p : 16 ≤ suc i = omega arith in
        let q : suc i ≤ i + length (b ∷ bs) = omega arith in
        ended p q
    by true false e h = form-up h

-- a header that is there ends behind a place
abbrev pub HeaderPast : ℕ → Header → Type 0
HeaderPast i (Header.is class high next) = i < next
HeaderPast i (Header.no code place) = Unit {0}

-- the same header in both, within u; the same refusal; or the end of u cuts it off
pub data HeaderCut (u : List ℕ) : Header → Header → Type 0 where
  alike : {class : Class} {high : Bool} {next : ℕ} → next ≤ length u → HeaderCut u (Header.is class high next) (Header.is class high next)
  refused : {code place : ℕ} → HeaderCut u (Header.no code place) (Header.no code place)
  header_short : {h : Header} → HeaderPast (length u) h → HeaderCut u (Header.no 2 (length u)) h

classed-past : (i : ℕ) (s : List ℕ) (f : Form) → FormPast i f → HeaderPast i (classed s f)
unfolding classed
classed-past i s (ends n) h =
    pick_all (HeaderPast i) (eqb (get_or s 12 0) 0x31 && eqb (get_or s 14 0) 0x31) (λ _. h)
    (λ _. pick_all (HeaderPast i) (eqb (get_or s 12 0) 0x32 && eqb (get_or s 14 0) 0x31) (λ _. h) (λ _. tt))
classed-past i s (breaks k) h = tt

classed-cut : (u v : List ℕ) {f g : Form} → FormCut 0 u f g → HeaderCut u (classed u f) (classed (u ++ v) g)
unfolding classed
classed-cut u v (ended {n = n} h k) =
    rw (get_or-append u v 0 0 (omega arith), get_or-append u v 0 12 (omega arith), get_or-append u v 0 14 (omega arith))
    (by (eqb (get_or u 12 0) 0x31 && eqb (get_or u 14 0) 0x31) (eqb (get_or u 12 0) 0x32 && eqb (get_or u 14 0) 0x31))
  where
    said : Bool → Bool → Header
    said a b = pick a (Header.is Class.one (eqb (get_or u 0 0) 0x28) n) (pick b (Header.is Class.two (eqb (get_or u 0 0) 0x28) n) (Header.no 4 12))

    by : (a b : Bool) → HeaderCut u (said a b) (said a b)
    by true b = let l : n ≤ length u = omega arith in alike l
    by false true = let l : n ≤ length u = omega arith in alike l
    by false false = refused
classed-cut u v broken = refused
classed-cut u v (cut_short {f = f} h) =
    let e : 0 + length u ≡ length u = omega arith in
    subst⁻¹ (λ k. HeaderCut u (Header.no 2 k) (classed (u ++ v) f)) e (header_short (classed-past (length u) (u ++ v) f (subst (λ k. FormPast k f) e h)))

pub header-cut : (u v : List ℕ) → HeaderCut u (header_of u) (header_of (u ++ v))
unfolding header_of
header-cut [] v = unfold form_from classed in header_short (pick_all (HeaderPast 0) (eqb (get_or v 0 0) 0x27) (λ _. tt) (λ _. classed-past 0 v (form_from 0 v) (form-past 0 v)))
header-cut (b ∷ bs) v = by (eqb b 0x27)
  where
    by : (x : Bool) → HeaderCut (b ∷ bs) (pick x (Header.no 3 0) (classed (b ∷ bs) (form_from 0 (b ∷ bs)))) (pick x (Header.no 3 0) (classed (b ∷ (bs ++ v)) (form_from 0 (b ∷ (bs ++ v)))))
    by true = refused
    by false = classed-cut (b ∷ bs) v (form-cut 0 (b ∷ bs) v)

after-header : (gray : Bool) (u v : List ℕ) (room : ℕ) {g h : Header} → HeaderCut u g h → StartOf u (judged_after gray every u room g) (judged_after gray every (u ++ v) room h)
unfolding judged_after
after-header gray u v room (alike {class = class} {high = high} {next = next} k) =
    cut-from u v (record { class = class; high = high; gray = gray }) room (suc (length u - next)) (starting next) k (omega arith)
after-header gray u v room refused = StartOf.same refl
after-header gray u v room (header_short h) = StartOf.in_header refl refl refl

pub no-looking_ahead : NoLookingAhead
unfolding outcome_of entry_of outcome_at
no-looking_ahead gray u v work room h =
    let e = length-append u v in
    rw (le-ltb 61440 (length u) (omega arith), le-ltb 61440 (length (u ++ v)) h) (by (ltb work 16384))
  where
    by : (b : Bool) → StartOf u (outcome_at gray every u room (pick b (Entry.refused 29 0) Entry.admitted)) (outcome_at gray every (u ++ v) room (pick b (Entry.refused 29 0) Entry.admitted))
    by true = StartOf.same refl
    by false = after-header gray u v room (header-cut u v)

-- a job that passes is not too long
let_in : (gray : Bool) (job : List ℕ) (work room : ℕ) → (verdict_of gray job work room).code ≡ 0 → length job ≤ 61440
unfolding verdict_of outcome_of entry_of outcome_at
let_in gray job work room pass = by (ltb work 16384) (ltb 61440 (length job)) refl pass
  where
    by : (a b : Bool) → ltb 61440 (length job) ≡ b → (outcome_at gray every job room (pick a (Entry.refused 29 0) (pick b (Entry.refused 1 61440) Entry.admitted))).code ≡ 0
        → length job ≤ 61440
    by true b e k = absurd (omega arith)
    by false true e k = absurd (omega arith)
    by false false e k = ltb-false 61440 (length job) e

-- with a pass no motif is at fault
passes-outer : (set : Setting) (job : List ℕ) (e : Outcome) → InnerSays set job e → e.code ≡ 0 → e.inner ≡ outer
passes-outer set job e (InnerSays.nothing h) k = h
passes-outer set job e (InnerSays.of_motif m i t) k = by (subst GoodJudged m (motif-good set _))
  where
    by : GoodJudged (Judged.faulty e.code e.inner) → e.inner ≡ outer
    by (GoodJudged.ill c) = not-coded e.code c k

early-code : (k : ℕ) → cut_off k ≡ true → among (0 ∷ 2 ∷ 5 ∷ 27 ∷ []) k ≡ true
unfolding among
early-code k e = by (eqb k 0) (eqb k 2) (eqb k 5) (eqb k 27) e
  where
    by : (a b c d : Bool) → (c || d) ≡ true → pick a true (pick b true (pick c true (pick d true false))) ≡ true
    by true b c d e = refl
    by false true c d e = refl
    by false false true d e = refl
    by false false false true e = refl
    by false false false false e = e

cuts-of : (set : Setting) (start : List ℕ) (e f : Outcome) → InnerSays set start e → StartOf start e f → f.code ≡ 0 → (among (0 ∷ 2 ∷ 5 ∷ 27 ∷ []) e.code ≡ true) × (e.inner ≡ outer)
unfolding among
cuts-of set start e f i (StartOf.same s) k = let z : e.code ≡ 0 = ap (λ x. x.code) s ∙ k in (rw z refl, passes-outer set start e i z)
cuts-of set start e f i (StartOf.passes s) k = (rw s refl, passes-outer set start e i s)
cuts-of set start e f i (StartOf.cut s o) k = (early-code e.code s, o)
cuts-of set start e f i (StartOf.in_header s p o) k = (rw s refl, o)

pub cuts : Cuts
unfolding verdict_of
cuts gray start rest work room pass =
    cuts-of _ start (outcome_of gray every start work room) (outcome_of gray every (start ++ rest) work room) (inner-known gray start work room)
    (no-looking_ahead gray start rest work room (let_in gray (start ++ rest) work room pass)) pass
