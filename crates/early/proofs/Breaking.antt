-- The rules of motifs and their names, and of places for patterns, by the operator's tag.
-- Assumes nothing.
use Rattle.std.specs.Prelude.{Result, Some, None, Ok, Err}
use Prim.Native.Nat.{ℕ, ◌+◌, ◌≤◌, ◌<◌}
use mathlib.Core.Path.{◌≡◌, refl, sym, ap, ◌∙◌}
use mathlib.Core.Bool.{Bool, true, false, ◌&&◌, ◌||◌}
use mathlib.Core.List.{List, []}
use native.Mathlib.Omega.{arith}
use lib.ListN.{length}
use lib.Dec.{eqb, ltb}
use borrow.Author.Tests.{eq-eqb, ne_eqb, lt-ltb, le-ltb, ltb-false}
use Rattle.scope.specs.Setting.{Setting}
use Rattle.scope.specs.Choice.{among}
use Rattle.scope.specs.Motif.{Motif, Own, bytes_held, hatch_of, Judged, valid, faulty, motif_of}
use Rattle.scope.specs.Calls.{unfolded, Met, nothing, met}
use Rattle.scope.specs.Session.{Session, page_of, joined_of}
use Rattle.scope.specs.Judge.{State, Case, case_of, judged_at, met_at, Refusal, first_broken, own_or, outer, too_much, no_place, numbers_of, some_missing, pattern_missing, name_missing, calls_itself, too_deep, early}
use Rattle.scope.specs.Attributes.{bytes_in}
use Rattle.items.specs.Rows.{rows_of}
use Rattle.reader.specs.Reads.{operator_as}
use Rattle.reader.specs.declared.reading.Operator.{Operator}
use Rattle.order.specs.Pictures.{hatch_as}
use Rattle.order.specs.declared.picture.Hatch.{Hatch}
use Rattle.pattern_rows.specs.Numbers.{OfPage, OfSession, OfMotif, numbers_in, collected}
use Rattle.patterns.specs.Selects.{selects_in, wants_from}
use Rattle.motif.specs.Held.{Finds, finds_at, finds_none}
use Rattle.motif.specs.Stored.{full}
use Rattle.scope.proofs.Placed.{motif-placed}
use Rattle.calls.specs.Judged.{Calls, calls_sum, calls_missing, calls_again, calls_deep}
use Rattle.calls.specs.declared.calls.Called.{Called}
use Rattle.refusal.specs.Codes.{number_of}
use Rattle.refusal.specs.declared.code.Code.{Code}
use Rattle.within.specs.Judging.{Judges, judges_valid, judges_faulty}
use Rattle.within.specs.declared.inside.Made.{Made}
use Rattle.early.proofs.Places.{taken, few-free, again-free, new-taken, place_other, place-begin}
use Rattle.early.proofs.Wanting.{call-wants}
use Rattle.early.specs.Hatched.{Hatched}
use Rattle.early.specs.Earlier.{Earlies, EarliesIn, early_fine, early_call, early_held, early_no}
use Rattle.early.specs.declared.early.Early.{Early}
use Rattle.early.specs.declared.early.Early.TheVariants.{Fine, Call, Held}
use Rattle.refusal.specs.declared.refusal.Refusal.{Refusal as CodeRefusal}
use Rattle.refusal.specs.declared.code.Code.TheVariants as code_is
use Rattle.summary.specs.Sums.{SumsAs}
use Rattle.early.proofs.Full.{first-not, few-full, held-full, new-full}

-- a refusal that is not inside a motif
abbrev pub no : Code → Result Early CodeRefusal
no code = Err (record { code = code; place = outer })

module _ (t p : List ℕ) (c : Case) where
  no-19 : too_much c ≡ true → Earlies t p c (no code_is.NoRoom)
  unfolding first_broken early
  no-19 e = early_no (λ rest. rw e) (omega arith)

  no-33 : too_much c ≡ false → no_place c ≡ true → Earlies t p c (no code_is.PatternsFull)
  unfolding first_broken early
  no-33 a e = early_no (λ rest. rw (a, e)) (omega arith)

  no_own : {r : CodeRefusal} → too_much c ≡ false → no_place c ≡ false → c.made ≡ faulty (number_of r.code) r.place → r.place < 4_294_967_296
      → Earlies t p c (Err r)
  unfolding first_broken early
  no_own a f e l = early_no (λ rest. rw (a, f, e)) l

  -- a call that is refused
  module _ (a : too_much c ≡ false) (f : no_place c ≡ false) (s : (r : Refusal) → own_or c.made r ≡ r) where
    no-21 : c.met.missing ≡ true → Earlies t p c (no code_is.NotHeld)
    unfolding first_broken early name_missing
    no-21 e = early_no (λ rest. rw (a, f) (s _ ∙ rw e)) (omega arith)

    no-32 : c.met.missing ≡ false → c.met.again ≡ true → Earlies t p c (no code_is.Ring)
    unfolding first_broken early name_missing calls_itself
    no-32 m e = early_no (λ rest. rw (a, f) (s _ ∙ rw (m, e))) (omega arith)

    no-22 : c.met.missing ≡ false → c.met.again ≡ false → c.met.deep ≡ true → Earlies t p c (no code_is.Deep)
    unfolding first_broken early name_missing calls_itself too_deep
    no-22 m g e = early_no (λ rest. rw (a, f) (s _ ∙ rw (m, g, e))) (omega arith)

  much : (k l : Bool) → eqb c.op.tag 0x5b ≡ k → eqb c.op.tag 0x5c ≡ l
      → too_much c
      ≡ (k && full c.session.held c.name) || (l && ltb 16384 (bytes_held c.session.held + (length (joined_of c.session.busy) + c.op.length)))
  unfolding too_much full
  much k l e f = rw (e, f)

  pub sound-valid : {ops : List Own} → c.made ≡ valid ops → (r : Refusal) → own_or c.made r ≡ r
  sound-valid e r = rw e

  -- an operator that these rules do not speak of
  other-fine : (c.op.tag ≡ 0x5b → ⊥) → (c.op.tag ≡ 0x5c → ⊥) → (c.op.tag ≡ 0x5d → ⊥) → (c.op.tag ≡ 0x5e → ⊥) → (c.op.tag ≡ 0xb3 → ⊥)
      → c.made ≡ valid [] → c.met ≡ nothing → Earlies t p c (Ok Fine)
  other-fine b r d e h m n =
      early_fine (ne_eqb c.op.tag 0x5e e) (ne_eqb c.op.tag 0x5d d)
      (record { room = much false false (ne_eqb c.op.tag 0x5b b) (ne_eqb c.op.tag 0x5c r); place = place_other c h; sound = sound-valid m; met = n })

-- the same of an operator with these attributes in a session
module _ (set : Setting) (t p job attrs : List ℕ) (x : Session) (o : Operator) where
  abbrev of-it : State → Case
  of-it st = case_of set job st x (operator_as o attrs)

  -- the name that it gives
  abbrev named : List ℕ
  named = bytes_in job (rows_of attrs o.count) 139

  -- nothing is judged but at EndStream, nothing is met but by a call
  made_other : (st : State) → (o.tag ≡ 0x5d → ⊥) → (of-it st).made ≡ valid []
  unfolding case_of judged_at
  made_other st h = rw (ne_eqb o.tag 0x5d h)

  met-other : (st : State) → (o.tag ≡ 0x5e → ⊥) → (of-it st).met ≡ nothing
  unfolding case_of met_at
  met-other st h = rw (ne_eqb o.tag 0x5e h)

  pub fine-in : (o.tag ≡ 0x5b → ⊥) → (o.tag ≡ 0x5c → ⊥) → (o.tag ≡ 0x5d → ⊥) → (o.tag ≡ 0x5e → ⊥) → (o.tag ≡ 0xb3 → ⊥)
      → EarliesIn set t p job attrs x o (Ok Fine)
  unfolding EarliesIn case_of
  fine-in b r d e h = λ st. other-fine t p (of-it st) b r d e h (made_other st d) (met-other st e)

  -- there is a place but for BeginRastPattern
  place-else : (o.tag ≡ 0xb3 → ⊥) → (st : State) → no_place (of-it st) ≡ false
  unfolding case_of
  place-else n st = place_other (of-it st) n

  -- an operator of which but 19 and 33 are to be judged
  room-fine : (o.tag ≡ 0x5d → ⊥) → (o.tag ≡ 0x5e → ⊥) → ((st : State) → too_much (of-it st) ≡ false)
      → ((st : State) → no_place (of-it st) ≡ false) → EarliesIn set t p job attrs x o (Ok Fine)
  unfolding EarliesIn case_of
  room-fine d e f h = λ st.
      early_fine (ne_eqb o.tag 0x5e e) (ne_eqb o.tag 0x5d d)
      (record { room = f st; place = h st; sound = sound-valid t p (of-it st) (made_other st d); met = met-other st e })

  module _ (b : o.tag ≡ 0x5b) where
    much-begin : (st : State) → too_much (of-it st) ≡ full x.held named || false
    unfolding case_of
    much-begin st =
        let nr : o.tag ≡ 0x5c → ⊥ = λ y. omega arith in
        much t p (of-it st) true false (eq-eqb o.tag 0x5b b) (ne_eqb o.tag 0x5c nr)

    begin-fine : full x.held named ≡ false → EarliesIn set t p job attrs x o (Ok Fine)
    begin-fine f =
        let ne : o.tag ≡ 0x5e → ⊥ = λ y. omega arith in
        let nd : o.tag ≡ 0x5d → ⊥ = λ y. omega arith in
        room-fine nd ne (λ st. much-begin st ∙ rw f) (place-else (λ y. omega arith))

    -- BeginStream that is not refused by 19
    pub begin-room : (st : State) → too_much (of-it st) ≡ false → full x.held named ≡ false
    begin-room st f = first-not _ (sym (much-begin st) ∙ f)

    -- BeginStream with a row left, and by what a search for its name finds
    pub begin-few : {n : ℕ} → length x.held ≡ n → n < 64 → EarliesIn set t p job attrs x o (Ok Fine)
    begin-few l h = begin-fine (few-full x.held named (rw l h))

    pub begin-at : {name : List ℕ} {i : ℕ} → name ≡ named → Finds x.held name (Some i) → EarliesIn set t p job attrs x o (Ok Fine)
    begin-at e (finds_at f r) = begin-fine (held-full x.held named (rw e at f))

    pub begin-nowhere : {name : List ℕ} {n : ℕ} → length x.held ≡ n → 64 ≤ n → name ≡ named → Finds x.held name None
        → EarliesIn set t p job attrs x o (no code_is.NoRoom)
    unfolding EarliesIn
    begin-nowhere l h e (finds_none f) =
        let w : full x.held named ≡ true = new-full x.held named (rw l h) (rw e at f) in
        λ st. no-19 t p (of-it st) (much-begin st ∙ rw w)

  module _ (b : o.tag ≡ 0x5c) where
    much-read : (st : State) → too_much (of-it st) ≡ ltb 16384 (bytes_held x.held + (length (joined_of x.busy) + o.length))
    unfolding case_of
    much-read st =
        let nb : o.tag ≡ 0x5b → ⊥ = λ y. omega arith in
        much t p (of-it st) false true (ne_eqb o.tag 0x5b nb) (eq-eqb o.tag 0x5c b)

    -- ReadStream that is not refused by 19
    pub read-few : (st : State) → too_much (of-it st) ≡ false → bytes_held x.held + (length (joined_of x.busy) + o.length) ≤ 16384
    read-few st f = ltb-false _ _ (sym (much-read st) ∙ f)

    -- ReadStream
    pub read_past : 16384 < bytes_held x.held + (length (joined_of x.busy) + o.length) → EarliesIn set t p job attrs x o (no code_is.NoRoom)
    unfolding EarliesIn
    read_past h = λ st. no-19 t p (of-it st) (much-read st ∙ lt-ltb _ _ h)

    pub read-room : bytes_held x.held + (length (joined_of x.busy) + o.length) ≤ 16384 → EarliesIn set t p job attrs x o (Ok Fine)
    read-room h =
        let ne : o.tag ≡ 0x5e → ⊥ = λ y. omega arith in
        let nd : o.tag ≡ 0x5d → ⊥ = λ y. omega arith in
        room-fine nd ne (λ st. much-read st ∙ le-ltb _ _ h) (place-else (λ y. omega arith))

  module _ (nb : o.tag ≡ 0x5b → ⊥) (nr : o.tag ≡ 0x5c → ⊥) where
    not-much : (st : State) → too_much (of-it st) ≡ false
    unfolding case_of
    not-much st = much t p (of-it st) false false (ne_eqb o.tag 0x5b nb) (ne_eqb o.tag 0x5c nr)

  module _ (b : o.tag ≡ 0x5e) where
    exec_much : (st : State) → too_much (of-it st) ≡ false
    exec_much = not-much (λ y. omega arith) (λ y. omega arith)

    exec_place : (st : State) → no_place (of-it st) ≡ false
    exec_place = place-else (λ y. omega arith)

    exec_sound : (st : State) (r : Refusal) → own_or (of-it st).made r ≡ r
    exec_sound st = sound-valid t p (of-it st) (made_other st (λ y. omega arith))

    met-call : (st : State) → (of-it st).met ≡ met x.held 32 [] named
    unfolding case_of met_at
    met-call st = rw (eq-eqb o.tag 0x5e b)

    missing-call : {r : List ℕ} → Hatched r x → (st : State)
        → some_missing (numbers_in r OfPage) (numbers_in r OfSession) (wants_from (unfolded x.held 32 [] named) []) ≡ pattern_missing (of-it st)
    unfolding pattern_missing case_of
    missing-call h st = rw (h.page, h.session, call-wants set job x.held (operator_as o attrs) (page_of x.busy) st.performed b)

    -- ExecStream by what a call comes to
    pub exec_sum : {r name : List ℕ} {m : Called} → Hatched r x → name ≡ named
        → Calls (numbers_in r OfPage) (numbers_in r OfSession) x.held name (Ok m) → EarliesIn set t p job attrs x o (Ok (Call m.sum m.bare))
    unfolding EarliesIn case_of
    exec_sum {r} {m = m} h e (calls_sum k s w) =
        let n : met x.held 32 [] named ≡ nothing = rw e at k in
        let q : SumsAs m.sum (unfolded x.held 32 [] named) = rw e at s in
        let z : m.bare ≡ some_missing (numbers_in r OfPage) (numbers_in r OfSession) (wants_from (unfolded x.held 32 [] named) []) = rw e at w in
        λ st. early_call (eq-eqb o.tag 0x5e b) q (z ∙ missing-call h st)
        (record { room = exec_much st; place = exec_place st; sound = exec_sound st; met = met-call st ∙ n })

    pub exec_no : {u w name : List ℕ} {code : Code} → name ≡ named → Calls u w x.held name (Err code) → EarliesIn set t p job attrs x o (no code)
    unfolding EarliesIn
    exec_no e (calls_missing m) =
        λ st. no-21 t p (of-it st) (exec_much st) (exec_place st) (exec_sound st) (ap (λ (y : Met). y.missing) (met-call st) ∙ (rw e at m))
    exec_no e (calls_again m g) =
        λ st. no-32 t p (of-it st) (exec_much st) (exec_place st) (exec_sound st) (ap (λ (y : Met). y.missing) (met-call st) ∙ (rw e at m))
        (ap (λ (y : Met). y.again) (met-call st) ∙ (rw e at g))
    exec_no e (calls_deep m g d) =
        λ st. no-22 t p (of-it st) (exec_much st) (exec_place st) (exec_sound st) (ap (λ (y : Met). y.missing) (met-call st) ∙ (rw e at m))
        (ap (λ (y : Met). y.again) (met-call st) ∙ (rw e at g)) (ap (λ (y : Met). y.deep) (met-call st) ∙ (rw e at d))

  -- BeginRastPattern of the pattern h, with these numbers defined at its persistence
  module _ (b : o.tag ≡ 0xb3) {h : Hatch} (e : hatch_as h ≡ hatch_of set.high job (rows_of attrs o.count)) {ns : List ℕ}
      (q : ns ≡ numbers_of h.session x) where
    pattern-much : (st : State) → too_much (of-it st) ≡ false
    pattern-much = not-much (λ y. omega arith) (λ y. omega arith)

    pattern-place : (st : State) → no_place (of-it st) ≡ taken ns h.number
    unfolding case_of
    pattern-place st = place-begin (of-it st) b ∙ rw (← e, q)

    pattern-fine : taken ns h.number ≡ false → EarliesIn set t p job attrs x o (Ok Fine)
    pattern-fine f =
        let ne : o.tag ≡ 0x5e → ⊥ = λ y. omega arith in
        let nd : o.tag ≡ 0x5d → ⊥ = λ y. omega arith in
        room-fine nd ne pattern-much (λ st. pattern-place st ∙ f)

    -- with a place left, of a number that is defined already, and of a new one with no place left
    pub pattern-few : length ns < 32 → EarliesIn set t p job attrs x o (Ok Fine)
    pattern-few l = pattern-fine (few-free ns h.number l)

    pub pattern-again : among ns h.number ≡ true → EarliesIn set t p job attrs x o (Ok Fine)
    pattern-again f = pattern-fine (again-free ns h.number f)

    pub pattern-new : 32 ≤ length ns → among ns h.number ≡ false → EarliesIn set t p job attrs x o (no code_is.PatternsFull)
    unfolding EarliesIn
    pattern-new l f = λ st. no-33 t p (of-it st) (pattern-much st) (pattern-place st ∙ new-taken ns h.number l f)

  module _ (b : o.tag ≡ 0x5d) where
    ends-free : (st : State) → too_much (of-it st) ≡ false
    ends-free = not-much (λ y. omega arith) (λ y. omega arith)

    ends-place : (st : State) → no_place (of-it st) ≡ false
    ends-place = place-else (λ y. omega arith)

    made-end : (st : State) → (of-it st).made ≡ motif_of set (joined_of x.busy)
    unfolding case_of judged_at
    made-end st = rw (eq-eqb o.tag 0x5d b)

    -- EndStream of a valid motif, with what it selects
    valid-held : {made : Made} (m : Judged) → motif_of set (joined_of x.busy) ≡ m → Judges t x.held (Ok made) m
        → ((ops : List Own) → m ≡ valid ops → numbers_in p OfMotif ≡ collected (selects_in ops)) → EarliesIn set t p job attrs x o (Ok (Held made))
    unfolding EarliesIn case_of
    valid-held m e (judges_valid {ops = ops} k) f =
        let ne : o.tag ≡ 0x5e → ⊥ = λ y. omega arith in
        λ st. early_held (eq-eqb o.tag 0x5d b) (made-end st ∙ e) k (f ops refl)
        (record { room = ends-free st; place = ends-place st; sound = sound-valid t p (of-it st) (made-end st ∙ e); met = met-other st ne })

    pub end-valid : {s : List ℕ} {made : Made} → s ≡ joined_of x.busy → Judges t x.held (Ok made) (motif_of set s)
        → ((ops : List Own) → motif_of set s ≡ valid ops → numbers_in p OfMotif ≡ collected (selects_in ops)) → EarliesIn set t p job attrs x o (Ok (Held made))
    end-valid e h f = valid-held _ refl (rw e at h) (rw e at f)

    faulty-is : {ms : List Motif} {r : CodeRefusal} {m : Judged} → Judges t ms (Err r) m → m ≡ faulty (number_of r.code) r.place
    faulty-is judges_faulty = refl

    -- EndStream of a faulty one: its place lies within it
    pub end-faulty : {s : List ℕ} {r : CodeRefusal} → s ≡ joined_of x.busy → length s ≤ 16384 → Judges t x.held (Err r) (motif_of set s)
        → EarliesIn set t p job attrs x o (Err r)
    unfolding EarliesIn
    end-faulty {s} {r} e l h =
        let f : motif_of set s ≡ faulty (number_of r.code) r.place = faulty-is h in
        let k : r.place ≤ length s = motif-placed set s (number_of r.code) r.place f in
        let g : motif_of set (joined_of x.busy) ≡ faulty (number_of r.code) r.place = rw e at f in
        λ st. no_own t p (of-it st) (ends-free st) (ends-place st) (made-end st ∙ g) (omega arith)
