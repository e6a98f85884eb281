-- White space between operators plays no part: a job and the same job with white bytes put in where its judging stands come to that state alike, and from there on
-- they read the same bytes, behind the white ones.
-- Assumes nothing.
use Prim.Native.Nat.{ℕ, suc, ◌+◌, ◌-◌, ◌≤◌, ◌<◌}
use mathlib.Core.Path.{◌≡◌, refl, sym, ap, ◌∙◌, subst, subst₂, subst⁻¹}
use mathlib.Core.Bool.{Bool, true, false}
use mathlib.Core.List.{List, [], ◌∷◌, ◌++◌, append_assoc}
use native.Mathlib.Omega.{arith}
use lib.ListN.{length, take, drop, length-append, take-append-drop}
use lib.Seq.{drop_at, length-take-le}
use Rattle.scope.specs.Iterate.{onward}
use Rattle.scope.specs.Header.{Class, Header, header_of}
use Rattle.scope.specs.Item.{scan_item, scan_step, scan_from, scan_at, white, spaces, after as blackAfter}
use Rattle.scope.specs.Reading.{Context, Operator, Read, scanned, operator_at}
use Rattle.scope.specs.Setting.{Setting}
use Rattle.scope.specs.Session.{Place, outside, inside}
use Rattle.scope.specs.Judge.{State, Refusal, Outcome, case_of, after, rules, first_broken, end_at, on_refusal, on_case, on_read, context_of, job_step, judged_from, starting}
use Rattle.scope.specs.Verdict.{every}
use Rattle.scope.specs.Runs.{case_at, next, Runs, here, then}
use Rattle.scope.specs.Claims.{Further, OperatorsMoved, Reached, SameFrom, move_by, put_in, WhiteBetween}
use Rattle.scope.proofs.Falls.{scan_step_lem, judged-step}
use Rattle.scope.proofs.Runs.{runs_up, runs_on}
use Rattle.scope.proofs.Says.{same_place}
use Rattle.scope.proofs.Like.{far-start}
use Rattle.scope.proofs.Sessions.{alike_from, reached-judged, alike-equal}
use Rattle.scope.proofs.AheadRead.{read-longer, read-shorter}
use Rattle.scope.proofs.Ahead.{broken-same, next-same, HeaderPast, HeaderCut, header-cut}

-- what is performed within u is performed there whatever stands behind u
module _ (u x y : List ℕ) (set : Setting) (room : ℕ) where
  pub shared_runs : {a b : State} {os : List Operator} → Runs every set (u ++ x) room a os b → b.at ≤ length u → Runs every set (u ++ y) room a os b
  unfolding after case_of context_of
  shared_runs here h = here
  shared_runs {b = b} (then {a = a} {o = o} {os = os} p r) h =
      let up = runs_up every set (u ++ x) room r in
      let on = runs_up every set (u ++ x) room (then p here) in
      let c = context_of every set a.place in
      let s = read-shorter u x c a.at o (omega arith) p.reads (omega arith) in
      let l = read-longer u y c a.at o (omega arith) s.0 in
      let e = sym (next-same u x set room a o s.1) ∙ next-same u y set room a o l.1 in
      then (record { reads = l.0; kept = sym (broken-same u y set room a o l.1) ∙ broken-same u x set room a o s.1 ∙ p.kept })
      (subst (λ z. Runs every set (u ++ y) room z os b) e (shared_runs r h))

-- and a header that ends within u too
pub shared_header : (u x y : List ℕ) (class : Class) (high : Bool) (next : ℕ) → header_of (u ++ x) ≡ Header.is class high next → next ≤ length u → header_of (u ++ y) ≡ Header.is class high next
shared_header u x y class high next e h = sym (second (header_of u) (header-cut u y) (first (header_of u) (header-cut u x) e))
  where
    IsHeader : Header → Type 0
    IsHeader (Header.is class high next) = Unit {0}
    IsHeader (Header.no code place) = ⊥

    first : (g : Header) {k : Header} → HeaderCut u g k → k ≡ Header.is class high next → g ≡ Header.is class high next
    first g (HeaderCut.alike l) f = f
    first g HeaderCut.refused f = f
    first g (HeaderCut.header_short {h = k} l) f = absurd (let z : length u < next = subst (HeaderPast (length u)) f l in omega arith)

    second : (g : Header) {k : Header} → HeaderCut u g k → g ≡ Header.is class high next → Header.is class high next ≡ k
    second g (HeaderCut.alike l) f = sym f
    second g HeaderCut.refused f = sym f
    second g (HeaderCut.header_short l) f = absurd (subst⁻¹ IsHeader f tt)

-- the header of a job ends within it
pub header-within : (job : List ℕ) (class : Class) (high : Bool) (next : ℕ) → header_of job ≡ Header.is class high next → next ≤ length job
header-within job class high next e = by (subst (λ g. HeaderCut job g (header_of (job ++ []))) e (header-cut job []))
  where
    by : {k : Header} → HeaderCut job (Header.is class high next) k → next ≤ length job
    by (HeaderCut.alike l) = l

-- reading looks at nothing before the first place that is not white
pub read-after : (c : Context) (s : List ℕ) (m n : ℕ) → blackAfter s m ≡ blackAfter s n → operator_at c s m ≡ operator_at c s n
unfolding operator_at scan_at scan_step
read-after c s m n e =
    ap (scanned c s)
    (scan_step_lem c.set.high s (record { at = m; attrs = [] }) ∙ ap (λ p. onward (scan_from c.set.high s) (scan_item c.set.high s [] p)) e
    ∙ sym (scan_step_lem c.set.high s (record { at = n; attrs = [] })))

pub spaces-all : (blank rest : List ℕ) → spaces blank ≡ length blank → spaces (blank ++ rest) ≡ length blank + spaces rest
unfolding spaces
spaces-all [] rest e = omega arith
spaces-all (b ∷ bs) rest e = by (white b) e (spaces-all bs rest)
  where
    by : (c : Bool) → elim c as (λ _. ℕ) [ true ↦ suc (spaces bs) | false ↦ 0 ] ≡ suc (length bs) → (spaces bs ≡ length bs → spaces (bs ++ rest) ≡ length bs + spaces rest)
        → elim c as (λ _. ℕ) [ true ↦ suc (spaces (bs ++ rest)) | false ↦ 0 ] ≡ suc (length bs) + spaces rest
    by true f h = let k = h (let z : spaces bs ≡ length bs = omega arith in z) in omega arith
    by false f h = absurd (omega arith)

-- what is told of two outcomes is the same, and what they list
record SameTold (e f : Outcome) : Type 0 where
  code : e.code ≡ f.code
  position : e.position ≡ f.position
  inner : e.inner ≡ f.inner
  performed : e.state.performed ≡ f.state.performed
  records : e.state.records ≡ f.state.records
  past : e.state.past ≡ f.state.past

-- a state may as well stand behind the white bytes
module _ (set : Setting) (s : List ℕ) (room k : ℕ) (st : State) (e : blackAfter s st.at ≡ blackAfter s (st.at + k)) where
  abbrev on : State
  on = move_by k st

  abbrev judged : State → Outcome
  judged = judged_from every set s room

  same_end : (p : Place) → SameTold (end_at s st p) (end_at s on p)
  unfolding end_at
  same_end (outside true) = record { code = refl; position = refl; inner = refl; performed = refl; records = refl; past = refl }
  same_end (outside false) = record { code = refl; position = refl; inner = refl; performed = refl; records = refl; past = refl }
  same_end (inside x) = record { code = refl; position = refl; inner = refl; performed = refl; records = refl; past = refl }

  same-rule : (o : Operator) (f : Refusal) → SameTold (onward judged (on_refusal set s st (case_at set s st o) f)) (onward judged (on_refusal set s on (case_at set s on o) f))
  unfolding on_refusal after case_of
  same-rule o Refusal.none = record { code = refl; position = refl; inner = refl; performed = refl; records = refl; past = refl }
  same-rule o (Refusal.refused code inner) = record { code = refl; position = refl; inner = refl; performed = refl; records = refl; past = refl }

  same_read : (r : Read) → SameTold (onward judged (on_read every set s room st r)) (onward judged (on_read every set s room on r))
  unfolding on_read on_case
  same_read (Read.operator o) = unfold case_of in same-rule o (first_broken every (case_at set s st o) (rules room))
  same_read Read.ended = same_end st.place
  same_read (Read.no code place) = record { code = refl; position = refl; inner = refl; performed = refl; records = refl; past = refl }

  skip : SameTold (judged st) (judged on)
  unfolding job_step
  skip =
      let c = context_of every set st.place in
      subst⁻¹ (λ z. SameTold z (judged on)) (judged-step every set s room st)
      (subst⁻¹ (λ z. SameTold (onward judged (job_step every set s room st)) z) (judged-step every set s room on)
      (subst (λ r. SameTold (onward judged (on_read every set s room st (operator_at c s st.at))) (onward judged (on_read every set s room on r)))
      (read-after c s st.at (st.at + k) e) (same_read (operator_at c s st.at))))

from_told : {a b : State} {e f g : Outcome} → SameFrom a b e g → SameTold f g → SameFrom a b e f
from_told {a} {b} {e} h t =
    record {
      code = h.code ∙ sym t.code;
      position = h.position ∙ ap (λ n. n + a.at) (sym t.position);
      inner = h.inner ∙ sym t.inner;
      performed = h.performed ∙ ap (λ n. n + a.performed) (sym t.performed);
      records = h.records ∙ ap (λ n. n + a.records) (sym t.records);
      listed = subst⁻¹ (λ l. OperatorsMoved (Further a.at b.at) a.past b.past e.state.past l) t.past h.listed;
    }

module _ (set : Setting) (u v blank : List ℕ) (room : ℕ) (st : State) (at : st.at ≡ length u) (all : spaces blank ≡ length blank) where
  abbrev s : List ℕ
  s = u ++ v

  abbrev t : List ℕ
  t = u ++ (blank ++ v)

  behind-s : drop st.at s ≡ v
  behind-s = drop_at u v st.at (sym at)

  behind-t : drop (st.at + length blank) t ≡ v
  behind-t =
      ap (drop (st.at + length blank)) (sym (append_assoc u blank v))
      ∙ drop_at (u ++ blank) v (st.at + length blank) (length-append u blank ∙ ap (λ n. n + length blank) (sym at))

  white-there : blackAfter t st.at ≡ blackAfter t (st.at + length blank)
  unfolding blackAfter
  white-there =
      let a = ap spaces (drop_at u (blank ++ v) st.at (sym at)) ∙ spaces-all blank v all in
      let b = ap spaces behind-t in
      omega arith

  white-alike : SameFrom st (move_by (length blank) st) (judged_from every set s room st) (judged_from every set t room st)
  white-alike =
      let ls = length-append u v in
      let lt = length-append u (blank ++ v) in
      let lb = length-append blank v in
      let hp : st.at ≤ length s = omega arith in
      let hq : st.at + length blank ≤ length t = omega arith in
      let e : drop st.at s ≡ drop (st.at + length blank) t = behind-s ∙ sym behind-t in
      from_told
      (alike-equal
      (alike_from s t st (move_by (length blank) st) hp hq e set room room
      (record { at = far-start s t st.at (st.at + length blank) hp hq e; place = same_place; performed = refl; records = refl }))
      refl refl refl)
      (skip set t room (length blank) st white-there)

-- a job with bytes put in at a place comes to every state that it comes to before that place
pub reached-before : (set : Setting) (job bytes : List ℕ) (room p : ℕ) (st : State) → Reached set job room st → st.at ≤ p → p ≤ length job → Reached set (put_in p bytes job) room st
reached-before set job bytes room p st r h k =
    let u = take p job in
    let v = drop p job in
    let e : u ++ v ≡ job = take-append-drop p job in
    let lu : length u ≡ p = length-take-le p job k in
    let up = runs_up every set job room r.runs in
    record {
      next = r.next;
      header = shared_header u v (bytes ++ v) set.class set.high r.next (ap header_of e ∙ r.header) (omega arith);
      before = r.before;
      runs = shared_runs u v (bytes ++ v) set room (subst⁻¹ (λ z. Runs every set z room (starting r.next) r.before st) e r.runs) (omega arith);
    }

-- a state that a job comes to stands within it
pub reached-within : (set : Setting) (job : List ℕ) (room : ℕ) (st : State) → Reached set job room st → st.at ≤ length job
reached-within set job room st r = (runs_on every set job room r.runs (header-within job set.class set.high r.next r.header)).1

-- and is not longer than with bytes put in
pub put-longer : (p : ℕ) (bytes job : List ℕ) → length job ≤ length (put_in p bytes job)
put-longer p bytes job =
    let e = ap length (take-append-drop p job) in
    let a = length-append (take p job) (drop p job) in
    let b = length-append (take p job) (bytes ++ drop p job) in
    let c = length-append bytes (drop p job) in
    omega arith

pub white-between : WhiteBetween
white-between set job blank work room st hw hl all r =
    let p = st.at in
    let e : take p job ++ drop p job ≡ job = take-append-drop p job in
    let h = reached-within set job room st r in
    let k = put-longer p blank job in
    let there = reached-before set job blank room p st r (omega arith) h in
    subst₂ (SameFrom st (move_by (length blank) st)) (sym (reached-judged set job work room st hw (omega arith) r)) (sym (reached-judged set (put_in p blank job) work room st hw hl there))
    (subst (λ z. SameFrom st (move_by (length blank) st) (judged_from every set z room st) (judged_from every set (put_in p blank job) room st)) e
    (white-alike set (take p job) (drop p job) blank room st (sym (length-take-le p job h)) all))
