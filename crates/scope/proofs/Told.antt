-- What a verdict can say: its code, its inner place, and that every operator before the refused one breaks no rule.
-- Assumes nothing.
use Prim.Native.Nat.{ℕ, ◌≤◌}
use mathlib.Core.Path.{◌≡◌, refl, sym, ap, ◌∙◌, subst, subst⁻¹}
use mathlib.Core.Bool.{Bool, true, false, ◌&&◌, ◌||◌}
use mathlib.Core.List.{List, [], ◌∷◌}
use native.Mathlib.Omega.{arith}
use borrow.Author.Tests.{eqb-true, leb-true, le-leb}
use lib.ListN.{length, get_or}
use lib.Dec.{T, leb, eqb}
use Rattle.scope.specs.Choice.{pick, between}
use Rattle.scope.specs.Header.{Header, header_of}
use Rattle.scope.specs.Item.{Attribute, Pair, Scan, Walk, ended_with, on_pair, scan_item, scan_step, scan_from, scan_at, pair_at, after as blackAfter}
use Rattle.scope.specs.Table.{table, line_in}
use Rattle.scope.specs.Reading.{Context, Operator, Read, scanned, operator_at}
use Rattle.scope.specs.Motif.{Judged, valid, faulty, motif_of}
use Rattle.scope.specs.Setting.{Setting, setting_of}
use Rattle.scope.specs.Session.{Place, outside, inside, session_of, joined_of}
use Rattle.scope.specs.Judge.{State, Case, Rule, rule, motifs_own, rules, Refusal, own_or, first_broken, judged_at, case_of, context_of, Outcome, outer, refused_at, end_at, starting, judged_from}
use Rattle.scope.specs.Verdict.{every, judged_after, Entry, entry_of, outcome_at, outcome_of, verdict_of}
use Rattle.scope.specs.Runs.{read_at, case_at, Ends, ended, unread, refused, Comes}
use Rattle.scope.specs.Claims.{is_code, CodeKnown, InnerSays, nothing, of_motif, InnerKnown, FirstFault}
use Rattle.scope.proofs.Ends.{pick_all, Kept, kept_go, kept_stop, iterate-holds, Coded, ZeroOr, none_given, given}
use Rattle.scope.proofs.Apart.{clash-of, not_valid}
use Rattle.scope.proofs.Broken.{breaks-none}
use Rattle.scope.proofs.Through.{through}
use Rattle.scope.proofs.Placed.{motif-placed}
use Rattle.scope.proofs.Codes.{header-good}
use Rattle.scope.proofs.Buffers.{Entered, short_work, long_job, entered, late-code, header-late}
use Rattle.scope.proofs.Runs.{runs_of}
use Rattle.scope.proofs.Sessions.{reached-judged}
use Rattle.scope.proofs.Places.{between_start}

-- a number of a range is one of a wider range
widen : (a b c d k : ℕ) → c ≤ a → b ≤ d → between a b k ≡ true → between c d k ≡ true
widen a b c d k h l e = by (leb a k) (leb k b) refl refl e
  where
    by : (x y : Bool) → leb a k ≡ x → leb k b ≡ y → pick x y false ≡ true → between c d k ≡ true
    by true true f g e =
        let m = leb-true a k f in
        let n = leb-true k b g in
        λ i. pick (le-leb c k (omega arith) i) (le-leb k d (omega arith) i) false
    by true false f g e = clash-of (sym e)
    by false y f g e = clash-of (sym e)

or_true : (a b : Bool) → b ≡ true → (a || b) ≡ true
or_true true b e = refl
or_true false b e = e

coded-known : (k : ℕ) → Coded k → is_code k ≡ true
coded-known k c = by (between 2 19 k) (between 21 28 k) (between 32 34 k) refl refl refl c
  where
    by : (x y z : Bool) → between 2 19 k ≡ x → between 21 28 k ≡ y → between 32 34 k ≡ z → T (x || (y || z)) → is_code k ≡ true
    by true y z e f g t = λ i. widen 2 19 0 19 k (omega arith) (omega arith) e i || (between 21 29 k || between 32 34 k)
    by false true z e f g t = or_true (between 0 19 k) (between 21 29 k || between 32 34 k) (λ i. widen 21 28 21 29 k (omega arith) (omega arith) f i || between 32 34 k)
    by false false true e f g t = or_true (between 0 19 k) (between 21 29 k || between 32 34 k) (or_true (between 21 29 k) (between 32 34 k) g)
    by false false false e f g t = absurd t

code-late : (k : ℕ) → ZeroOr k → is_code k ≡ true
code-late k none_given = refl
code-late k (given c) = coded-known k c

code-entered : (gray : Bool) (job : List ℕ) (room : ℕ) {e : Entry} → Entered e → is_code (outcome_at gray every job room e).code ≡ true
unfolding outcome_at
code-entered gray job room short_work = refl
code-entered gray job room long_job = refl
code-entered gray job room Entered.inside = code-late _ (late-code (header-late gray job room (header-good job)))

pub code-known : CodeKnown
unfolding verdict_of outcome_of
code-known gray job work room = code-entered gray job room (entered (length job) work)

-- an operator's tag stands at its place
module _ (s : List ℕ) where
  abbrev ScanTag : Scan → Type 0
  ScanTag (Scan.tagged tag at l) = get_or s at 0 ≡ tag
  ScanTag Scan.ended = Unit {0}
  ScanTag (Scan.no code place) = Unit {0}

  abbrev Any : Walk → Type 0
  Any w = Unit {0}

  ended-tag : (l : List Attribute) → ScanTag (ended_with s l)
  unfolding ended_with
  ended-tag [] = tt
  ended-tag (a ∷ l) = tt

  pair-tag : (l : List Attribute) (r : Pair) → Kept Any ScanTag (on_pair s l r)
  unfolding on_pair
  pair-tag l (Pair.is a n) = kept_go tt
  pair-tag l (Pair.no code place) = kept_stop tt
  pair-tag l Pair.waits = kept_stop tt

  step-tag : (high : Bool) (w : Walk) → Any w → Kept Any ScanTag (scan_step high s w)
  unfolding scan_step scan_item
  step-tag high w u =
      pick_all (Kept Any ScanTag) (leb (length s) (blackAfter s w.at)) (λ _. kept_stop (ended-tag w.attrs))
      (λ _. pick_all (Kept Any ScanTag) (between 0x41 0xbf (get_or s (blackAfter s w.at) 0)) (λ _. kept_stop refl)
      (λ _. pair-tag w.attrs (pair_at high s (blackAfter s w.at) (length w.attrs))))

  scan_tag : (high : Bool) (at : ℕ) → ScanTag (scan_at high s at)
  unfolding scan_at scan_from
  scan_tag high at = iterate-holds (scan_step high s) Scan.ended Any ScanTag tt (step-tag high) _ (record { at = at; attrs = [] }) tt

  abbrev ReadTag : Read → Type 0
  ReadTag (Read.operator o) = get_or s o.at 0 ≡ o.tag
  ReadTag Read.ended = Unit {0}
  ReadTag (Read.no code place) = Unit {0}

  scanned-tag : (c : Context) (r : Scan) → ScanTag r → ReadTag (scanned c s r)
  unfolding scanned
  scanned-tag c (Scan.tagged tag at l) h = through ReadTag (λ _ _. tt) c s tag at l (λ o e f _. ap (λ k. get_or s k 0) f ∙ h ∙ sym e) (line_in (table c.set.class) tag)
  scanned-tag c Scan.ended h = tt
  scanned-tag c (Scan.no code place) h = tt

  pub read-tag : (c : Context) (at : ℕ) (o : Operator) → operator_at c s at ≡ Read.operator o → get_or s o.at 0 ≡ o.tag
  unfolding operator_at
  read-tag c at o e = subst ReadTag e (scanned-tag c (scan_at c.set.high s at) (scan_tag c.set.high at))

-- a refusal says no inner place, or it is the motif's own
data Whose (c : Case) : Refusal → Type 0 where
  nobody : Whose c Refusal.none
  rule_of_job : {code : ℕ} → Whose c (Refusal.refused code outer)
  motif's : {code inner : ℕ} → c.made ≡ faulty code inner → Whose c (Refusal.refused code inner)

own-whose : (c : Case) (m : Judged) → c.made ≡ m → (r : Refusal) → Whose c r → Whose c (own_or m r)
own-whose c (valid ops) e r h = h
own-whose c (faulty code inner) e r h = motif's e

whose : (codes : ℕ → Bool) (c : Case) (rs : List Rule) → Whose c (first_broken codes c rs)
unfolding first_broken
whose codes c [] = nobody
whose codes c (rule k broken ∷ rs) = pick_all (Whose c) (codes k && broken c) (λ _. rule_of_job) (λ _. whose codes c rs)
whose codes c (motifs_own ∷ rs) = own-whose c c.made refl (first_broken codes c rs) (whose codes c rs)

-- a faulty motif is judged at an EndStream
at_end : (set : Setting) (joined : List ℕ) (tag code inner : ℕ) → judged_at set joined tag ≡ faulty code inner → (tag ≡ 0x5d) × (motif_of set joined ≡ faulty code inner)
unfolding judged_at
at_end set joined tag code inner e = by (eqb tag 0x5d) refl e
  where
    by : (b : Bool) → eqb tag 0x5d ≡ b → pick b (motif_of set joined) (valid []) ≡ faulty code inner → (tag ≡ 0x5d) × (motif_of set joined ≡ faulty code inner)
    by true f g = (eqb-true tag 0x5d f, g)
    by false f g = not_valid (sym g)

module _ (set : Setting) (s : List ℕ) (room : ℕ) where
  end-inner : (st : State) (p : Place) → InnerSays set s (end_at s st p)
  unfolding end_at
  end-inner st (outside true) = nothing refl
  end-inner st (outside false) = nothing refl
  end-inner st (inside x) = nothing refl

  refused-inner : (st : State) (o : Operator) (code inner : ℕ) → read_at every set s st ≡ Read.operator o → Whose (case_at set s st o) (Refusal.refused code inner)
      → InnerSays set s (refused_at code o.at inner st)
  unfolding case_of context_of
  refused-inner st o code inner r rule_of_job = nothing refl
  refused-inner st o code inner r (motif's e) =
      let x = session_of st.place in
      let h = at_end set (joined_of x.busy) o.tag code inner e in
      of_motif h.1 (motif-placed set (joined_of x.busy) code inner h.1) (read-tag s (context_of every set st.place) st.at o r ∙ h.0)

  ends-inner : (st : State) (e : Outcome) → Ends every set s room st e → InnerSays set s e
  ends-inner st e (ended r) = end-inner st st.place
  ends-inner st e (unread r) = nothing refl
  ends-inner st e (refused {code = code} {inner = inner} {o = o} r b) =
      refused-inner st o code inner r (subst (Whose (case_at set s st o)) b (whose every (case_at set s st o) (rules room)))

  judged-inner : (st : State) → InnerSays set s (judged_from every set s room st)
  judged-inner st = let c = runs_of every set s room st in ends-inner c.last (judged_from every set s room st) c.ends

header-inner : (gray : Bool) (job : List ℕ) (room : ℕ) (h : Header) → InnerSays (setting_of gray h) job (judged_after gray every job room h)
unfolding judged_after
header-inner gray job room (Header.is class high next) = judged-inner (record { class = class; high = high; gray = gray }) job room (starting next)
header-inner gray job room (Header.no code place) = nothing refl

entry_inner : (gray : Bool) (job : List ℕ) (room : ℕ) (e : Entry) → InnerSays (setting_of gray (header_of job)) job (outcome_at gray every job room e)
unfolding outcome_at
entry_inner gray job room (Entry.refused code position) = nothing refl
entry_inner gray job room Entry.admitted = header-inner gray job room (header_of job)

pub inner-known : InnerKnown
unfolding outcome_of
inner-known gray job work room = entry_inner gray job room (entry_of (length job) work)

pub first-fault : FirstFault
first-fault set job work room next h k e = (
  subst⁻¹ (Comes every set job room (starting next)) (reached-judged set job work room (starting next) h k (between_start set job room next e).there)
      (runs_of every set job room (starting next)),
  λ st o p. breaks-none (case_at set job st o) (rules room) p.kept,
)
