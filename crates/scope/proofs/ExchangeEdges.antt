-- Where a session starts and stops. What is read of an operator first, its first value's tag or its own, is the first byte that is not white. A BeginSession is
-- performed outside a session. An EndSession reads no data, so it ends right behind its tag; and there the job stands outside a session again.
-- Assumes nothing.
use Prim.Native.Nat.{ℕ, suc, ◌+◌, ◌-◌, ◌≤◌}
use mathlib.Core.Path.{◌≡◌, refl, sym, ap, ◌∙◌, subst, subst⁻¹}
use mathlib.Core.Bool.{Bool, true, false}
use mathlib.Core.List.{List, [], ◌∷◌, ◌++◌}
use native.Mathlib.Omega.{arith}
use borrow.Author.Tests.{eqb-true, eqb-false}
use lib.ListN.{length, get_or, drop}
use lib.Seq.{drop-drop, drop-append_seam}
use lib.Dec.{leb, eqb}
use Rattle.scope.specs.Choice.{between}
use Rattle.scope.specs.Iterate.{onward}
use Rattle.scope.specs.Item.{Attribute, Pair, pair_at, Scan, Walk, on_pair, ended_with, scan_item, scan_step, scan_from, scan_at, white, spaces, after as blackAfter}
use Rattle.scope.specs.Table.{Row, Line, table, line_in}
use Rattle.scope.specs.Attributes.{Fault, fine, bad}
use Rattle.scope.specs.Data.{due_of, reads_rows}
use Rattle.scope.specs.Order.{may_come, image_of, rows_fit}
use Rattle.scope.specs.Reading.{Context, Operator, Read, with_data, as_whole, with_attributes, with_line, scanned, operator_at}
use Rattle.scope.specs.Setting.{Setting}
use Rattle.scope.specs.Session.{Place, outside, inside, session_of, phase_of}
use Rattle.scope.specs.Judge.{State, case_of, after, context_of}
use Rattle.scope.specs.Verdict.{every}
use Rattle.scope.specs.Runs.{case_at, next, Performs, Runs, here, then}
use Rattle.scope.specs.Exchange.{first_at, WholeSession, operators, starts, stops}
use Rattle.scope.proofs.Ends.{pick_all, Kept, kept_go, kept_stop, iterate-holds, after-le}
use Rattle.scope.proofs.Falls.{scan_step_lem}
use Rattle.scope.proofs.Apart.{clash-of}
use Rattle.scope.proofs.Through.{through}
use Rattle.scope.proofs.Runs.{performs-may, runs-split, runs_up, runs_on}
use Rattle.scope.proofs.Places.{end-outside}
use Rattle.scope.proofs.Shift.{spaces-part, PairAt, pair-at}
use Rattle.scope.proofs.White.{read-after, spaces-all}
use Rattle.scope.proofs.Known.{no-begin}

-- the items of an operator from a place that is not white
module _ (high : Bool) (s : List ℕ) (p : ℕ) where
  -- the first of some attributes, of which there is one, stands at p
  abbrev Led : List Attribute → Type 0
  Led [] = ⊥
  Led (a ∷ l) = a.at ≡ p

  abbrev ScanLed : Scan → Type 0
  ScanLed (Scan.tagged tag at l) = first_at at l ≡ p
  ScanLed Scan.ended = Unit {0}
  ScanLed (Scan.no code place) = Unit {0}

  led-snoc : (l : List Attribute) (a : Attribute) → Led l → Led (l ++ (a ∷ []))
  led-snoc [] a h = absurd h
  led-snoc (b ∷ l) a h = h

  led-first : (at : ℕ) (l : List Attribute) → Led l → first_at at l ≡ p
  led-first at [] h = absurd h
  led-first at (a ∷ l) h = h

  led-ended : (l : List Attribute) → ScanLed (ended_with s l)
  unfolding ended_with
  led-ended [] = tt
  led-ended (a ∷ l) = tt

  abbrev Leads : Walk → Type 0
  Leads w = Led w.attrs

  led-pair : (l : List Attribute) → Led l → (r : Pair) → Kept Leads ScanLed (on_pair s l r)
  unfolding on_pair
  led-pair l h (Pair.is a n) = kept_go (led-snoc l a h)
  led-pair l h (Pair.no code place) = kept_stop tt
  led-pair l h Pair.waits = kept_stop tt

  led-step : (w : Walk) → Leads w → Kept Leads ScanLed (scan_step high s w)
  unfolding scan_step scan_item
  led-step w h =
      let q = blackAfter s w.at in
      pick_all (Kept Leads ScanLed) (leb (length s) q) (λ _. kept_stop (led-ended w.attrs))
      (λ _. pick_all (Kept Leads ScanLed) (between 0x41 0xbf (get_or s q 0)) (λ _. kept_stop (led-first q w.attrs h)) (λ _. led-pair w.attrs h (pair_at high s q (length w.attrs))))

  led_on : (w : Walk) → Leads w → ScanLed (scan_from high s w)
  unfolding scan_from
  led_on w h = iterate-holds (scan_step high s) Scan.ended Leads ScanLed tt led-step (λ v. length s - v.at) w h

  first-pair : (r : Pair) → PairAt p r → ScanLed (onward (scan_from high s) (on_pair s [] r))
  unfolding on_pair
  first-pair (Pair.is a n) h = led_on (record { at = n; attrs = a ∷ [] }) h
  first-pair (Pair.no code place) h = tt
  first-pair Pair.waits h = tt

  first-item : ScanLed (onward (scan_from high s) (scan_item high s [] p))
  unfolding scan_item
  first-item =
      pick_all (λ z. ScanLed (onward (scan_from high s) z)) (leb (length s) p) (λ _. led-ended [])
      (λ _. pick_all (λ z. ScanLed (onward (scan_from high s) z)) (between 0x41 0xbf (get_or s p 0)) (λ _. refl) (λ _. first-pair (pair_at high s p 0) (pair-at high s p 0)))

  -- so it is with an operator
  abbrev ReadLed : Read → Type 0
  ReadLed (Read.operator o) = first_at o.at o.attrs ≡ p
  ReadLed Read.ended = Unit {0}
  ReadLed (Read.no code place) = Unit {0}

  scanned-led : (c : Context) (r : Scan) → ScanLed r → ReadLed (scanned c s r)
  unfolding scanned
  scanned-led c (Scan.tagged tag at l) h = through ReadLed (λ _ _. tt) c s tag at l (λ o t a b. (λ i. first_at (a i) (b i)) ∙ h) (line_in (table c.set.class) tag)
  scanned-led c Scan.ended h = tt
  scanned-led c (Scan.no code place) h = tt

pub first-place : (c : Context) (s : List ℕ) (at : ℕ) (o : Operator) → operator_at c s at ≡ Read.operator o → first_at o.at o.attrs ≡ blackAfter s at
unfolding operator_at scan_at scan_step
first-place c s at o e =
    let p = blackAfter s at in
    let high = c.set.high in
    subst (ReadLed high s p) e
    (scanned-led high s p c (scan_at high s at) (subst⁻¹ (ScanLed high s p) (scan_step_lem high s (record { at = at; attrs = [] })) (first-item high s p)))

-- an EndSession ends behind its tag
abbrev Short : Read → Type 0
Short (Read.operator o) = o.tag ≡ 0x42 → o.next ≡ suc o.at
Short Read.ended = Unit {0}
Short (Read.no code place) = Unit {0}

module _ (c : Context) (s : List ℕ) (at : ℕ) (l : List Attribute) where
  whole-short : (code : ℕ) → Short (as_whole c s 0x42 at l code)
  unfolding as_whole with_data due_of reads_rows
  whole-short code =
      pick_all Short (eqb code 0) (λ _. pick_all Short (rows_fit c.set.high s (image_of c.phase) 0x42 l) (λ _. λ _. refl) (λ _. tt)) (λ _. tt)

  attributes_short : (r : Row) (f : Fault) → Short (with_attributes c s 0x42 at l r f)
  unfolding with_attributes
  attributes_short r fine = whole-short _
  attributes_short r (bad code place) = tt

  end_short : (r : Line) → Short (with_line c s 0x42 at l r)
  unfolding with_line
  end_short Line.none = tt
  end_short (Line.is r) = pick_all Short (may_come c.phase c.opened 0x42) (λ _. attributes_short r _) (λ _. tt)

  line-short : (tag : ℕ) (r : Line) → Short (with_line c s tag at l r)
  line-short tag r = by (eqb tag 0x42) refl
    where
      by : (b : Bool) → eqb tag 0x42 ≡ b → Short (with_line c s tag at l r)
      by true e = subst⁻¹ (λ z. Short (with_line c s z at l r)) (eqb-true tag 0x42 e) (end_short r)
      by false e = through Short (λ _ _. tt) c s tag at l (λ o t a b f. absurd (eqb-false tag 0x42 e (sym t ∙ f))) r

scanned-short : (c : Context) (s : List ℕ) (r : Scan) → Short (scanned c s r)
unfolding scanned
scanned-short c s (Scan.tagged tag at l) = line-short c s at l tag (line_in (table c.set.class) tag)
scanned-short c s Scan.ended = tt
scanned-short c s (Scan.no code place) = tt

ends-behind : (c : Context) (s : List ℕ) (at : ℕ) (o : Operator) → operator_at c s at ≡ Read.operator o → o.tag ≡ 0x42 → o.next ≡ suc o.at
unfolding operator_at
ends-behind c s at o e = subst Short e (scanned-short c s (scan_at c.set.high s at))

module _ (set : Setting) (s : List ℕ) (room : ℕ) where
  begin-outside : (st : State) (o : Operator) → Performs every set s room st o → o.tag ≡ 0x41 → (v : Bool) × (st.place ≡ outside v)
  unfolding phase_of
  begin-outside st o p e = by st.place refl (performs-may every set s room p)
    where
      by : (w : Place) → st.place ≡ w → may_come (phase_of w) (session_of w).opened o.tag ≡ true → (v : Bool) × (st.place ≡ outside v)
      by (outside v) f g = (v, f)
      by (inside x) f g = clash-of (sym (ap (λ t. eqb t 0x41) e) ∙ no-begin s set o (case_at set s st o).seen.page [] x.busy x.opened g)

  -- a session that is performed: it begins outside one, where white space comes up to its start, and ends outside one, right where it stops
  pub record Performed (a b : State) (w : WholeSession) : Type 0 where
    pub after_one : Bool
    pub from_outside : a.place ≡ outside after_one
    pub from_white : blackAfter s a.at ≡ starts w
    pub to_outside : b.place ≡ outside true
    pub to_place : b.at ≡ stops w

  last-outside : {a b : State} (o : Operator) → Runs every set s room a (o ∷ []) b → o.tag ≡ 0x42 → (b.place ≡ outside true) × (b.at ≡ suc o.at)
  unfolding after case_of
  last-outside {a = a'} {b = b} o (then {a = a} p r) e = by b r
    where
      by : (b : State) → Runs every set s room (next set s a o) [] b → (b.place ≡ outside true) × (b.at ≡ suc o.at)
      by b here = (end-outside every set s room a o p e, ends-behind (context_of every set a.place) s a.at o p.reads e)

  pub session-performed : {a b : State} (w : WholeSession) → Runs every set s room a (operators w) b → Performed a b w
  session-performed {a} {b} w (then p r) =
      let k = begin-outside a w.begin p w.begins in
      let l = last-outside w.end (runs-split every set s room w.middle (w.end ∷ []) r).second w.ends in
      record {
        after_one = k.0;
        from_outside = k.1;
        from_white = sym (first-place (context_of every set a.place) s a.at w.begin p.reads);
        to_outside = l.0;
        to_place = l.1;
      }

-- white space: where it ends, nothing white stands
spaces-none : (l : List ℕ) → spaces (drop (spaces l) l) ≡ 0
unfolding spaces
spaces-none [] = refl
spaces-none (b ∷ bs) = by (white b) refl (spaces-none bs)
  where
    by : (c : Bool) → white b ≡ c → spaces (drop (spaces bs) bs) ≡ 0 → spaces (drop (elim c as (λ _. ℕ) [ true ↦ suc (spaces bs) | false ↦ 0 ]) (b ∷ bs)) ≡ 0
    by true e h = h
    by false e h = λ i. elim (e i) as (λ _. ℕ) [ true ↦ suc (spaces bs) | false ↦ 0 ]

pub after-again : (s : List ℕ) (m : ℕ) → blackAfter s m ≡ blackAfter s (blackAfter s m)
unfolding blackAfter
after-again s m =
    let k = spaces (drop m s) in
    let e : spaces (drop (m + k) s) ≡ 0 = ap spaces (sym (drop-drop k m s)) ∙ spaces-none (drop m s) in
    omega arith

-- what white space passes over is white, and is passed over wherever it stands
pub white-of : (s : List ℕ) (m : ℕ) (g r : List ℕ) → drop m s ≡ g ++ r → blackAfter s m ≡ m + length g → spaces g ≡ length g
unfolding blackAfter
white-of s m g r e f = let k = ap spaces e in spaces-part g r (omega arith)

pub white-over : (s : List ℕ) (m : ℕ) (g r : List ℕ) → drop m s ≡ g ++ r → spaces g ≡ length g → blackAfter s m ≡ blackAfter s (m + length g)
unfolding blackAfter
white-over s m g r e f =
    let k = ap spaces e ∙ spaces-all g r f in
    let l = ap spaces (sym (drop-drop (length g) m s) ∙ ap (drop (length g)) e ∙ drop-append_seam g r) in
    omega arith

-- a state at another place
abbrev pub move_to : ℕ → State → State
move_to m st = record { at = m; place = st.place; performed = st.performed; records = st.records; past = st.past }

module _ (set : Setting) (s : List ℕ) (room : ℕ) where
  -- white space before the first operator of a run plays no part
  pub skip : {a b : State} {o : Operator} {os : List Operator} (m : ℕ) → Runs every set s room a (o ∷ os) b → blackAfter s a.at ≡ blackAfter s m
      → Runs every set s room (move_to m a) (o ∷ os) b
  unfolding after case_of
  skip m (then {a = a} p r) e = then (record { reads = read-after (context_of every set a.place) s m a.at (sym e) ∙ p.reads; kept = p.kept }) r

  -- so a session is performed from its start on
  pub from_start : {a b : State} (w : WholeSession) → Runs every set s room a (operators w) b → Runs every set s room (move_to (starts w) a) (operators w) b
  from_start {a} w r =
      let e = (session-performed set s room w r).from_white in
      skip (starts w) r (after-again s a.at ∙ ap (blackAfter s) e)

  pub session-within : {a b : State} (w : WholeSession) → Runs every set s room a (operators w) b → a.at ≤ length s
      → (a.at ≤ starts w) × (starts w ≤ stops w) × (stops w ≤ length s)
  session-within {a} w r h =
      let p = session-performed set s room w r in
      let e = p.from_white in
      let f = p.to_place in
      let k = after-le set.high s a.at in
      let l = runs_up every set s room (from_start w r) in
      let m = runs_on every set s room r h in
      (omega arith, omega arith, omega arith)
