-- A run of operators that leave the page as it is: the definition reads each of them where the code does, and goes on from behind it with one operator more.
-- Assumes nothing.
use Prim.Native.Nat.{ℕ, suc, ◌+◌, ◌<◌}
use mathlib.Core.Path.{◌≡◌, refl, sym, ap, ◌∙◌, subst, subst⁻¹}
use mathlib.Core.Bool.{Bool, true, false, ◌||◌}
use mathlib.Core.List.{List, [], ◌∷◌, ◌++◌, append_assoc, append-nil}
use native.Mathlib.Omega.{arith}
use native.Mathlib.Numerals.{add-one}
use borrow.Author.Tests.{ne_eqb}
use lib.ListN.{length, get_or, length-append}
use Rattle.scope.specs.Choice.{among, between}
use Rattle.scope.specs.Iterate.{go, onward}
use Rattle.scope.specs.Setting.{Setting}
use Rattle.scope.specs.Header.{Class, one, two}
use Rattle.scope.specs.Item.{white, scan_at}
use Rattle.scope.specs.Table.{table_one, table_two, table, line_in}
use Rattle.scope.specs.Attributes.{one_by_one, all_there, form_code}
use Rattle.scope.specs.Data.{reads_rows, due_of}
use Rattle.scope.specs.Order.{in_motif, drawn, may_come, rows_fit}
use Rattle.scope.specs.Reading.{Context, Operator, Read, with_data, as_whole, with_attributes, with_line, scanned, operator_at}
use Rattle.scope.specs.Arm.{Stroke, needs_cursor, needs_space, select_of, effect_of, act_of}
use Rattle.scope.specs.Motif as scope
use Rattle.scope.specs.Motif.{Motif, phase_in, context_in, saved_after, picture_after, own_by, on_read, motif_step, judged_inside}
use Rattle.scope.specs.Calls.{flat}
use Rattle.scope.specs.Reach.{Name}
use Rattle.scope.proofs.Falls.{motif-step}
use Rattle.items.proofs.Pairs.{scan_tag}
use Rattle.summary.specs.Balance.{OwnLevel}
use Rattle.page.specs.Views.{keeping}
use Rattle.arm.specs.Rows.{Kept, kept_none, kept_more}
use Rattle.both.specs.Runs.{Runs}
use Rattle.arm.proofs.Rows.{flat-does}
use Rattle.arm.proofs.Ways.{or_false}
use Rattle.both.proofs.Levels.{own-does}
use Rattle.key.specs.Mark.{mark}
use Rattle.motif.specs.Tables.{calls_row, lacks_one}
use Rattle.order.specs.Pictures.{picture_as}
use Rattle.patterns.specs.Selects.{selects_in}
use Rattle.end_point.specs.EndPoint.{line_of, Drawn, drawn_path, drawn_rel, Line}
use Rattle.end_point.proofs.EndPoint.{line_read, line-drawn, line-in_motif}
use Rattle.within.specs.Judging.{Follows}
use Rattle.stream.specs.Lines.{Quiet, quiet_close, quiet_paint, Strip, strip_none, strip_line, strip_quiet, Comes}
use Rattle.within.specs.declared.inside.Inside.{Inside}
use Rattle.stream.specs.declared.lines.Run.{Run}
use Rattle.within.proofs.Naming.{deed-row, deed-lacks}
use Rattle.within.proofs.Noting.{selects-does}

-- what holds of each of these tags
each_line : {tag : ℕ} (P : ℕ → Type 0) → P 0x9b → P 0x9d → Drawn tag → P tag
each_line P a b drawn_path = a
each_line P a b drawn_rel = b

each-quiet : {tag : ℕ} (P : ℕ → Type 0) → P 0x84 → P 0x86 → Quiet tag → P tag
each-quiet P a b quiet_close = a
each-quiet P a b quiet_paint = b

-- reading in a motif with no image open
abbrev in_motif_context : Setting → (saved : ℕ) → Context
in_motif_context set saved = record { set = set; phase = in_motif saved; opened = true; asked = false }

-- the operator of a tag alone
abbrev alone : (tag at : ℕ) → Operator
alone tag at = record { tag = tag; at = at; attrs = []; reads = false; length = 0; first = 0; next = suc at }

lined : (high gray : Bool) (saved : ℕ) (s : List ℕ) (at : ℕ) (class : Class) {tag : ℕ} → Quiet tag
    → with_line (in_motif_context (record { class = class; high = high; gray = gray }) saved) s tag at [] (line_in (table class) tag) ≡ Read.operator (alone tag at)
unfolding with_line line_in table_one table_two table may_come drawn among with_attributes one_by_one as_whole form_code all_there reads_rows rows_fit with_data due_of
lined high gray saved s at one quiet_close = refl
lined high gray saved s at one quiet_paint = refl
lined high gray saved s at two quiet_close = refl
lined high gray saved s at two quiet_paint = refl

read-quiet : (set : Setting) (saved : ℕ) (s : List ℕ) (at : ℕ) → at < length s → Quiet (get_or s at 0) → operator_at (in_motif_context set saved) s at ≡ Read.operator (alone (get_or s at 0) at)
unfolding operator_at scanned scan_at white
read-quiet set saved s at h q =
    ap (scanned (in_motif_context set saved) s)
    (scan_tag set.high s at [] h (each-quiet (λ t. white t ≡ false) refl refl q) (each-quiet (λ t. between 0x41 0xbf t ≡ true) refl refl q))
    ∙ lined set.high set.gray saved s at set.class q

-- an operator that the definition reads at w, ends at `next`, and leaves page, saved states and image as they are
record Plain (set : Setting) (s : List ℕ) (w : scope.Inside) (next : ℕ) (needs : Bool) : Type 0 where
  op : Operator
  read : operator_at (context_in set w) s w.at ≡ Read.operator op
  ends : op.next ≡ next
  act : act_of set s op ≡ keeping false needs
  call : op.tag ≡ 0x5e → ⊥
  saves : saved_after op.tag w.saved ≡ w.saved
  shows : picture_after set.high s op w.picture ≡ w.picture

module _ (set : Setting) (s : List ℕ) (w : scope.Inside) (closed : w.picture ≡ scope.Picture.none) where
  context_is : operator_at (in_motif_context set w.saved) s w.at ≡ operator_at (context_in set w) s w.at
  unfolding context_in phase_in
  context_is = ap (λ p. operator_at (record { set = set; phase = phase_in w.saved p; opened = true; asked = false }) s w.at) (sym closed)

  plain-line : (op : ℕ) → Line set.high s w.at op → Plain set s w (op + 1) true
  unfolding act_of needs_cursor needs_space select_of effect_of among saved_after reads_rows picture_after
  plain-line op l =
      let d = line-drawn l in
      let o : ℕ → Operator = λ t. line_of (get_or s w.at 0) t w.at op in
      record {
        op = o (get_or s op 0);
        read = sym context_is ∙ line_read (in_motif_context set w.saved) s w.at op l (line-in_motif w.saved d);
        ends = sym (add-one op);
        act = each_line (λ t. act_of set s (o t) ≡ keeping false true) refl refl d;
        call = each_line (λ t. t ≡ 0x5e → ⊥) (λ e. omega arith) (λ e. omega arith) d;
        saves = each_line (λ t. saved_after t w.saved ≡ w.saved) refl refl d;
        shows = each_line (λ t. picture_after set.high s (o t) w.picture ≡ w.picture) refl refl d;
      }

  plain_quiet : w.at < length s → Quiet (get_or s w.at 0) → Plain set s w (w.at + 1) false
  unfolding act_of needs_cursor needs_space select_of effect_of among saved_after reads_rows picture_after
  plain_quiet h q =
      record {
        op = alone (get_or s w.at 0) w.at;
        read = sym context_is ∙ read-quiet set w.saved s w.at h q;
        ends = sym (add-one w.at);
        act = each-quiet (λ t. act_of set s (alone t w.at) ≡ keeping false false) refl refl q;
        call = each-quiet (λ t. t ≡ 0x5e → ⊥) (λ e. omega arith) (λ e. omega arith) q;
        saves = each-quiet (λ t. saved_after t w.saved ≡ w.saved) refl refl q;
        shows = each-quiet (λ t. picture_after set.high s (alone t w.at) w.picture ≡ w.picture) refl refl q;
      }

-- the row of some operators is that of others and n operators more that leave the page as it is
record More (f : Name → List Stroke) (k : ℕ) (ops before : List scope.Own) (n : ℕ) (cursor : Bool) : Type 0 where
  row : List Stroke
  is : flat f k ops ≡ flat f k before ++ row
  kept : Kept cursor row
  long : n ≡ length row

-- where the definition comes to from w, behind n such operators
record Reached (ms : List Motif) (set : Setting) (s : List ℕ) (w : scope.Inside) (at n : ℕ) (cursor : Bool) : Type 0 where
  stands : scope.Inside
  place : stands.at ≡ at
  saved : stands.saved ≡ w.saved
  closed : stands.picture ≡ scope.Picture.none
  whom : (j : ℕ) → calls_row ms stands.ops j ≡ calls_row ms w.ops j
  lacks : lacks_one ms stands.ops ≡ lacks_one ms w.ops
  selects : selects_in stands.ops ≡ selects_in w.ops
  level : OwnLevel 0 stands.ops stands.saved
  judged : judged_inside set s stands ≡ judged_inside set s w
  more : (f : Name → List Stroke) (k : ℕ) → More f k stands.ops w.ops n cursor

more-one : (f : Name → List Stroke) (k : ℕ) (ops before : List scope.Own) (o : Operator) (n : ℕ) (c d : Bool) → More f k ops before n c
    → More f k (ops ++ (scope.does o (keeping false d) ∷ [])) before (n + 1) (c || d)
more-one f k ops before o n c d m =
    let x : Stroke = record { motif = k; op = o; act = keeping false d } in
    let e = m.long in
    record {
      row = m.row ++ (x ∷ []);
      is = flat-does f k ops o (keeping false d) ∙ ap (λ (l : List Stroke). l ++ (x ∷ [])) m.is ∙ append_assoc (flat f k before) m.row (x ∷ []);
      kept = kept_more x m.kept refl;
      long = simp length-append (omega arith);
    }

-- one operator on
module _ (set : Setting) (s : List ℕ) (v : scope.Inside) {next : ℕ} {needs : Bool} (p : Plain set s v next needs) where
  abbrev beyond : scope.Inside
  beyond = record { at = next; saved = v.saved; picture = v.picture; ops = v.ops ++ (scope.does p.op (keeping false needs) ∷ []) }

  own_is : own_by set s p.op ≡ scope.does p.op (keeping false needs)
  unfolding own_by
  own_is = rw (ne_eqb p.op.tag 0x5e p.call) (ap (scope.does p.op) p.act)

  step_is : motif_step set s v ≡ go beyond
  unfolding motif_step on_read
  step_is =
      ap (on_read set s v) p.read
      ∙ (λ i. go (record { at = p.ends i; saved = p.saves i; picture = p.shows i; ops = v.ops ++ (own_is i ∷ []) }))

  judged-is : judged_inside set s beyond ≡ judged_inside set s v
  judged-is = sym (motif-step set s v ∙ ap (onward (judged_inside set s)) step_is)

reached-one : (ms : List Motif) (set : Setting) (s : List ℕ) (w : scope.Inside) {at n next : ℕ} {c d : Bool} (r : Reached ms set s w at n c) → Plain set s r.stands next d
    → Reached ms set s w next (n + 1) (c || d)
reached-one ms set s w {n = n} {c = c} {d = d} r p =
    let v = r.stands in
    record {
      stands = beyond set s v p;
      place = refl;
      saved = r.saved;
      closed = r.closed;
      whom = λ j. deed-row ms v.ops p.op (keeping false d) j ∙ r.whom j;
      lacks = deed-lacks ms v.ops p.op (keeping false d) ∙ r.lacks;
      selects = selects-does v.ops p.op (keeping false d) ∙ r.selects;
      level = own-does v.ops p.op (keeping false d) 0 v.saved r.level tt;
      judged = judged-is set s v p ∙ r.judged;
      more = λ f k. more-one f k v.ops w.ops p.op n c d (r.more f k);
    }

or_true : (b : Bool) → (b || true) ≡ true
or_true true = refl
or_true false = refl

module _ (ms : List Motif) (set : Setting) (s : List ℕ) (w : scope.Inside) (closed : w.picture ≡ scope.Picture.none) (level : OwnLevel 0 w.ops w.saved) where
  -- a whole run
  reached : {run : Run} → Strip set.high s w.at run → Reached ms set s w run.at run.count run.drawn
  reached strip_none =
      record {
        stands = w;
        place = refl;
        saved = refl;
        closed = closed;
        whom = λ j. refl;
        lacks = refl;
        selects = refl;
        level = level;
        judged = refl;
        more = λ f k. record { row = []; is = sym (append-nil (flat f k w.ops)); kept = kept_none; long = refl };
      }
  reached (strip_line {run = run} {op = op} h l) =
      let r = reached h in
      subst (λ b. Reached ms set s w (op + 1) (run.count + 1) b) (or_true run.drawn)
      (reached-one ms set s w r (plain-line set s r.stands r.closed op (rw r.place l)))
  reached (strip_quiet {run = run} h b q) =
      let r = reached h in
      subst (λ x. Reached ms set s w (run.at + 1) (run.count + 1) x) (or_false run.drawn)
      (reached-one ms set s w r (subst (λ a. Plain set s r.stands (a + 1) false) r.place
      (plain_quiet set s r.stands r.closed (rw r.place b) (rw r.place q))))

-- where the code comes to behind a run, the definition comes to
pub run-comes : (t : List ℕ) (ms : List Motif) (set : Setting) (s : List ℕ) (w : scope.Inside) (old new : Inside) (run : Run) → Follows t ms old w
    → picture_as old.picture ≡ scope.Picture.none → Strip set.high s old.at run → new.at ≡ run.at → new.saved ≡ old.saved → new.picture ≡ old.picture
    → new.calls ≡ old.calls → new.missing ≡ old.missing
    → ((row more : List Stroke) → Runs old.both row → Kept run.drawn more → run.count ≡ length more → Runs new.both (row ++ more))
    → Comes t ms set s w new
run-comes t ms set s w old new run f shut h a b c d e k =
    let none = sym f.picture ∙ shut in
    let r = reached ms set s w none f.level (rw f.at at h) in
    record {
      stands = r.stands;
      follows = record {
        at = a ∙ sym r.place;
        saved = b ∙ f.saved ∙ sym r.saved;
        picture = ap picture_as c ∙ shut ∙ sym r.closed;
        whom = λ j l. ap (λ m. mark m j) d ∙ f.whom j l ∙ sym (r.whom j);
        lacks = e ∙ f.lacks ∙ sym r.lacks;
        runs = λ g u n.
            let m = r.more g n in
            subst⁻¹ (λ l. Runs new.both l) m.is (k (flat g n w.ops) m.row (f.runs g u n) m.kept m.long);
        level = r.level;
      };
      judged = r.judged;
      selects = r.selects;
    }
