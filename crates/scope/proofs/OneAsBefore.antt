-- Request 6 leaves class 1;1 as it was: no line of its table takes an attribute of 2;1, so no operator that is read has one, and none is SetDefaultGS; hence
-- reading, the judging of a motif and the outcome of a job are those before.
-- Assumes nothing.
use Prim.Native.Nat.{ℕ, ◌+◌, ◌-◌, ◌*◌}
use mathlib.Core.Path.{◌≡◌, refl, sym, ap, ◌∙◌, subst}
use mathlib.Core.Bool.{Bool, true, false, ◌&&◌, ◌||◌}
use mathlib.Core.List.{List, [], ◌∷◌, ◌++◌}
use lib.ListN.{length, get_or}
use lib.Dec.{leb, eqb}
use borrow.Author.Tests.{eqb-true}
use Rattle.scope.specs.Choice.{pick}
use Rattle.scope.specs.Iterate.{iterate}
use Rattle.scope.specs.Header.{Form, ends, breaks, form_from, Class, one, two, Header, classed, header_of}
use Rattle.scope.specs.Setting.{Setting, of_motif, same_class}
use Rattle.scope.specs.Item.{Attribute, Scan, scan_at}
use Rattle.scope.specs.Names.{ReadStream, StreamDataLength, StartLine, BlockHeight, LinePath, LineRelPath, NumberOfPoints, PointType}
use Rattle.scope.specs.Table.{Rule, Row, Line, Ruled, table_one, table, line_in, rule_in}
use Rattle.scope.specs.Attributes.{Fault, fine, bad, has, attribute_code, one_by_one, first_of, value_in}
use Rattle.scope.specs.Data.{Image, row_of, pad_of, reads_rows, block_due, Due, point_bytes, due_of}
use Rattle.scope.specs.Order.{may_come, image_of, length_fits, rows_fit}
use Rattle.scope.specs.Reading.{Context, Read, with_data, as_whole, with_attributes, with_line, scanned, operator_at}
use Rattle.scope.specs.Motif as motif
use Rattle.scope.specs.Motif.{Picture, Inside, Judged, faulty, context_in, motif_step, judged_inside, motif_from, motif_of}
use Rattle.scope.specs.Judge.{outer, refused_at, starting, context_of, on_read, job_step, judged_from}
use Rattle.scope.specs.Verdict.{Entry, refused, admitted, entry_of, judged_after, outcome_at, outcome_of}
use Rattle.scope.specs.Before.{classed_before, header_before, fit_before, due_before, whole_before, attributes_before, line_before, scanned_before, operator_before, inside_before, motif_before, judged_before, behind_before, entered_before, outcome_before}
use Rattle.scope.specs.Claims.{ReadAsBefore, NoneRestores, MotifsAsBefore, OneAsBefore}
use Rattle.scope.proofs.Apart.{clash-of}
use Rattle.scope.proofs.Taken.{Taken, read_taken}

-- a test that adds nothing
with_true : (a : Bool) {b : Bool} → b ≡ true → (a && b) ≡ a
with_true true e = e
with_true false e = refl

is_fine : Fault → Bool
is_fine fine = true
is_fine (bad code place) = false

-- a line of these rules takes the attribute, or not
takes_it : Ruled → Bool
takes_it (Ruled.is r) = true
takes_it Ruled.none = false

-- an attribute without a rule is 11
unruled : (high : Bool) (s : List ℕ) (before : List Attribute) (a : Attribute) (r : Ruled) → takes_it r ≡ false → eqb (attribute_code high s before a r) 0 ≡ false
unfolding attribute_code takes_it
unruled high s before a Ruled.none g = refl
unruled high s before a (Ruled.is r) g = clash-of g

-- an attribute that the rules do not take is not among attributes found fine
not_taken : (high : Bool) (s : List ℕ) (rules : List Rule) (n : ℕ) → takes_it (rule_in rules n) ≡ false → (before l : List Attribute) → one_by_one high s rules before l ≡ fine → has n l ≡ false
unfolding one_by_one has is_fine
not_taken high s rules n h before [] e = refl
not_taken high s rules n h before (a ∷ l) e =
    by (eqb a.number n) refl (eqb (attribute_code high s before a (rule_in rules a.number)) 0) refl (not_taken high s rules n h (before ++ (a ∷ [])) l) e
  where
    by : (b : Bool) → eqb a.number n ≡ b → (c : Bool) → eqb (attribute_code high s before a (rule_in rules a.number)) 0 ≡ c
        → (one_by_one high s rules (before ++ (a ∷ [])) l ≡ fine → has n l ≡ false)
        → pick c (one_by_one high s rules (before ++ (a ∷ [])) l) (bad (attribute_code high s before a (rule_in rules a.number)) a.at) ≡ fine
        → pick b true (has n l) ≡ false
    by b f false g ih k = clash-of (sym (ap is_fine k))
    by true f true g ih k = clash-of (sym g ∙ unruled high s before a (rule_in rules a.number) (ap (λ m. takes_it (rule_in rules m)) (eqb-true a.number n f) ∙ h))
    by false f true g ih k = ih k

-- a number that no attribute has reads as 0
no_value : (high : Bool) (s : List ℕ) (n : ℕ) (l : List Attribute) → has n l ≡ false → value_in high s l n ≡ 0
unfolding has value_in
no_value high s n [] h = refl
no_value high s n (a ∷ l) h = by (eqb a.number n) (first_of high s a) (no_value high s n l) h
  where
    by : (b : Bool) (v : ℕ) → (has n l ≡ false → value_in high s l n ≡ 0) → pick b true (has n l) ≡ false → pick b v (value_in high s l n) ≡ 0
    by true v ih k = clash-of k
    by false v ih k = ih k

-- what a test that passes at each line says of a line that was found
unfoldable every_line : (Row → Bool) → List Row → Bool
every_line test [] = true
every_line test (r ∷ rs) = pick (test r) (every_line test rs) false

line_or : Row → Line → Row
line_or d (Line.is r) = r
line_or d Line.none = d

is_line : Line → Bool
is_line (Line.is r) = true
is_line Line.none = false

both : (a b : Bool) → pick a b false ≡ true → (a ≡ true) × (b ≡ true)
both true b e = (refl, e)
both false b e = clash-of (sym e)

line-passes : (test : Row → Bool) (rows : List Row) → every_line test rows ≡ true → (tag : ℕ) (x : Row) → line_in rows tag ≡ Line.is x → test x ≡ true
unfolding every_line line_in line_or is_line
line-passes test [] t tag x e = clash-of (sym (ap is_line e))
line-passes test (r ∷ rs) t tag x e = by (eqb r.op tag) (line-passes test rs (both (test r) (every_line test rs) t).1 tag x) e
  where
    by : (b : Bool) → (line_in rs tag ≡ Line.is x → test x ≡ true) → elim b [ true ↦ Line.is r | false ↦ line_in rs tag ] ≡ Line.is x → test x ≡ true
    by true ih k = subst (λ (y : Row). test y ≡ true) (ap (line_or r) k) (both (test r) (every_line test rs) t).0
    by false ih k = ih k

-- no line of 1;1 takes PadBytesMultiple or BlockByteLength
lacks : Row → Bool
lacks r = pick (takes_it (rule_in r.rules 110)) false (pick (takes_it (rule_in r.rules 111)) false true)

all-lack : every_line lacks table_one ≡ true
unfolding every_line lacks takes_it table_one rule_in
all-lack = refl

neither : (a b : Bool) → pick a false (pick b false true) ≡ true → (a ≡ false) × (b ≡ false)
neither true b e = clash-of (sym e)
neither false true e = clash-of (sym e)
neither false false e = (refl, refl)

-- SetDefaultGS has no line there
no_default : (tag : ℕ) (r : Row) → line_in table_one tag ≡ Line.is r → eqb tag 0x57 ≡ false
unfolding table_one line_in is_line
no_default tag r e = by (eqb tag 0x57) refl
  where
    by : (b : Bool) → eqb tag 0x57 ≡ b → b ≡ false
    by true f = clash-of (sym (ap is_line (ap (line_in table_one) (sym (eqb-true tag 0x57 f)) ∙ e)))
    by false f = refl

-- what an operator that is read there lacks
module _ (c : Context) (s : List ℕ) (l : List Attribute) (i : Image) (none-pads : value_in c.set.high s l 110 ≡ 0) (none-tells : has 111 l ≡ false) where
  four_bytes : pad_of c.set.high s l ≡ 4
  unfolding pad_of
  four_bytes = rw none-pads refl

  due_before_lem : (tag : ℕ) → due_of c.set.high s i tag l ≡ due_before c.set.high s i tag l
  unfolding due_of due_before block_due
  due_before_lem tag = λ k.
      pick (eqb tag ReadStream) (Due.reads (value_in c.set.high s l StreamDataLength))
      (pick (reads_rows tag) (Due.reads (value_in c.set.high s l BlockHeight * row_of i.width i.depth (four_bytes k)))
      (pick (eqb tag LinePath || eqb tag LineRelPath)
      (pick (has NumberOfPoints l) (Due.reads (point_bytes (value_in c.set.high s l PointType) (value_in c.set.high s l NumberOfPoints))) Due.none) Due.none))

  fits-any : length_fits c.set.high s i l ≡ true
  unfolding length_fits
  fits-any = rw none-tells refl

  fit-before : (tag : ℕ) → rows_fit c.set.high s i tag l ≡ fit_before c.set.high s i tag l
  unfolding rows_fit fit_before
  fit-before tag = λ k.
      pick (reads_rows tag) (eqb (value_in c.set.high s l StartLine) i.rows && with_true (leb (i.rows + value_in c.set.high s l BlockHeight) i.height) fits-any k) true

module _ (c : Context) (s : List ℕ) (tag at : ℕ) (l : List Attribute) where
  abbrev image : Image
  image = image_of c.phase

  whole_before_lem : value_in c.set.high s l 110 ≡ 0 → has 111 l ≡ false → (code : ℕ) → as_whole c s tag at l code ≡ whole_before c s tag at l code
  unfolding as_whole whole_before
  whole_before_lem pads tells code = λ k.
      pick (eqb code 0)
      (pick (fit-before c s l image pads tells tag k) (with_data c s tag at l (due_before_lem c s l image pads tells tag k)) (Read.no 14 at))
      (Read.no code at)

  attributes_before_lem : (r : Row) → line_in table_one tag ≡ Line.is r → (f : Fault) → one_by_one c.set.high s r.rules [] l ≡ f
      → with_attributes c s tag at l r f ≡ attributes_before c s tag at l r f
  unfolding with_attributes attributes_before lacks
  attributes_before_lem r e (bad code place) g = refl
  attributes_before_lem r e fine g =
      let n = neither _ _ (line-passes lacks table_one all-lack tag r e) in
      whole_before_lem (no_value c.set.high s 110 l (not_taken c.set.high s r.rules 110 n.0 [] l g)) (not_taken c.set.high s r.rules 111 n.1 [] l g) _

  line_before_lem : (x : Line) → line_in table_one tag ≡ x → with_line c s tag at l x ≡ line_before c s tag at l x
  unfolding with_line line_before
  line_before_lem Line.none e = refl
  line_before_lem (Line.is r) e = ap (λ y. pick (may_come c.phase c.opened tag) y (Read.no 10 at)) (attributes_before_lem r e (one_by_one c.set.high s r.rules [] l) refl)

scan_before : (c : Context) (s : List ℕ) → c.set.class ≡ one → (x : Scan) → scanned c s x ≡ scanned_before c s x
unfolding scanned scanned_before table
scan_before c s e (Scan.tagged tag at l) = ap (λ k. with_line c s tag at l (line_in (table k) tag)) e ∙ line_before_lem c s tag at l (line_in table_one tag) refl
scan_before c s e Scan.ended = refl
scan_before c s e (Scan.no code place) = refl

pub read-as_before : ReadAsBefore
unfolding operator_at operator_before
read-as_before c s at e = scan_before c s e (scan_at c.set.high s at)

pub none-restores : NoneRestores
unfolding table
none-restores c s at o e h = by (subst (Taken c s) h (read_taken c s at))
  where
    by : Taken c s (Read.operator o) → eqb o.tag 0x57 ≡ false
    by (Taken.operator {r = r} l f fit) = no_default o.tag r (ap (λ k. line_in (table k) o.tag) (sym e) ∙ l)

-- a motif: each operator in it is read as before, and one with a header of 2;1 is 4 at 12 in either way
inside-before : (set : Setting) (s : List ℕ) → set.class ≡ one → judged_inside set s ≡ inside_before set s
unfolding judged_inside inside_before motif_step context_in
inside-before set s e = λ k. iterate (λ w. motif.on_read set s w (read-as_before (context_in set w) s w.at e k)) (faulty 5 0) (λ w. length s - w.at)

-- before the first item of a motif
abbrev begun : ℕ → Inside
begun next = record { at = next; saved = 0; picture = Picture.none; ops = [] }

module _ (set : Setting) (s : List ℕ) (e : set.class ≡ one) where
  by-class : (a b : Bool) (high : Bool) (n : ℕ)
      → motif_from set s (pick a (Header.is one high n) (pick b (Header.is two high n) (Header.no 4 12))) ≡ motif_before set s (pick a (Header.is one high n) (Header.no 4 12))
  unfolding motif_from motif_before
  by-class true b high n =
      ap (λ (k : Class). pick (same_class one k) (judged_inside (of_motif set high) s (begun n)) (faulty 4 12)) e
      ∙ ap (λ (f : Inside → Judged). f (begun n)) (inside-before (of_motif set high) s e)
  by-class false true high n = ap (λ (k : Class). pick (same_class two k) (judged_inside (of_motif set high) s (begun n)) (faulty 4 12)) e
  by-class false false high n = refl

  by-header : (a : Bool) (f : Form) → motif_from set s (pick a (Header.no 3 0) (classed s f)) ≡ motif_before set s (pick a (Header.no 3 0) (classed_before s f))
  unfolding motif_from motif_before classed classed_before
  by-header true f = refl
  by-header false (breaks i) = refl
  by-header false (ends n) =
      by-class (eqb (get_or s 12 0) 0x31 && eqb (get_or s 14 0) 0x31) (eqb (get_or s 12 0) 0x32 && eqb (get_or s 14 0) 0x31) (eqb (get_or s 0 0) 0x28) n

pub motifs-as_before : MotifsAsBefore
unfolding motif_of header_of header_before
motifs-as_before set s e = by-header set s e (eqb (get_or s 0 0) 0x27) (form_from 0 s)

-- a header of class 1;1 is one before
is_two : Header → Bool
is_two (Header.is one high next) = false
is_two (Header.is two high next) = true
is_two (Header.no code place) = false

module _ (high : Bool) (next : ℕ) where
  class-before : (a b : Bool) (order : Bool) (n : ℕ) → pick a (Header.is one order n) (pick b (Header.is two order n) (Header.no 4 12)) ≡ Header.is one high next
      → pick a (Header.is one order n) (Header.no 4 12) ≡ Header.is one high next
  unfolding is_two
  class-before true b order n e = e
  class-before false true order n e = clash-of (ap is_two e)
  class-before false false order n e = e

  form-before : (s : List ℕ) (a : Bool) (f : Form) → pick a (Header.no 3 0) (classed s f) ≡ Header.is one high next
      → pick a (Header.no 3 0) (classed_before s f) ≡ Header.is one high next
  unfolding classed classed_before
  form-before s true f e = e
  form-before s false (breaks i) e = e
  form-before s false (ends n) e =
      class-before (eqb (get_or s 12 0) 0x31 && eqb (get_or s 14 0) 0x31) (eqb (get_or s 12 0) 0x32 && eqb (get_or s 14 0) 0x31) (eqb (get_or s 0 0) 0x28) n e

  header-before : (s : List ℕ) → header_of s ≡ Header.is one high next → header_before s ≡ Header.is one high next
  unfolding header_of header_before
  header-before s e = form-before s (eqb (get_or s 0 0) 0x27) (form_from 0 s) e

-- a job of class 1;1: the same header, and each operator read as before
judged-before : (given : ℕ → Bool) (set : Setting) (s : List ℕ) (room : ℕ) → set.class ≡ one → judged_from given set s room ≡ judged_before given set s room
unfolding judged_from judged_before job_step context_of
judged-before given set s room e = λ k.
    iterate (λ st. on_read given set s room st (read-as_before (context_of given set st.place) s st.at e k)) (refused_at 5 0 outer (starting 0)) (λ st. length s - st.at)

pub one-as_before : OneAsBefore
unfolding outcome_of outcome_before outcome_at entered_before judged_after behind_before
one-as_before gray given job work room high next e = by (entry_of (length job) work)
  where
    set : Setting
    set = record { class = one; high = high; gray = gray }

    by : (x : Entry) → outcome_at gray given job room x ≡ entered_before gray given job room x
    by (refused code position) = refl
    by admitted =
        ap (judged_after gray given job room) e ∙ ap (λ f. f (starting next)) (judged-before given set job room refl)
        ∙ ap (behind_before gray given job room) (sym (header-before high next job e))
