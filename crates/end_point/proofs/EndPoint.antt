-- A line by its end point with nothing between its items: how it is read where it may come, as in a page and in a motif.
-- Assumes nothing.
use Prim.Native.Nat.{ℕ, ◌+◌, ◌*◌, ◌≤◌}
use mathlib.Core.Path.{◌≡◌, refl, sym, ap, ◌∙◌}
use mathlib.Core.Bool.{Bool, true, false}
use mathlib.Core.List.{List, [], ◌∷◌}
use native.Mathlib.Omega.{arith}
use borrow.Author.Tests.{le-leb, lt-leb}
use lib.ListN.{length, get_or}
use Rattle.scope.specs.Choice.{among, between}
use Rattle.scope.specs.Iterate.{onward}
use Rattle.scope.specs.Item.{Attribute, plain, width_of, kind_of, value_of, Pair, numbered, number_at, pair_of, pair_at, Scan, white, on_pair, scan_from, scan_at}
use Rattle.scope.specs.Names.{EndPoint}
use Rattle.scope.specs.Header.{Class, one, two}
use Rattle.scope.specs.Setting.{Setting}
use Rattle.scope.specs.Table.{table_one, table_two, table, line_in, rule_in}
use Rattle.scope.specs.Attributes.{has, two_at, point_in, type_taken, in_range, attribute_code, one_by_one, form_code}
use Rattle.scope.specs.Data.{due_of, reads_rows}
use Rattle.scope.specs.Order.{Phase, in_page, in_motif, drawn, may_come, rows_fit}
use Rattle.scope.specs.Reading.{Context, Read, with_data, as_whole, with_attributes, with_line, scanned, operator_at}
use Rattle.number.proofs.Digits.{one-digit}
use Rattle.items.proofs.Pairs.{numbers-all, scan_tag, black-item}
use Rattle.white.proofs.Spaces.{after-black}
use Rattle.end_point.specs.EndPoint.{line_of, Point, point_ubyte, point_uint16, point_sint16, point_real, Drawn, drawn_path, drawn_rel, Ends, Line}

-- whole numbers are taken
pub whole-taken : (high : Bool) (s : List ℕ) (first : ℕ) {tag bytes : ℕ} → bytes ≤ 4 → Point tag bytes → point_in (two_at high s tag first) ≡ true
unfolding two_at
whole-taken high s first k point_ubyte = refl
whole-taken high s first k point_uint16 = refl
whole-taken high s first k point_sint16 = refl
whole-taken high s first k point_real = absurd (omega arith)

-- a point's tag: two numbers, no white space and no operator
record IsPoint (tag bytes : ℕ) : Type 0 where
  wide : ℕ
  kind : kind_of tag ≡ plain 2 wide
  long : 2 * wide ≡ bytes
  black : white tag ≡ false
  value : between 0x41 0xbf tag ≡ false

is-point : {tag bytes : ℕ} → Point tag bytes → IsPoint tag bytes
unfolding kind_of width_of white
is-point point_ubyte = record { wide = 1; kind = refl; long = refl; black = refl; value = refl }
is-point point_uint16 = record { wide = 2; kind = refl; long = refl; black = refl; value = refl }
is-point point_sint16 = record { wide = 2; kind = refl; long = refl; black = refl; value = refl }
is-point point_real = record { wide = 4; kind = refl; long = refl; black = refl; value = refl }

drawn-black : {tag : ℕ} → Drawn tag → white tag ≡ false
unfolding white
drawn-black drawn_path = refl
drawn-black drawn_rel = refl

drawn-tag : {tag : ℕ} → Drawn tag → between 0x41 0xbf tag ≡ true
drawn-tag drawn_path = refl
drawn-tag drawn_rel = refl

-- its attribute
abbrev end_point : (point at : ℕ) → Attribute
end_point point at = record { number = EndPoint; tag = point; at = at; count = 2; first = at + 1 }

module _ (high : Bool) (s : List ℕ) (at bytes : ℕ) (p : IsPoint (get_or s at 0) bytes) (e : Ends s (at + 1 + bytes)) where
  mark-black : white (get_or s (at + 1 + bytes) 0) ≡ false
  unfolding white
  mark-black = rw e.mark refl

  -- the pair is EndPoint's
  pair_is : pair_at high s at 0 ≡ Pair.is (end_point (get_or s at 0) at) (at + 3 + bytes)
  unfolding pair_at value_of pair_of number_at numbered
  pair_is =
      let w = e.within in
      let n : at + 1 + 2 * p.wide ≡ at + 1 + bytes = let l = p.long in omega arith in
      let next : at + 1 + bytes + 1 + 1 ≡ at + 3 + bytes = omega arith in
      rw (
        p.kind,
        numbers-all s at (at + 1) 2 p.wide (let l = p.long in omega arith),
        n,
        after-black s (at + 1 + bytes) (omega arith) mark-black,
        lt-leb (length s) (at + 1 + bytes) (omega arith),
        e.mark,
        le-leb (at + 1 + bytes + 1 + 1) (length s) (omega arith),
        one-digit high s (at + 1 + bytes + 1),
        e.number,
        next,
      )

  scan_is : scan_at high s at ≡ Scan.tagged (get_or s (at + 3 + bytes) 0) (at + 3 + bytes) (end_point (get_or s at 0) at ∷ [])
  unfolding scan_at on_pair
  scan_is =
      let w = e.within in
      let same : at + 1 + bytes + 2 ≡ at + 3 + bytes = omega arith in
      let d : Drawn (get_or s (at + 3 + bytes) 0) = rw same at e.drawn in
      black-item high s at [] (omega arith) p.black p.value
      ∙ ap (λ x. onward (scan_from high s) (on_pair s [] x)) pair_is
      ∙ scan_tag high s (at + 3 + bytes) (end_point (get_or s at 0) at ∷ []) (omega arith) (drawn-black d) (drawn-tag d)

-- it breaks no rule of reading, where it may come
module _ (high gray opened asked : Bool) (phase : Phase) (s : List ℕ) (at op : ℕ) where
  lined : (class : Class) {point tag bytes : ℕ} → Point point bytes → point_in (two_at high s point (at + 1)) ≡ true → Drawn tag → may_come phase opened tag ≡ true
      → with_line (record { set = record { class = class; high = high; gray = gray }; phase = phase; opened = opened; asked = asked }) s tag op (end_point point at ∷ []) (line_in (table class) tag)
      ≡ Read.operator (line_of point tag at op)
  unfolding with_line line_in table_one table_two table among with_attributes one_by_one attribute_code rule_in has two_at type_taken in_range as_whole form_code rows_fit with_data due_of reads_rows
  lined one point_ubyte e drawn_path m = rw m
  lined one point_ubyte e drawn_rel m = rw m
  lined one point_uint16 e drawn_path m = rw m
  lined one point_uint16 e drawn_rel m = rw m
  lined one point_sint16 e drawn_path m = rw m
  lined one point_sint16 e drawn_rel m = rw m
  lined one point_real e drawn_path m = rw (m, e)
  lined one point_real e drawn_rel m = rw (m, e)
  lined two point_ubyte e drawn_path m = rw m
  lined two point_ubyte e drawn_rel m = rw m
  lined two point_uint16 e drawn_path m = rw m
  lined two point_uint16 e drawn_rel m = rw m
  lined two point_sint16 e drawn_path m = rw m
  lined two point_sint16 e drawn_rel m = rw m
  lined two point_real e drawn_path m = rw (m, e)
  lined two point_real e drawn_rel m = rw (m, e)

-- the operator of such a line
pub line-drawn : {high : Bool} {s : List ℕ} {at op : ℕ} → Line high s at op → Drawn (get_or s op 0)
line-drawn {high} {s} {at} {op} l = let k = l.is in let same : at + 1 + l.bytes + 2 ≡ op = omega arith in rw same at l.ends.drawn

pub line_read : (c : Context) (s : List ℕ) (at op : ℕ) → Line c.set.high s at op → may_come c.phase c.opened (get_or s op 0) ≡ true
    → operator_at c s at ≡ Read.operator (line_of (get_or s at 0) (get_or s op 0) at op)
unfolding operator_at scanned
line_read c s at op l m =
    ap (scanned c s)
    (scan_is c.set.high s at l.bytes (is-point l.point) l.ends ∙ ap (λ x. Scan.tagged (get_or s x 0) x (end_point (get_or s at 0) at ∷ [])) (sym l.is))
    ∙ lined c.set.high c.set.gray c.opened c.asked c.phase s at op c.set.class l.point l.numbers (line-drawn l) m

-- it may come in a page, and in a motif
pub line-in_page : (saved : ℕ) (opened : Bool) {tag : ℕ} → Drawn tag → may_come (in_page saved) opened tag ≡ true
unfolding may_come drawn among
line-in_page saved opened drawn_path = refl
line-in_page saved opened drawn_rel = refl

pub line-in_motif : (saved : ℕ) {tag : ℕ} → Drawn tag → may_come (in_motif saved) true tag ≡ true
unfolding may_come drawn among
line-in_motif saved drawn_path = refl
line-in_motif saved drawn_rel = refl

-- a page with so many states saved
abbrev pub in_page_context : (set : Setting) (opened : Bool) (saved : ℕ) → Context
in_page_context set opened saved = record { set = set; phase = in_page saved; opened = opened; asked = true }

pub read-line : (set : Setting) (opened : Bool) (saved : ℕ) (s : List ℕ) (at op : ℕ) → Line set.high s at op
    → operator_at (in_page_context set opened saved) s at ≡ Read.operator (line_of (get_or s at 0) (get_or s op 0) at op)
read-line set opened saved s at op l = line_read (in_page_context set opened saved) s at op l (line-in_page saved opened (line-drawn l))
