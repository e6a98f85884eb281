-- Two readings of items that are the same, each in its own byte order and at its own places: the same operator, which says the same, or the same refusal.
-- Assumes nothing.
use Prim.Native.Nat.{ℕ, suc}
use mathlib.Core.Path.{◌≡◌, refl, sym, ap, ◌∙◌}
use mathlib.Core.Bool.{Bool, not, ◌&&◌}
use mathlib.Core.List.{List, []}
use lib.Dec.{eqb}
use Rattle.scope.specs.Item.{Attribute, Scan}
use Rattle.scope.specs.Table.{Row, Line, table, line_in}
use Rattle.scope.specs.Attributes.{Fault, one_by_one, form_code}
use Rattle.scope.specs.Data.{Due, Found, due_of}
use Rattle.scope.specs.Order.{may_come, image_of, rows_fit}
use Rattle.scope.specs.Reading.{Context, Read, with_block, with_data, as_whole, with_attributes, with_line, scanned}
use Rattle.scope.proofs.Typed.{AllTyped, none, fine-typed}
use Rattle.scope.proofs.Alike.{pick-like, LikeContext, LikeAttrs, nil, LikeFault, well, ill, one-like, form-like, rows-like, due_like, attributes_say, LikeFound, found, LikeBlock, LikeScan, tagged, LikeRead, nowhere, read_from}

-- so what is read with such items is the same, in contexts that differ in the byte order at most
module _ (c d : Context) (e : LikeContext c d) (s t : List ℕ) (At On : ℕ → ℕ → Type 0) where
  abbrev h : Bool
  h = c.set.high

  abbrev k : Bool
  k = d.set.high

  abbrev Q : Read → Read → Type 0
  Q = LikeRead h k s t At On

  module _ (tag x y : ℕ) (ax : At x y) {l m : List Attribute} (like : LikeAttrs h k s t At On l m) (behind : On (suc x) (suc y)) (block : LikeBlock h k s t At On x y) where
    module _ (typed : AllTyped l) where
      with_block-like : (due : ℕ) {f g : Found} → LikeFound h k s t At On due f g → Q (with_block tag x l due f) (with_block tag y m due g)
      unfolding with_block
      with_block-like due (found z u v) =
          LikeRead.operator (record { at = ax; attrs = like; where_data = read_from z; next = u; says = attributes_say h k s t At On refl refl refl like typed v })
      with_block-like due (LikeFound.no z) = LikeRead.no z

      with_data-like : (due : Due) → Q (with_data c s tag x l due) (with_data d t tag y m due)
      unfolding with_data
      with_data-like Due.none =
          LikeRead.operator (record { at = ax; attrs = like; where_data = nowhere; next = behind; says = attributes_say h k s t At On refl refl refl like typed refl })
      with_data-like (Due.reads due) =
          pick-like Q (c.asked && not c.opened) (d.asked && not d.opened) (λ i. e.asked i && not (e.opened i)) (LikeRead.no ax) (with_block-like due (block due))

      whole-like_read : (code : ℕ) → Q (as_whole c s tag x l code) (as_whole d t tag y m code)
      unfolding as_whole
      whole-like_read code =
          let i = image_of c.phase in
          pick-like Q (eqb code 0) (eqb code 0) refl
          (pick-like Q (rows_fit h s i tag l) (rows_fit k t (image_of d.phase) tag m)
          (rows-like h k s t At On like typed i tag ∙ ap (λ p. rows_fit k t (image_of p) tag m) e.phase)
          (rw (due_like h k s t At On like typed i tag ∙ ap (λ p. due_of k t (image_of p) tag m) e.phase) (with_data-like (due_of k t (image_of d.phase) tag m))) (LikeRead.no ax)) (LikeRead.no ax)

    attributes_like : (r : Row) → line_in (table c.set.class) tag ≡ Line.is r → {f g : Fault} → one_by_one h s r.rules [] l ≡ f → LikeFault h k s t At On f g
        → Q (with_attributes c s tag x l r f) (with_attributes d t tag y m r g)
    unfolding with_attributes
    attributes_like r u v well =
        rw (form-like h k s t At On r.rules r.form like)
        (whole-like_read (fine-typed h s c.set.class tag r u l v) (form_code m r.rules r.form))
    attributes_like r u v (ill z p) = rw z (LikeRead.no p)

    line-like : (r : Line) → line_in (table c.set.class) tag ≡ r → Q (with_line c s tag x l r) (with_line d t tag y m r)
    unfolding with_line
    line-like Line.none u = LikeRead.no ax
    line-like (Line.is r) u =
        pick-like Q (may_come c.phase c.opened tag) (may_come d.phase d.opened tag) (λ i. may_come (e.phase i) (e.opened i) tag)
        (attributes_like r u refl (one-like h k s t At On r.rules nil like)) (LikeRead.no ax)

  pub scanned-like : {v w : Scan} → LikeScan h k s t At On v w → Q (scanned c s v) (scanned d t w)
  unfolding scanned
  scanned-like (tagged {g = g} {x = x} {y = y} {m = m} ax like behind block) =
      rw (ap (λ z. line_in (table z) g) (sym e.class)) (line-like g x y ax like behind block (line_in (table c.set.class) g) refl)
  scanned-like LikeScan.ended = LikeRead.ended
  scanned-like (LikeScan.no x) = LikeRead.no x
