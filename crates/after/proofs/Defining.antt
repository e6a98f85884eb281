-- The patterns that are defined: EndRastPattern defines the one that is open, which has had its place since BeginRastPattern, so never more than 32 are.
-- Assumes nothing.
use Prim.Native.Nat.{ℕ, ◌≤◌, ◌<◌}
use mathlib.Core.Path.{◌≡◌, refl, sym, ◌∙◌}
use mathlib.Core.Bool.{Bool, true, false, not, ◌&&◌, ◌||◌}
use mathlib.Core.List.{List, ◌∷◌}
use native.Mathlib.Omega.{arith}
use lib.ListN.{length}
use lib.Dec.{eqb, leb}
use borrow.Author.Tests.{eq-eqb, ne_eqb, eqb-true, eqb-false, lt-leb, leb-false}
use Rattle.items.specs.Rows.{rows_of}
use Rattle.scope.specs.Choice.{pick, among}
use Rattle.scope.specs.Setting.{Setting}
use Rattle.scope.specs.Item.{Attribute}
use Rattle.scope.specs.Data.{Image, reads_rows}
use Rattle.scope.specs.Motif.{Hatch, hatch_of, Picture, read_on}
use Rattle.scope.specs.Session.{Session, page_patterns, defined, defined_after}
use Rattle.scope.specs.Judge.{State, case_of, numbers_of, no_place}
use Rattle.scope.proofs.Ends.{pick_all}
use Rattle.order.specs.Pictures.{picture_for}
use Rattle.reader.specs.Reads.{operator_as}
use Rattle.reader.specs.declared.reading.Operator.{Operator}
use Rattle.pattern_rows.specs.Numbers.{OfPage, OfSession, numbers_in, noted, selecting_in, Others}
use Rattle.patterns.proofs.Enough.{page-still, session-still}
use Rattle.place.specs.Places.{HasPlace, none_place, image_place, hatch_place}
use Rattle.place.proofs.Hatched.{beside-of, beside_same}
use Rattle.after.specs.Hatching.{Defines}

-- with no more than 32 there is room for a number more
pub noted-few : (n : ℕ) (ns : List ℕ) → length ns ≤ 32 → noted n ns ≡ defined n ns
unfolding noted
noted-few n ns h = let l : length ns < 65 = omega arith in rw (lt-leb 65 (length ns) l)

-- EndRastPattern alone defines a pattern
pub defined-other : (session : Bool) (tag : ℕ) (v : Picture) (ns : List ℕ) → (tag ≡ 0xb5 → ⊥) → defined_after session tag v ns ≡ ns
unfolding defined_after
defined-other session tag Picture.none ns h = refl
defined-other session tag (Picture.being i) ns h = refl
defined-other session tag (Picture.hatching x i) ns h = rw (ne_eqb tag 0xb5 h)

-- a number that is there, or for which there is a place
place-of : (n : ℕ) (l : List ℕ) → length l ≤ 32 → leb 32 (length l) && not (among l n) ≡ false → length (defined n l) ≤ 32
unfolding defined
place-of n l h = by (among l n)
  where
    by : (b : Bool) → leb 32 (length l) && not b ≡ false → length (pick b l (n ∷ l)) ≤ 32
    by true e = h
    by false e = let k = leb-false 32 (length l) (both (leb 32 (length l)) e) in omega arith
      where
        both : (t : Bool) → t && true ≡ false → t ≡ false
        both true z = z
        both false z = refl

-- what the code defines
module _ {p p₁ : List ℕ} (h : Hatch) (i : Image) (e : selecting_in p₁ ≡ selecting_in p) where
  pub define_session : h.session ≡ true → numbers_in p₁ OfSession ≡ noted h.number (numbers_in p OfSession) → Others p OfSession p₁
      → Defines p 0xb5 (Picture.hatching h i) p₁
  unfolding defined_after
  define_session b n o =
      record {
        beside = beside-of o (omega arith) e (λ ns z. rw (n, o.same OfPage (λ x. omega (arith, x))) (session-still h.number (numbers_in p OfPage) (numbers_in p OfSession) ns z));
        page = λ f. rw b (o.same OfPage (λ x. omega (arith, x)));
        session = λ f. rw b (n ∙ noted-few h.number (numbers_in p OfSession) f);
      }

  pub define_page : h.session ≡ false → numbers_in p₁ OfPage ≡ noted h.number (numbers_in p OfPage) → Others p OfPage p₁
      → Defines p 0xb5 (Picture.hatching h i) p₁
  unfolding defined_after
  define_page b n o =
      record {
        beside = beside-of o (omega arith) e (λ ns z. rw (n, o.same OfSession (λ x. omega (arith, x))) (page-still h.number (numbers_in p OfPage) (numbers_in p OfSession) ns z));
        page = λ f. rw b (n ∙ noted-few h.number (numbers_in p OfPage) f);
        session = λ f. rw b (o.same OfSession (λ x. omega (arith, x)));
      }

-- nothing is defined
module _ {p : List ℕ} (tag : ℕ) where
  as_before : {v : Picture} → ((session : Bool) (ns : List ℕ) → defined_after session tag v ns ≡ ns) → Defines p tag v p
  as_before f =
      record { beside = beside_same; page = λ h. sym (f false (numbers_in p OfPage)); session = λ h. sym (f true (numbers_in p OfSession)) }

  pub defines-other : {v : Picture} → (tag ≡ 0xb5 → ⊥) → Defines p tag v p
  defines-other {v} h = as_before (λ s ns. defined-other s tag v ns h)

  pub defines-none : Defines p tag Picture.none p
  unfolding defined_after
  defines-none = as_before (λ s ns. refl)

  pub defines-image : {i : Image} → Defines p tag (Picture.being i) p
  unfolding defined_after
  defines-image = as_before (λ s ns. refl)

module _ {ns ms : List ℕ} (few-page : length ns ≤ 32) (few-session : length ms ≤ 32) where
  -- so 32 are enough
  pub few-after : (tag : ℕ) {v : Picture} → HasPlace ns ms v → (length (defined_after false tag v ns) ≤ 32) × (length (defined_after true tag v ms) ≤ 32)
  unfolding defined_after
  few-after tag none_place = (few-page, few-session)
  few-after tag image_place = (few-page, few-session)
  few-after tag (hatch_place {h = h} z) = by (eqb tag 0xb5) h.session z
    where
      by : (e s : Bool) → length (defined h.number (pick s ms ns)) ≤ 32
          → (length (pick (e && pick false s (not s)) (defined h.number ns) ns) ≤ 32)
          × (length (pick (e && pick true s (not s)) (defined h.number ms) ms) ≤ 32)
      by true true z = (few-page, z)
      by true false z = (z, few-session)
      by false s z = (few-page, few-session)

  -- 33 was judged at BeginRastPattern
  pub begin-place : (x : Session) (h : Hatch) → x.patterns ≡ ms → page_patterns x.busy ≡ ns
      → leb 32 (length (numbers_of h.session x)) && not (among (numbers_of h.session x) h.number) ≡ false
      → length (defined h.number (pick h.session ms ns)) ≤ 32
  begin-place x h e f = by h.session
    where
      by : (s : Bool) → leb 32 (length (numbers_of s x)) && not (among (numbers_of s x) h.number) ≡ false → length (defined h.number (pick s ms ns)) ≤ 32
      by true z = place-of h.number ms few-session (rw e at z)
      by false z = place-of h.number ns few-page (rw f at z)

-- 33 is not broken by BeginRastPattern
abbrev crowded : Session → Hatch → Bool
crowded x h = leb 32 (length (numbers_of h.session x)) && not (among (numbers_of h.session x) h.number)

pub not_full : (set : Setting) (job attrs : List ℕ) (x : Session) (o : Operator) (st : State) → no_place (case_of set job st x (operator_as o attrs)) ≡ false
    → o.tag ≡ 0xb3 → crowded x (hatch_of set.high job (rows_of attrs o.count)) ≡ false
unfolding no_place case_of
not_full set job attrs x o st f b = rw (eq-eqb o.tag 0xb3 b) at f

-- rows read leave the pattern as it is
read-place : {ns ms : List ℕ} (n : ℕ) {v : Picture} → HasPlace ns ms v → HasPlace ns ms (read_on n v)
unfolding read_on
read-place n none_place = none_place
read-place n image_place = image_place
read-place n (hatch_place z) = hatch_place z

-- what is open after an operator has its place
module _ (high : Bool) (s : List ℕ) (tag : ℕ) (l : List Attribute) (v : Picture) where
  end_none : tag ≡ 0xb5 → picture_for high s tag l v ≡ Picture.none
  unfolding picture_for reads_rows
  end_none e = rw e

  open_place : {ns ms : List ℕ} → HasPlace ns ms v → (tag ≡ 0xb3 → length (defined (hatch_of high s l).number (pick (hatch_of high s l).session ms ns)) ≤ 32)
      → HasPlace ns ms (picture_for high s tag l v)
  unfolding picture_for
  open_place {ns} {ms} z f =
      pick_all (HasPlace ns ms) (eqb tag 0xb0) (λ _. image_place)
      (λ _. pick_all (HasPlace ns ms) (eqb tag 0xb3) (λ e. hatch_place (f (eqb-true tag 0xb3 e)))
      (λ _. pick_all (HasPlace ns ms) (reads_rows tag) (λ _. read-place _ z)
      (λ _. pick_all (HasPlace ns ms) (eqb tag 0xb2 || eqb tag 0xb5) (λ _. none_place) (λ _. z))))

  pub place_after_lem : {ns ms : List ℕ} → HasPlace ns ms v
      → (tag ≡ 0xb3 → length (defined (hatch_of high s l).number (pick (hatch_of high s l).session ms ns)) ≤ 32)
      → HasPlace (defined_after false tag v ns) (defined_after true tag v ms) (picture_for high s tag l v)
  place_after_lem {ns} {ms} z f = by (eqb tag 0xb5) refl
    where
      by : (b : Bool) → eqb tag 0xb5 ≡ b → HasPlace (defined_after false tag v ns) (defined_after true tag v ms) (picture_for high s tag l v)
      by true e = rw (end_none (eqb-true tag 0xb5 e)) none_place
      by false e = rw (defined-other false tag v ns (eqb-false tag 0xb5 e), defined-other true tag v ms (eqb-false tag 0xb5 e)) (open_place z f)
