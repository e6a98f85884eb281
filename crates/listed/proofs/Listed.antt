-- The records of an operator: their lengths, one attribute more, and the list with one operator more.
-- Assumes nothing.
use mathlib.Core.Path.{◌≡◌, refl, sym, ap, ◌∙◌}
use mathlib.Core.Bool.{Bool, true, false, false≢true}
use mathlib.Core.List.{List, [], ◌∷◌, ◌++◌, append-nil, append_assoc}
use Prim.Native.Nat.{ℕ, zero, suc, ◌+◌, ◌*◌, ◌-◌, ◌/◌, ◌%◌, ◌≤◌, ◌<◌}
use native.Mathlib.Nat.{add-zero, zero-add, zero-mul, suc-mul}
use native.Mathlib.Numerals.{add-one}
use native.Mathlib.Omega.{arith}
use lib.Dec.{ltb, leb}
use lib.ListN.{length, take, drop, get_or, length-append}
use lib.Seq.{drop-drop, drop_at, take_at}
use borrow.Author.Tests.{lt-ltb, le-ltb, lt-leb, leb-true, leb-false, ltb-false}
use Rattle.scope.specs.Choice.{pick}
use Rattle.scope.specs.Item.{Attribute}
use Rattle.scope.specs.Reading.{Operator}
use Rattle.scope.specs.Verdict.{four, attribute_record, operator_record, attribute_records, records_before}
use Rattle.items.specs.Rows.{Sized, row_at, rows_from, rows_of}
use Rattle.buffer.specs.Over.{over, joined_at}
use Rattle.buffer.proofs.Parts.{over-next}
use Rattle.listed.specs.Listed.{BytesIn, bytes_more, low_of, lows, room_for, sixteen, records_for}

pub length-attribute_record : (a : Attribute) → length (attribute_record a) ≡ 16
unfolding attribute_record four
length-attribute_record a = refl

pub length-attribute_records : (l : List Attribute) → length (attribute_records l) ≡ length l * 16
unfolding attribute_records attribute_record four
length-attribute_records [] = rw zero-mul
length-attribute_records (a ∷ l) =
    let h : length (attribute_records l) ≡ length l * 16 = length-attribute_records l in
    rw suc-mul (omega arith)

pub length-operator_record : (o : Operator) → length (operator_record o) ≡ 16
unfolding operator_record four
length-operator_record o = refl

-- what the code lists of an operator is what 01 says
pub records_for-is : (o : Operator)
    → records_for o.tag o.at o.length o.first o.attrs ≡ attribute_records o.attrs ++ operator_record o
unfolding records_for sixteen operator_record
records_for-is o = refl

length-sixteen : (a b c d x y z : ℕ) → length (sixteen a b c d x y z) ≡ 16
unfolding sixteen four
length-sixteen a b c d x y z = refl

pub length-records_for : (tag at size first : ℕ) (l : List Attribute) → length (records_for tag at size first l) ≡ suc (length l) * 16
unfolding records_for
length-records_for tag at size first l = rw (length-append, length-attribute_records, length-sixteen) (omega arith)

-- a list that begins with some records, and gets new ones right after them
pub listed_more : (list₀ list recs new : List ℕ) (records : ℕ) → list ≡ recs ++ drop (length recs) list₀ → length recs ≡ records * 16
    → over list (records * 16) new ≡ (recs ++ new) ++ drop (length (recs ++ new)) list₀
unfolding over
listed_more list₀ list recs new records e l =
    let k : ℕ = records * 16 in
    let t : take k (recs ++ drop (length recs) list₀) ≡ recs = take_at recs (drop (length recs) list₀) k l in
    let d : drop (k + length new) (recs ++ drop (length recs) list₀) ≡ drop (length recs + length new) list₀ =
    rw (← drop-drop (length new) k (recs ++ drop (length recs) list₀), drop_at recs (drop (length recs) list₀) k l, drop-drop) in
    rw (e, t, d, length-append) (sym (append_assoc recs new (drop (length recs + length new) list₀)))

-- records stand before the rest
before-rest : (os : List Operator) (rest : List ℕ) → records_before os rest ≡ records_before os [] ++ rest
unfolding records_before
before-rest [] rest = refl
before-rest (o ∷ os) rest =
    let n : List ℕ = attribute_records o.attrs in
    let m : List ℕ = operator_record o in
    rw (before-rest os (n ++ (m ++ rest)), before-rest os (n ++ (m ++ [])), append-nil) (simp append_assoc)

-- the records of one operator more
pub records_before-more : (o : Operator) (os : List Operator)
    → records_before (o ∷ os) [] ≡ records_before os [] ++ records_for o.tag o.at o.length o.first o.attrs
unfolding records_before
records_before-more o os =
    rw (before-rest os (attribute_records o.attrs ++ (operator_record o ++ [])), append-nil, records_for-is o)

length-rows_from : (a : List ℕ) (i k : ℕ) → length (rows_from a i k) ≡ k
unfolding rows_from
length-rows_from a i zero = refl
length-rows_from a i (suc k) = ap suc (length-rows_from a (suc i) k)

pub length-rows_of : (a : List ℕ) (n : ℕ) → length (rows_of a n) ≡ n
unfolding rows_of
length-rows_of a n = length-rows_from a 0 n

pub length-lows : (l : List Attribute) → length (lows l) ≡ length l
unfolding lows
length-lows [] = refl
length-lows (a ∷ l) = ap suc (length-lows l)

low_of_low : (n : ℕ) → n < 256 → n % 256 ≡ n
low_of_low n h = omega arith

-- where numbers and tags are bytes, their low bytes are all of them
pub lows-bytes : (l : List Attribute) → BytesIn l → lows l ≡ l
unfolding lows low_of
lows-bytes [] b = refl
lows-bytes (a ∷ l) (bytes_more p q b) =
    let e : low_of a ≡ a =
    λ i. record { number = low_of_low a.number p i; tag = low_of_low a.tag q i; at = a.at; count = a.count; first = a.first } in
    rw (lows-bytes l b) (ap (λ (x : Attribute). x ∷ l) e)

-- the records of one attribute more
records-more : (a : List ℕ) (i k : ℕ)
    → attribute_records (lows (rows_from a i (suc k))) ≡ attribute_records (lows (rows_from a i k)) ++ attribute_record (low_of (row_at a (i + k)))
unfolding rows_from lows attribute_records
records-more a i zero = rw (add-zero, append-nil)
records-more a i (suc k) =
    let e : suc i + k ≡ i + suc k = omega arith in
    rw (records-more a (suc i) k, e, append_assoc)

-- row i of the array as a record
pub attribute-sixteen : (a r : List ℕ) (i : ℕ)
    → r ≡ sixteen 1 (get_or a (i * 5) 0 % 256) (get_or a (i * 5 + 1) 0 % 256) 0 (get_or a (i * 5 + 2) 0) (get_or a (i * 5 + 3) 0) (get_or a (i * 5 + 4) 0)
    → r ≡ attribute_record (low_of (row_at a i))
unfolding sixteen attribute_record low_of row_at
attribute-sixteen a r i e = e

-- the list with the records of i attributes gets that of attribute i
pub attribute-more : (list₀ list a r : List ℕ) (records i : ℕ) → (records + suc i) * 16 ≤ length list₀
    → list ≡ over list₀ (records * 16) (attribute_records (lows (rows_of a i))) → r ≡ attribute_record (low_of (row_at a i))
    → over list ((records + i) * 16) r ≡ over list₀ (records * 16) (attribute_records (lows (rows_of a (i + 1))))
unfolding rows_of
attribute-more list₀ list a r records i room e f =
    let d : List ℕ = attribute_records (lows (rows_from a 0 i)) in
    let s : List ℕ = attribute_record (low_of (row_at a i)) in
    let m : attribute_records (lows (rows_from a 0 (suc i))) ≡ d ++ s = rw zero-add at (records-more a 0 i) in
    let ld : length d ≡ i * 16 = rw (length-attribute_records, length-lows, length-rows_from) in
    let ls : length s ≡ 16 = length-attribute_record (low_of (row_at a i)) in
    let w : (records + i) * 16 ≡ records * 16 + length d = omega arith in
    let v : (records + i) * 16 + length s ≤ length list₀ = omega arith in
    rw (e, f, add-one, m) (over-next list₀ (records * 16) ((records + i) * 16) d s w v)

-- room for n attributes and their operator after so many records, counted in whole records
room-case : (bytes records n : ℕ) (t : Bool) → records ≤ bytes / 16 → leb ((records + suc n) * 16) bytes ≡ t → ltb n (bytes / 16 - records) ≡ t
room-case bytes records n true h e =
    let k = leb-true ((records + suc n) * 16) bytes e in
    lt-ltb n (bytes / 16 - records) (omega arith)
room-case bytes records n false h e =
    let k = leb-false ((records + suc n) * 16) bytes e in
    le-ltb n (bytes / 16 - records) (omega arith)

pub room-few : (records n bytes : ℕ) → n ≤ 16 → room_for records n bytes ≡ leb ((records + suc n) * 16) bytes
unfolding room_for
room-few records n bytes h = rw (le-ltb 16 n h)

pub room-many : (records n bytes : ℕ) → 16 < n → room_for records n bytes ≡ false
unfolding room_for
room-many records n bytes h = rw (lt-ltb 16 n h)

pub room-none : (records n bytes : ℕ) → n ≤ 16 → bytes / 16 < records → room_for records n bytes ≡ false
room-none records n bytes h k =
    let m : bytes < (records + suc n) * 16 = omega arith in
    room-few records n bytes h ∙ lt-leb ((records + suc n) * 16) bytes m

pub room-left : (records n bytes : ℕ) → n ≤ 16 → records ≤ bytes / 16 → ltb n (bytes / 16 - records) ≡ room_for records n bytes
room-left records n bytes h k =
    room-case bytes records n (leb ((records + suc n) * 16) bytes) k refl ∙ sym (room-few records n bytes h)

-- what room says
room_says : (records n bytes : ℕ) (t : Bool) → ltb 16 n ≡ t → pick t false (leb ((records + suc n) * 16) bytes) ≡ true
    → (n ≤ 16) × ((records + suc n) * 16 ≤ bytes)
room_says records n bytes true e f = absurd (false≢true f)
room_says records n bytes false e f = (ltb-false 16 n e, leb-true ((records + suc n) * 16) bytes f)

pub room-is : (records n bytes : ℕ) → room_for records n bytes ≡ true → (n ≤ 16) × ((records + suc n) * 16 ≤ bytes)
unfolding room_for
room-is records n bytes e = room_says records n bytes (ltb 16 n) refl e

-- the attributes' records, then their operator's right after them
pub operator-listed : (list₀ list a r : List ℕ) (records n tag at size first : ℕ) → (records + suc n) * 16 ≤ length list₀
    → list ≡ over list₀ (records * 16) (attribute_records (lows (rows_of a n))) → r ≡ sixteen 2 tag (n % 256) (n / 256) at size first
    → over list ((records + n) * 16) r ≡ over list₀ (records * 16) (records_for tag at size first (lows (rows_of a n)))
unfolding records_for
operator-listed list₀ list a r records n tag at size first room e f =
    let d : List ℕ = attribute_records (lows (rows_of a n)) in
    let s : List ℕ = sixteen 2 tag (n % 256) (n / 256) at size first in
    let lr : length (lows (rows_of a n)) ≡ n = rw (length-lows, length-rows_of) in
    let ld : length d ≡ n * 16 = rw (length-attribute_records, lr) in
    let ls : length s ≡ 16 = length-sixteen 2 tag (n % 256) (n / 256) at size first in
    let w : (records + n) * 16 ≡ records * 16 + length d = omega arith in
    let v : (records + n) * 16 + length s ≤ length list₀ = omega arith in
    rw (e, f, lr) (over-next list₀ (records * 16) ((records + n) * 16) d s w v)

-- what was listed of attributes whose numbers and tags are bytes
pub listed-whole : (list₀ list a : List ℕ) (records n tag at size first : ℕ) (r : Bool) → r ≡ room_for records n (length list₀)
    → list ≡ joined_at r list₀ (records * 16) (records_for tag at size first (lows (rows_of a n))) → Sized a n → BytesIn (rows_of a n)
    → (r ≡ leb ((records + suc n) * 16) (length list₀)) × (list ≡ joined_at r list₀ (records * 16) (records_for tag at size first (rows_of a n)))
listed-whole list₀ list a records n tag at size first r e f z b =
    (e ∙ room-few records n (length list₀) z.few, rw (lows-bytes (rows_of a n) b) at f)

-- one attribute's record, then its operator's right after it
pub one-listed : (list₀ list r o : List ℕ) (records number value at count first tag op : ℕ) → (records + 2) * 16 ≤ length list₀ → list ≡ over list₀ (records * 16) r
    → r ≡ sixteen 1 number value 0 at count first → o ≡ sixteen 2 tag 1 0 op 0 0
    → over list ((records + 1) * 16) o ≡ over list₀ (records * 16) (records_for tag op 0 0 (record { number = number; tag = value; at = at; count = count; first = first } ∷ []))
unfolding records_for attribute_records attribute_record sixteen four
one-listed list₀ list r o records number value at count first tag op room e f g =
    let w : (records + 1) * 16 ≡ records * 16 + 16 = omega arith in
    let v : (records + 1) * 16 + 16 ≤ length list₀ = omega arith in
    rw (e, f, g) (over-next list₀ (records * 16) ((records + 1) * 16) _ _ w v)
