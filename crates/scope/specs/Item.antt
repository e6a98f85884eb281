-- 01, "Header, items, values": white space, values, attribute numbers, and the pairs before an operator's tag. Codes 5, 6, 7, 8 and 27.
-- A value, an attribute number, an operator's tag and embedded data are an item each; embedded data is in Data.antt.
-- Assumes nothing.
use Rattle.std.specs.Prelude.{ℕ, suc, ◌+◌, ◌-◌, ◌*◌, List, [], ◌∷◌, ◌++◌, Bool, true, false, ◌||◌, length, get_or, drop, ltb, leb, eqb}
use Rattle.scope.specs.Choice.{pick, between}
use Rattle.scope.specs.Number.{number}
use Rattle.scope.specs.Iterate.{Next, go, stop, iterate}

-- white space: 0x00, 0x09 to 0x0d, and 0x20
unfoldable pub white : ℕ → Bool
white b = eqb b 0x00 || (between 0x09 0x0d b || eqb b 0x20)

-- how many white bytes a list starts with
unfoldable pub spaces : List ℕ → ℕ
spaces [] = 0
spaces (b ∷ bs) = elim (white b) [ true ↦ suc (spaces bs) | false ↦ 0 ]

-- the first place from `at` on that is not white
unfoldable pub after : List ℕ → ℕ → ℕ
after s at = at + spaces (drop at s)

-- the bytes of a number of type k: ubyte, uint16, uint32, sint16, sint32, real32
unfoldable pub width_of : ℕ → ℕ
width_of k = pick (eqb k 0) 1 (pick (eqb k 1 || eqb k 3) 2 4)

-- what a value's tag starts: n numbers of w bytes, an array of numbers of w bytes; or it is no value's tag
pub data Kind : Type 0 where
  plain : (n : ℕ) → (w : ℕ) → Kind
  array : (w : ℕ) → Kind
  other : Kind

unfoldable pub kind_of : ℕ → Kind
kind_of t =
    pick (between 0xc0 0xc5 t) (plain 1 (width_of (t - 0xc0)))
    (pick (between 0xc8 0xcd t) (array (width_of (t - 0xc8)))
    (pick (between 0xd0 0xd5 t) (plain 2 (width_of (t - 0xd0)))
    (pick (between 0xe0 0xe5 t) (plain 4 (width_of (t - 0xe0))) other)))

-- a value: how many numbers, the place of the first, the place after it; or a refusal, a code and a place
pub data Value : Type 0 where
  is : (count : ℕ) → (first : ℕ) → (next : ℕ) → Value
  no : (code : ℕ) → (place : ℕ) → Value

-- n numbers of w bytes from `first` on, of the item that starts at `at`
unfoldable pub numbers_at : List ℕ → ℕ → ℕ → ℕ → ℕ → Value
numbers_at s at first n w = pick (leb (first + n * w) (length s)) (is n first (first + n * w)) (no 5 at)

-- an array of n elements: 8 before 5
unfoldable pub elements_at : List ℕ → ℕ → ℕ → ℕ → ℕ → Value
elements_at s at first w n = pick (ltb 1024 n) (no 8 at) (numbers_at s at first n w)

-- an array whose length has l bytes
unfoldable pub counted_at : Bool → List ℕ → ℕ → ℕ → ℕ → Value
counted_at high s at w l =
    pick (leb (at + 2 + l) (length s)) (elements_at s at (at + 2 + l) w (number high l s (at + 2))) (no 5 at)

-- an array: at once a 0xc0 or 0xc1 tag with the length; another byte there is 6
unfoldable pub array_at : Bool → List ℕ → ℕ → ℕ → Value
array_at high s at w =
    pick (leb (length s) (at + 1)) (no 5 at)
    (pick (eqb (get_or s (at + 1) 0) 0xc0) (counted_at high s at w 1)
    (pick (eqb (get_or s (at + 1) 0) 0xc1) (counted_at high s at w 2) (no 6 (at + 1))))

-- the value whose tag stands at `at`, after n pairs: 6 if it is no value's tag, then 7, then what the value itself has
unfoldable pub value_of : Bool → List ℕ → ℕ → ℕ → Kind → Value
value_of high s at n (plain k w) = pick (leb 16 n) (no 7 at) (numbers_at s at (at + 1) k w)
value_of high s at n (array w) = pick (leb 16 n) (no 7 at) (array_at high s at w)
value_of high s at n other = no 6 at

-- an attribute as given: its number, its value's tag and the tag's place, how many numbers, the place of the first
pub record Attribute : Type 0 where
  pub number : ℕ
  pub tag : ℕ
  pub at : ℕ
  pub count : ℕ
  pub first : ℕ

-- an attribute and the place after its number; a refusal; or the bytes end while the value waits
pub data Pair : Type 0 where
  is : Attribute → (next : ℕ) → Pair
  no : (code : ℕ) → (place : ℕ) → Pair
  waits : Pair

-- the attribute number of w bytes, whose tag stands at p, of the value at `at`
unfoldable pub numbered : Bool → List ℕ → ℕ → ℕ → ℕ → ℕ → ℕ → Pair
numbered high s at count first p w =
    pick (leb (p + 1 + w) (length s))
    (is (record { number = number high w s (p + 1); tag = get_or s at 0; at = at; count = count; first = first }) (p + 1 + w))
    (no 5 p)

-- the item at p, after a value: 0xf8 and one byte, 0xf9 and two; any other may not come here
unfoldable pub number_at : Bool → List ℕ → ℕ → ℕ → ℕ → ℕ → Pair
number_at high s at count first p =
    pick (leb (length s) p) waits
    (pick (eqb (get_or s p 0) 0xf8) (numbered high s at count first p 1)
    (pick (eqb (get_or s p 0) 0xf9) (numbered high s at count first p 2) (no 6 p)))

unfoldable pub pair_of : Bool → List ℕ → ℕ → Value → Pair
pair_of high s at (is count first next) = number_at high s at count first (after s next)
pair_of high s at (no code place) = no code place

-- the pair whose value's tag stands at `at`, after n pairs
unfoldable pub pair_at : Bool → List ℕ → ℕ → ℕ → Pair
pair_at high s at n = pair_of high s at (value_of high s at n (kind_of (get_or s at 0)))

-- what comes before the next operator: its tag and the tag's place, and the attributes as given; the end of the bytes with
-- nothing waiting; or a refusal
pub data Scan : Type 0 where
  tagged : (tag : ℕ) → (at : ℕ) → List Attribute → Scan
  ended : Scan
  no : (code : ℕ) → (place : ℕ) → Scan

-- where a scan stands
pub record Walk : Type 0 where
  pub at : ℕ
  pub attrs : List Attribute

-- 27 if attributes wait
unfoldable pub ended_with : List ℕ → List Attribute → Scan
ended_with s [] = ended
ended_with s (a ∷ l) = no 27 (length s)

unfoldable pub on_pair : List ℕ → List Attribute → Pair → Next Walk Scan
on_pair s l (is a next) = go (record { at = next; attrs = l ++ (a ∷ []) })
on_pair s l (no code place) = stop (no code place)
on_pair s l waits = stop (no 27 (length s))

-- one item or pair, at a place p that is not white
unfoldable pub scan_item : Bool → List ℕ → List Attribute → ℕ → Next Walk Scan
scan_item high s l p =
    pick (leb (length s) p) (stop (ended_with s l))
    (pick (between 0x41 0xbf (get_or s p 0)) (stop (tagged (get_or s p 0) p l)) (on_pair s l (pair_at high s p (length l))))

unfoldable pub scan_step : Bool → List ℕ → Walk → Next Walk Scan
scan_step high s w = scan_item high s w.attrs (after s w.at)

-- the scan from where it stands (it ends where no byte is left, so the answer that `iterate` is given is never used: proofs/Falls)
unfoldable pub scan_from : Bool → List ℕ → Walk → Scan
scan_from high s = iterate (scan_step high s) ended (λ w. length s - w.at)

-- the items from `at` on up to the next operator's tag
unfoldable pub scan_at : Bool → List ℕ → ℕ → Scan
scan_at high s at = scan_from high s (record { at = at; attrs = [] })
