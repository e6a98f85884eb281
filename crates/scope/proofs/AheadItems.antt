-- No looking ahead, in values and pairs: reading in u and in u with v behind it give the same, or the end of u cuts it off and the other, if it gives any, ends
-- behind u.
-- Assumes nothing.
use Prim.Native.Nat.{ℕ, zero, suc, ◌+◌, ◌-◌, ◌*◌, ◌≤◌, ◌<◌}
use mathlib.Core.Path.{◌≡◌, refl, sym, ap, ◌∙◌, subst, subst⁻¹}
use mathlib.Core.Bool.{Bool, true, false, ◌||◌, true≢false}
use mathlib.Core.List.{List, [], ◌∷◌, ◌++◌}
use native.Mathlib.Omega.{arith}
use borrow.Author.Tests.{leb-true, leb-false, le-leb, lt-leb}
use lib.ListN.{length, get_or, drop, length-append, length-drop, get_or-append}
use lib.Seq.{drop-append-le}
use lib.Dec.{ltb, leb, eqb}
use Rattle.scope.specs.Choice.{pick, between}
use Rattle.scope.specs.Number.{digits, place, number}
use Rattle.scope.specs.Item.{Kind, plain, array, other, Value, numbers_at, elements_at, counted_at, array_at, value_of, width_of, kind_of}
use Rattle.scope.specs.Item.{Attribute, Pair, numbered, number_at, pair_of, pair_at, white, spaces, after}
use Rattle.scope.specs.Table.{A}
use Rattle.scope.specs.Attributes.{Two}
use Rattle.scope.proofs.Ends.{pick_all, after-le}

-- the numbers of a value of this tag, at most
pub two-at_most : (t : ℕ) → pick (eqb t 0xc0) 1 2 ≤ 2
two-at_most t = pick_all (λ k. k ≤ 2) (eqb t 0xc0) (λ _. omega arith) (λ _. omega arith)

pub pick-when : {A : Type 0} (b : Bool) (x y z : A) → (b ≡ true → x ≡ y) → pick b x z ≡ pick b y z
pick-when true x y z h = h refl
pick-when false x y z h = refl

-- what is made of two numbers, whichever they are
pub pick_two : {A : Type 0} (f : Two → A) (b : Bool) {x y z t : Two} → (b ≡ true → f x ≡ f y) → (b ≡ false → f z ≡ f t) → f (pick b x z) ≡ f (pick b y t)
pick_two f true h k = h refl
pick_two f false h k = k refl

pub or_left : (a b : Bool) → a || b ≡ true → b ≡ false → a ≡ true
or_left true b e f = refl
or_left false b e f = absurd (true≢false (sym e ∙ f))

digits-upto : (d e : ℕ → ℕ) (k : ℕ) → ((j : ℕ) → j < k → d j ≡ e j) → digits d k ≡ digits e k
unfolding digits
digits-upto d e zero h = refl
digits-upto d e (suc k) h =
    let a = digits-upto d e k (λ j l. h j (omega arith)) in
    let b = h k (omega arith) in
    (λ i. a i * 256 + b i)

place-below : (high : Bool) (k at j : ℕ) → j < k → place high k at j < at + k
place-below true k at j h = omega arith
place-below false k at j h = omega arith

-- a choice by one test on both sides
pub pick-both : {A C : Type 0} (Q : A → C → Type 0) (b : Bool) {x y : A} {v w : C} → (b ≡ true → Q x v) → (b ≡ false → Q y w) → Q (pick b x y) (pick b v w)
pick-both Q true f g = f refl
pick-both Q false f g = g refl

-- every number of a value has a byte at least
abbrev pub Wide : Kind → Type 0
Wide (plain n w) = 1 ≤ w
Wide (array w) = 1 ≤ w
Wide other = Unit {0}

width-wide : (k : ℕ) → 1 ≤ width_of k
unfolding width_of
width-wide k = pick_all (λ w. 1 ≤ w) (eqb k 0) (λ _. omega arith) (λ _. pick_all (λ w. 1 ≤ w) (eqb k 1 || eqb k 3) (λ _. omega arith) (λ _. omega arith))

pub kind-wide : (t : ℕ) → Wide (kind_of t)
unfolding kind_of
kind-wide t =
    pick_all Wide (between 0xc0 0xc5 t) (λ _. width-wide _)
    (λ _. pick_all Wide (between 0xc8 0xcd t) (λ _. width-wide _)
    (λ _. pick_all Wide (between 0xd0 0xd5 t) (λ _. width-wide _) (λ _. pick_all Wide (between 0xe0 0xe5 t) (λ _. width-wide _) (λ _. tt))))

wide-many : (n w : ℕ) → 1 ≤ w → n ≤ n * w
wide-many n zero h = absurd (omega arith)
wide-many n (suc w) h = omega arith

abbrev many_of : Kind → ℕ
many_of (plain n w) = n
many_of (array w) = 0
many_of other = 0

abbrev wide_of : Kind → ℕ
wide_of (plain n w) = w
wide_of (array w) = w
wide_of other = 0

same-words : (n w m b : ℕ) → plain n w ≡ plain m b → n * w ≡ m * b
same-words n w m b e = let x = ap many_of e in let y = ap wide_of e in (λ i. x i * y i)

abbrev is_plain : Kind → Bool
is_plain (plain n w) = true
is_plain (array w) = false
is_plain other = false

-- an attribute whose value, and what is looked at of it, stands before n
pub record Inside (n : ℕ) (a : Attribute) : Type 0 where
  pub word : a.first + 2 ≤ n
  pub many : a.first + a.count ≤ n
  pub words : (m b : ℕ) → kind_of a.tag ≡ plain m b → a.first + m * b ≤ n

pub data AllIn (n : ℕ) : List Attribute → Type 0 where
  none : AllIn n []
  more : {a : Attribute} {l : List Attribute} → Inside n a → AllIn n l → AllIn n (a ∷ l)

pub inside-up : (n m : ℕ) → n ≤ m → {a : Attribute} → Inside n a → Inside m a
inside-up n m h {a} i =
    let x = i.word in let y = i.many in
    record { word = omega arith; many = omega arith; words = λ m b e. let z = i.words m b e in omega arith }

pub all_up : (n m : ℕ) → n ≤ m → {l : List Attribute} → AllIn n l → AllIn m l
all_up n m h none = none
all_up n m h (more i k) = more (inside-up n m h i) (all_up n m h k)

pub all_snoc : (n : ℕ) {l : List Attribute} {a : Attribute} → AllIn n l → Inside n a → AllIn n (l ++ (a ∷ []))
all_snoc n none i = more i none
all_snoc n (more j k) i = more j (all_snoc n k i)

module _ (u v : List ℕ) where
  abbrev pub w : List ℕ
  w = u ++ v

  pub longer : length u ≤ length w
  longer = let e = length-append u v in omega arith

  pub byte_cut : (at : ℕ) → at < length u → get_or u at 0 ≡ get_or w at 0
  byte_cut at h = sym (get_or-append u v 0 at h)

  pub number_cut : (high : Bool) (k at : ℕ) → at + k ≤ length u → number high k u at ≡ number high k w at
  unfolding number
  number_cut high k at h =
      digits-upto (λ j. get_or u (place high k at j) 0) (λ j. get_or w (place high k at j) 0) k
      (λ j l. let b = place-below high k at j l in byte_cut (place high k at j) (omega arith))

  -- white space: it ends at the same place within u, or goes to its end
  pub data CutPlace : ℕ → ℕ → Type 0 where
    within : {p : ℕ} → p < length u → CutPlace p p
    past : {p r : ℕ} → length u ≤ p → length u ≤ r → CutPlace p r

  data CutSpaces (n : ℕ) : ℕ → ℕ → Type 0 where
    within : {k : ℕ} → k < n → CutSpaces n k k
    past : {k l : ℕ} → n ≤ k → n ≤ l → CutSpaces n k l

  spaces-cut : (x y : List ℕ) → CutSpaces (length x) (spaces x) (spaces (x ++ y))
  unfolding spaces
  spaces-cut [] y = past {k = 0} {l = spaces y} (omega arith) (omega arith)
  spaces-cut (b ∷ bs) y = by (spaces-cut bs y) (white b)
    where
      by : CutSpaces (length bs) (spaces bs) (spaces (bs ++ y)) → (c : Bool)
          → CutSpaces (suc (length bs)) (elim c as (λ _. ℕ) [ true ↦ suc (spaces bs) | false ↦ 0 ]) (elim c as (λ _. ℕ) [ true ↦ suc (spaces (bs ++ y)) | false ↦ 0 ])
      by h false = within {k = 0} (omega arith)
      by h true = up h
        where
          up : {k l : ℕ} → CutSpaces (length bs) k l → CutSpaces (suc (length bs)) (suc k) (suc l)
          up (within {k = k} x) = within {k = suc k} (omega arith)
          up (past {k = k} {l = l} x y) = past {k = suc k} {l = suc l} (omega arith) (omega arith)

  pub after-cut : (at : ℕ) → at ≤ length u → CutPlace (after u at) (after w at)
  unfolding after
  after-cut at h =
      let e = length-drop at u in
      subst⁻¹ (λ z. CutPlace (at + spaces (drop at u)) (at + spaces z)) (drop-append-le at u v h) (by e (spaces-cut (drop at u) v))
    where
      by : length (drop at u) ≡ length u - at → {k l : ℕ} → CutSpaces (length (drop at u)) k l → CutPlace (at + k) (at + l)
      by e (within {k = k} x) = within {p = at + k} (omega arith)
      by e (past {k = k} {l = l} x y) = past {p = at + k} {r = at + l} (omega arith) (omega arith)

  -- a value read in w that does not lie in u
  abbrev pub Beyond : Value → Type 0
  Beyond (Value.is count first next) = length u < next
  Beyond (Value.no code place) = Unit {0}

  pub data CutValue (k : Kind) : Value → Value → Type 0 where
    both : {c f n : ℕ} → n ≤ length u → f + c ≤ n → ((m b : ℕ) → k ≡ plain m b → f + m * b ≤ n) → CutValue k (Value.is c f n) (Value.is c f n)
    same : {code place : ℕ} → CutValue k (Value.no code place) (Value.no code place)
    lost : {place : ℕ} {y : Value} → Beyond y → CutValue k (Value.no 5 place) y

  numbers-cut : (k : Kind) (at first n b : ℕ) → n ≤ n * b → ((m c : ℕ) → k ≡ plain m c → n * b ≡ m * c) → CutValue k (numbers_at u at first n b) (numbers_at w at first n b)
  unfolding numbers_at
  numbers-cut k at first n b h g =
      pick_all (λ z. CutValue k z (pick (leb (first + n * b) (length w)) (Value.is n first (first + n * b)) (Value.no 5 at))) (leb (first + n * b) (length u))
      (λ t. let x = leb-true (first + n * b) (length u) t in let y = longer in
      rw (le-leb (first + n * b) (length w) (omega arith)) (both {c = n} {f = first} {n = first + n * b} x (omega arith) (λ m c e. let z = g m c e in omega arith)))
      (λ f. let x = leb-false (first + n * b) (length u) f in
      lost (pick_all Beyond (leb (first + n * b) (length w)) (λ _. x) (λ _. tt)))

  elements_beyond : (at first b n : ℕ) → length u < first → Beyond (elements_at w at first b n)
  unfolding elements_at numbers_at
  elements_beyond at first b n h =
      let x : length u < first + n * b = omega arith in
      pick_all Beyond (ltb 1024 n) (λ _. tt) (λ _. pick_all Beyond (leb (first + n * b) (length w)) (λ _. x) (λ _. tt))

  counted-beyond : (high : Bool) (at b l : ℕ) → length u < at + 2 + l → Beyond (counted_at high w at b l)
  unfolding counted_at
  counted-beyond high at b l h = pick_all Beyond (leb (at + 2 + l) (length w)) (λ _. elements_beyond at (at + 2 + l) b _ h) (λ _. tt)

  counted-cut : (high : Bool) (at b l : ℕ) → 1 ≤ b → CutValue (array b) (counted_at high u at b l) (counted_at high w at b l)
  unfolding counted_at elements_at
  counted-cut high at b l one =
      pick_all (λ z. CutValue (array b) z (counted_at high w at b l)) (leb (at + 2 + l) (length u))
      (λ t. let x = leb-true (at + 2 + l) (length u) t in let y = longer in
      rw (le-leb (at + 2 + l) (length w) (omega arith), number_cut high l (at + 2) x)
      (pick-both (CutValue (array b)) (ltb 1024 (number high l w (at + 2))) (λ _. same)
      (λ _. numbers-cut (array b) at (at + 2 + l) (number high l w (at + 2)) b (wide-many _ b one) (λ m c e. absurd (true≢false (sym (ap is_plain e)))))))
      (λ f. lost (counted-beyond high at b l (leb-false (at + 2 + l) (length u) f)))

  array-cut : (high : Bool) (at b : ℕ) → 1 ≤ b → CutValue (array b) (array_at high u at b) (array_at high w at b)
  unfolding array_at
  array-cut high at b one =
      pick_all (λ z. CutValue (array b) z (array_at high w at b)) (leb (length u) (at + 1))
      (λ t. let x = leb-true (length u) (at + 1) t in lost (array-beyond x))
      (λ f. let x = leb-false (length u) (at + 1) f in let y = longer in
      rw (lt-leb (length w) (at + 1) (omega arith), byte_cut (at + 1) x)
      (pick-both (CutValue (array b)) (eqb (get_or w (at + 1) 0) 0xc0) (λ _. counted-cut high at b 1 one)
      (λ _. pick-both (CutValue (array b)) (eqb (get_or w (at + 1) 0) 0xc1) (λ _. counted-cut high at b 2 one) (λ _. same))))
    where
      array-beyond : length u ≤ at + 1 → Beyond (array_at high w at b)
      array-beyond x =
          pick_all Beyond (leb (length w) (at + 1)) (λ _. tt)
          (λ _. pick_all Beyond (eqb (get_or w (at + 1) 0) 0xc0) (λ _. counted-beyond high at b 1 (omega arith))
          (λ _. pick_all Beyond (eqb (get_or w (at + 1) 0) 0xc1) (λ _. counted-beyond high at b 2 (omega arith)) (λ _. tt)))

  pub value-cut : (high : Bool) (at n : ℕ) (k : Kind) → Wide k → CutValue k (value_of high u at n k) (value_of high w at n k)
  unfolding value_of
  value-cut high at n (plain k b) h =
      pick-both (CutValue (plain k b)) (leb 16 n) (λ _. same) (λ _. numbers-cut (plain k b) at (at + 1) k b (wide-many k b h) (same-words k b))
  value-cut high at n (array b) h = pick-both (CutValue (array b)) (leb 16 n) (λ _. same) (λ _. array-cut high at b h)
  value-cut high at n other h = same

  -- a pair that the end of u cuts off: its number is missing, or 5
  abbrev pub ShortPair : Pair → Type 0
  ShortPair (Pair.is a n) = ⊥
  ShortPair (Pair.no code place) = code ≡ 5
  ShortPair Pair.waits = Unit {0}

  abbrev pub BeyondPair : Pair → Type 0
  BeyondPair (Pair.is a n) = length u < n
  BeyondPair (Pair.no code place) = Unit {0}
  BeyondPair Pair.waits = Unit {0}

  -- the same pair in both, within u; the same refusal; or the end of u cuts it off
  pub data CutPair : Pair → Pair → Type 0 where
    both : {a : Attribute} {n : ℕ} → n ≤ length u → Inside n a → CutPair (Pair.is a n) (Pair.is a n)
    same : {code place : ℕ} → CutPair (Pair.no code place) (Pair.no code place)
    lost : {x y : Pair} → ShortPair x → BeyondPair y → CutPair x y

  numbered-beyond : (high : Bool) (at c f p b : ℕ) → length u < p + 1 + b → BeyondPair (numbered high w at c f p b)
  unfolding numbered
  numbered-beyond high at c f p b h = pick_all BeyondPair (leb (p + 1 + b) (length w)) (λ _. h) (λ _. tt)

  numbered-cut : (high : Bool) (at c f p b : ℕ) → at < length u → 1 ≤ b → f + c ≤ p → ((m b : ℕ) → kind_of (get_or w at 0) ≡ plain m b → f + m * b ≤ p)
      → CutPair (numbered high u at c f p b) (numbered high w at c f p b)
  unfolding numbered
  numbered-cut high at c f p b h one fits words =
      pick_all (λ z. CutPair z (numbered high w at c f p b)) (leb (p + 1 + b) (length u))
      (λ t. let x = leb-true (p + 1 + b) (length u) t in let y = longer in
      let i : Inside (p + 1 + b) (record { number = number high b w (p + 1); tag = get_or w at 0; at = at; count = c; first = f }) =
      record { word = omega arith; many = omega arith; words = λ m c e. let z = words m c e in omega arith } in
      rw (le-leb (p + 1 + b) (length w) (omega arith), number_cut high b (p + 1) x, byte_cut at h) (both x i))
      (λ f. lost refl (numbered-beyond high at c _ p b (leb-false (p + 1 + b) (length u) f)))

  number-at_beyond : (high : Bool) (at c f r : ℕ) → length u ≤ r → BeyondPair (number_at high w at c f r)
  unfolding number_at
  number-at_beyond high at c f r h =
      pick_all BeyondPair (leb (length w) r) (λ _. tt)
      (λ _. pick_all BeyondPair (eqb (get_or w r 0) 0xf8) (λ _. numbered-beyond high at c f r 1 (omega arith))
      (λ _. pick_all BeyondPair (eqb (get_or w r 0) 0xf9) (λ _. numbered-beyond high at c f r 2 (omega arith)) (λ _. tt)))

  number-at_cut : (high : Bool) (at c f : ℕ) → at < length u → {p r : ℕ} → f + c ≤ p → ((m b : ℕ) → kind_of (get_or w at 0) ≡ plain m b → f + m * b ≤ p) → CutPlace p r
      → CutPair (number_at high u at c f p) (number_at high w at c f r)
  unfolding number_at
  number-at_cut high at c f h fits words (within {p = p} k) =
      let y = longer in
      rw (lt-leb (length u) p k, lt-leb (length w) p (omega arith), byte_cut p k)
      (pick-both CutPair (eqb (get_or w p 0) 0xf8) (λ _. numbered-cut high at c f p 1 h (omega arith) fits words)
      (λ _. pick-both CutPair (eqb (get_or w p 0) 0xf9) (λ _. numbered-cut high at c f p 2 h (omega arith) fits words) (λ _. same)))
  number-at_cut high at c f h fits words (past {p = p} {r = r} k l) = rw (le-leb (length u) p k) (lost tt (number-at_beyond high at c f r l))

  pair-of_beyond : (high : Bool) (at : ℕ) (y : Value) → Beyond y → BeyondPair (pair_of high w at y)
  unfolding pair_of
  pair-of_beyond high at (Value.is c f n) h = let x = after-le high w n in number-at_beyond high at c f (after w n) (omega arith)
  pair-of_beyond high at (Value.no code place) h = tt

  pair-of_cut : (high : Bool) (at : ℕ) → at < length u → {x y : Value} → CutValue (kind_of (get_or w at 0)) x y → CutPair (pair_of high u at x) (pair_of high w at y)
  unfolding pair_of
  pair-of_cut high at h (both {c = c} {f = f} {n = n} k fits words) =
      let a = after-le high u n in
      number-at_cut high at c f h (omega arith) (λ m b e. let z = words m b e in omega arith) (after-cut n k)
  pair-of_cut high at h same = same
  pair-of_cut high at h (lost {y = y} b) = lost refl (pair-of_beyond high at y b)

  pub pair-cut : (high : Bool) (at n : ℕ) → at < length u → CutPair (pair_at high u at n) (pair_at high w at n)
  unfolding pair_at
  pair-cut high at n h = rw (byte_cut at h) (pair-of_cut high at h (value-cut high at n (kind_of (get_or w at 0)) (kind-wide (get_or w at 0))))
