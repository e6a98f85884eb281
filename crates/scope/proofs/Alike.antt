-- Attributes of two jobs whose values are the same, each in its own byte order and at its own places: the rules say the same of them, and so an operator that is
-- read with them is read in both, and says the same.
-- Assumes nothing.
use Prim.Native.Nat.{ℕ, suc, ◌+◌, ◌*◌, ◌<◌}
use mathlib.Core.Path.{◌≡◌, refl, sym, ap, ◌∙◌}
use mathlib.Core.Bool.{Bool, true, false, ◌||◌}
use mathlib.Core.List.{List, [], ◌∷◌, ◌++◌}
use native.Mathlib.Omega.{arith}
use borrow.Author.Tests.{eqb-true}
use lib.ListN.{length, get_or, take, drop}
use lib.Dec.{eqb}
use Rattle.scope.specs.Choice.{pick, between}
use Rattle.scope.specs.Number.{number as number_of}
use Rattle.scope.specs.Item.{plain, kind_of, width_of, Attribute, Scan, after}
use Rattle.scope.specs.Table.{Takes, E, N, P, B, A, D, M, M2, L, Rule, Ruled, Form, each, one, line, rule_in}
use Rattle.scope.specs.Attributes.{long_bytes, long_in, Fault, fine, bad, has, reals, wholes, two_at, two_of, point_in, sizes_in, first_of, type_taken, in_range, attribute_code, one_by_one, all_there, how_many, form_code, value_in, bytes_in}
use Rattle.scope.specs.Data.{pad_of, block_due, Image, Found, due_of, block_at}
use Rattle.scope.specs.Order.{length_fits, rows_fit}
use Rattle.scope.specs.Reading.{Context, Operator, Read}
use Rattle.scope.proofs.Apart.{clash-of}
use Rattle.scope.proofs.Says.{looked, Says}
use Rattle.scope.proofs.Typed.{whole, long, need_of, fits, AllTyped, none, more}

-- a choice by equal tests
pub pick-like : {A C : Type 0} (Q : A → C → Type 0) (b d : Bool) {x y : A} {v w : C} → b ≡ d → Q x v → Q y w → Q (pick b x y) (pick d v w)
pick-like Q true true e f g = f
pick-like Q false false e f g = g
pick-like Q true false e f g = clash-of e
pick-like Q false true e f g = clash-of (sym e)

-- a choice by one test, where the first is taken only if the test holds
pick-when : {A : Type 0} (b : Bool) {x y v w : A} → (b ≡ true → x ≡ y) → v ≡ w → pick b x v ≡ pick b y w
pick-when true h e = h refl
pick-when false h e = e

either : {Q : Type 0} (a b : Bool) → a || b ≡ true → (a ≡ true → Q) → (b ≡ true → Q) → Q
either true b e f g = f refl
either false b e f g = g e

-- two contexts that differ in the byte order at most
pub record LikeContext (c d : Context) : Type 0 where
  pub class : c.set.class ≡ d.set.class
  pub phase : c.phase ≡ d.phase
  pub opened : c.opened ≡ d.opened
  pub asked : c.asked ≡ d.asked

-- two jobs, each with its byte order; `At` are the places that belong together, `On` those where reading may go on alike
module _ (h k : Bool) (s t : List ℕ) (At On : ℕ → ℕ → Type 0) where
  pub record LikeAttr (a b : Attribute) : Type 0 where
    pub number : a.number ≡ b.number
    pub tag : a.tag ≡ b.tag
    pub at : At a.at b.at
    pub count : a.count ≡ b.count
    pub first : a.first + b.at ≡ b.first + a.at
    pub value : (n w : ℕ) → kind_of a.tag ≡ plain n w → (i : ℕ) → i < n → number_of h w s (a.first + i * w) ≡ number_of k w t (b.first + i * w)
    pub row : a.tag ≡ 0xc8 → take a.count (drop a.first s) ≡ take b.count (drop b.first t)

  -- two values that are the same, read by their tags at a and at b: as many numbers, from f and from g on
  pub record LikeHead (a b c d f g : ℕ) : Type 0 where
    pub tag : get_or s a 0 ≡ get_or t b 0
    pub at : At a b
    pub count : c ≡ d
    pub first : f + b ≡ g + a
    pub value : (n w : ℕ) → kind_of (get_or s a 0) ≡ plain n w → (i : ℕ) → i < n → number_of h w s (f + i * w) ≡ number_of k w t (g + i * w)
    pub row : get_or s a 0 ≡ 0xc8 → take c (drop f s) ≡ take d (drop g t)

  pub data LikeAttrs : List Attribute → List Attribute → Type 0 where
    nil : LikeAttrs [] []
    cons : {a b : Attribute} {l m : List Attribute} → LikeAttr a b → LikeAttrs l m → LikeAttrs (a ∷ l) (b ∷ m)

  pub attrs-length : {l m : List Attribute} → LikeAttrs l m → length l ≡ length m
  attrs-length nil = refl
  attrs-length (cons x y) = ap suc (attrs-length y)

  pub snoc_like : {l m : List Attribute} {a b : Attribute} → LikeAttrs l m → LikeAttr a b → LikeAttrs (l ++ (a ∷ [])) (m ++ (b ∷ []))
  snoc_like nil x = cons x nil
  snoc_like (cons y z) x = cons y (snoc_like z x)

  has-like : (n : ℕ) {l m : List Attribute} → LikeAttrs l m → has n l ≡ has n m
  unfolding has
  has-like n nil = refl
  has-like n (cons x y) = rw (x.number, has-like n y) refl

  module _ {a b : Attribute} (x : LikeAttr a b) where
    -- number i of a value of this type
    nth : (tag n w i at : ℕ) → a.tag ≡ tag → kind_of tag ≡ plain n w → i < n → i * w ≡ at → number_of h w s (a.first + at) ≡ number_of k w t (b.first + at)
    nth tag n w i at e f l g = rw (sym g) (x.value n w (ap kind_of e ∙ f) i l)

    first-number : (tag n w : ℕ) → a.tag ≡ tag → kind_of tag ≡ plain n w → 0 < n → number_of h w s a.first ≡ number_of k w t b.first
    first-number tag n w e f l =
        let y : a.first ≡ a.first + 0 = omega arith in
        let z : b.first + 0 ≡ b.first = omega arith in
        ap (number_of h w s) y ∙ nth tag n w 0 0 e f l (omega arith) ∙ ap (number_of k w t) z

    first_word : (tag w : ℕ) → a.tag ≡ tag → kind_of tag ≡ plain 1 w → number_of h w s a.first ≡ number_of k w t b.first
    first_word tag w e f = first-number tag 1 w e f (omega arith)

    ubyte_like : a.tag ≡ 0xc0 → first_of h s a ≡ first_of k t b
    unfolding first_of two_at kind_of width_of
    ubyte_like e = rw (sym x.tag, e) (first_word 0xc0 1 e refl)

    word-like : a.tag ≡ 0xc1 → first_of h s a ≡ first_of k t b
    unfolding first_of two_at kind_of width_of
    word-like e = rw (sym x.tag, e) (first_word 0xc1 2 e refl)

    short-like : a.tag ≡ 0xc3 → first_of h s a ≡ first_of k t b
    unfolding first_of two_at kind_of width_of
    short-like e = rw (sym x.tag, e) (first_word 0xc3 2 e refl)

    whole_like : eqb a.tag 0xc0 || (eqb a.tag 0xc1 || eqb a.tag 0xc3) ≡ true → first_of h s a ≡ first_of k t b
    whole_like e =
        either (eqb a.tag 0xc0) _ e (λ f. ubyte_like (eqb-true a.tag 0xc0 f))
        (λ e2. either (eqb a.tag 0xc1) _ e2 (λ f. word-like (eqb-true a.tag 0xc1 f)) (λ f. short-like (eqb-true a.tag 0xc3 f)))

    long-like : eqb a.tag 0xc0 || (eqb a.tag 0xc1 || eqb a.tag 0xc2) ≡ true → number_of h (long_bytes a.tag) s a.first ≡ number_of k (long_bytes b.tag) t b.first
    unfolding kind_of width_of
    long-like e =
        either (eqb a.tag 0xc0) _ e (λ f. let g = eqb-true a.tag 0xc0 f in rw (sym x.tag, g) (first_word 0xc0 1 g refl))
        (λ e2. either (eqb a.tag 0xc1) _ e2 (λ f. let g = eqb-true a.tag 0xc1 f in rw (sym x.tag, g) (first_word 0xc1 2 g refl))
        (λ f. let g = eqb-true a.tag 0xc2 f in rw (sym x.tag, g) (first_word 0xc2 4 g refl)))

    reals-like : a.tag ≡ 0xd5 → two_of h s a ≡ two_of k t b
    unfolding two_at kind_of width_of
    reals-like e =
        let y = first-number 0xd5 2 4 e refl (omega arith) in
        let z = nth 0xd5 2 4 1 4 e refl (omega arith) (omega arith) in
        rw (sym x.tag, e) (λ i. reals (y i) (z i))

    words-like : a.tag ≡ 0xd1 → two_of h s a ≡ two_of k t b
    unfolding two_at kind_of width_of
    words-like e =
        let y = first-number 0xd1 2 2 e refl (omega arith) in
        let z = nth 0xd1 2 2 1 2 e refl (omega arith) (omega arith) in
        rw (sym x.tag, e) (λ i. wholes (y i) (z i))

    point-like : point_in (two_of h s a) ≡ point_in (two_of k t b)
    unfolding two_at
    point-like = by (eqb a.tag 0xd5) refl
      where
        by : (c : Bool) → eqb a.tag 0xd5 ≡ c → point_in (two_of h s a) ≡ point_in (two_of k t b)
        by true e = ap point_in (reals-like (eqb-true a.tag 0xd5 e))
        by false e = rw (sym x.tag, e) refl

    range_like : (r : Takes) → type_taken r a.tag ≡ true → in_range h s r a ≡ in_range k t r b
    unfolding in_range type_taken
    range_like (E low up) e = ap (between low up) (ubyte_like (eqb-true a.tag 0xc0 e))
    range_like (N low up) e =
        ap (between low up) (either (eqb a.tag 0xc0) _ e (λ f. ubyte_like (eqb-true a.tag 0xc0 f)) (λ f. word-like (eqb-true a.tag 0xc1 f)))
    range_like P e = point-like
    range_like B e = refl
    range_like (A low up) e = ap (between low up) x.count
    range_like (D low) e =
        ap (sizes_in low) (either (eqb a.tag 0xd1) _ e (λ f. words-like (eqb-true a.tag 0xd1 f)) (λ f. reals-like (eqb-true a.tag 0xd5 f)))
    range_like M e = ap (λ z. between 0 12 z || between 14 16 z) (ubyte_like (eqb-true a.tag 0xc0 e))
    range_like M2 e =
        either (eqb a.tag 0xc0) _ e
        (λ f. let g = ubyte_like (eqb-true a.tag 0xc0 f) in λ i. pick (eqb (x.tag i) 0xc8) (between 1 1024 (x.count i)) (between 0 21 (g i) || eqb (g i) 96))
        (λ f. rw (sym x.tag, f) (ap (between 1 1024) x.count))
    range_like L e = refl
    range_like Takes.I e = refl

    code-like : {l m : List Attribute} → LikeAttrs l m → (r : Ruled) → attribute_code h s l a r ≡ attribute_code k t m b r
    unfolding attribute_code
    code-like y Ruled.none = refl
    code-like {l} {m} y (Ruled.is r) =
        (λ i. pick ((has-like a.number y ∙ ap (λ n. has n m) x.number) i) 12 (pick (type_taken r.takes a.tag) (pick (in_range h s r.takes a) 0 16) 15))
        ∙ ap (pick (has b.number m) 12)
        (pick-when (type_taken r.takes a.tag) (λ e. ap (λ z. pick z 0 16) (range_like r.takes e)) refl
        ∙ ap (λ z. pick (type_taken r.takes z) (pick (in_range k t r.takes b) 0 16) 15) x.tag)

  pub data LikeFault : Fault → Fault → Type 0 where
    well : LikeFault fine fine
    ill : {c d x y : ℕ} → c ≡ d → At x y → LikeFault (bad c x) (bad d y)

  pub one-like : (rs : List Rule) {l m : List Attribute} {v w : List Attribute} → LikeAttrs v w → LikeAttrs l m → LikeFault (one_by_one h s rs v l) (one_by_one k t rs w m)
  unfolding one_by_one
  one-like rs g nil = well
  one-like rs {v} {w} g (cons {a = a} {b = b} x y) =
      let e : attribute_code h s v a (rule_in rs a.number) ≡ attribute_code k t w b (rule_in rs b.number) =
      code-like x g (rule_in rs a.number) ∙ ap (λ n. attribute_code k t w b (rule_in rs n)) x.number in
      pick-like LikeFault _ _ (ap (λ z. eqb z 0) e) (one-like rs (snoc_like g x) y) (ill e x.at)

  there-like : (rs : List Rule) {l m : List Attribute} → LikeAttrs l m → all_there l rs ≡ all_there m rs
  unfolding all_there
  there-like [] y = refl
  there-like (r ∷ rs) y = rw (has-like r.number y, there-like rs y) refl

  many-like : (rs : List Rule) {l m : List Attribute} → LikeAttrs l m → how_many l rs ≡ how_many m rs
  unfolding how_many
  many-like [] y = refl
  many-like (r ∷ rs) y = rw (has-like r.number y, many-like rs y) refl

  pub form-like : (rs : List Rule) (f : Form) {l m : List Attribute} → LikeAttrs l m → form_code l rs f ≡ form_code m rs f
  unfolding form_code
  form-like rs each y = rw (there-like rs y) refl
  form-like rs one y = rw (many-like rs y) refl
  form-like rs line y = rw (has-like 69 y, has-like 77 y, has-like 80 y) refl

  -- values by their attribute's number, where the types are those that are looked at
  value-like : (n : ℕ) → need_of n ≡ whole → {l m : List Attribute} → LikeAttrs l m → AllTyped l → value_in h s l n ≡ value_in k t m n
  unfolding value_in
  value-like n e nil none = refl
  value-like n e {l = a ∷ l} {m = b ∷ m} (cons x y) (more f z) =
      pick-when (eqb a.number n) (λ u. whole_like x (ap (λ z. fits z a.tag) (sym e ∙ ap need_of (sym (eqb-true a.number n u))) ∙ f)) (value-like n e y z)
      ∙ ap (λ u. pick (eqb u n) (first_of k t b) (value_in k t m n)) x.number

  long-in_like : (n : ℕ) → need_of n ≡ long → {l m : List Attribute} → LikeAttrs l m → AllTyped l → long_in h s l n ≡ long_in k t m n
  unfolding long_in
  long-in_like n e nil none = refl
  long-in_like n e {l = a ∷ l} {m = b ∷ m} (cons x y) (more f z) =
      pick-when (eqb a.number n) (λ u. long-like x (ap (λ z. fits z a.tag) (sym e ∙ ap need_of (sym (eqb-true a.number n u))) ∙ f)) (long-in_like n e y z)
      ∙ ap (λ u. pick (eqb u n) (number_of k (long_bytes b.tag) t b.first) (long_in k t m n)) x.number

  bytes-like : {l m : List Attribute} → LikeAttrs l m → AllTyped l → bytes_in s l 139 ≡ bytes_in t m 139
  unfolding bytes_in
  bytes-like nil none = refl
  bytes-like {l = a ∷ l} {m = b ∷ m} (cons x y) (more f z) =
      pick-when (eqb a.number 139)
      (λ u. x.row (eqb-true a.tag 0xc8 (ap (λ z. fits z a.tag) (ap need_of (sym (eqb-true a.number 139 u))) ∙ f))) (bytes-like y z)
      ∙ ap (λ u. pick (eqb u 139) (take b.count (drop b.first t)) (bytes_in t m 139)) x.number

  looked-whole : (n : ℕ) → looked n ≡ true → need_of n ≡ whole
  looked-whole n e = rw e refl

  module _ {l m : List Attribute} (y : LikeAttrs l m) (z : AllTyped l) where
    block-due_like : (i : Image) → block_due h s i l ≡ block_due k t i m
    unfolding block_due pad_of
    block-due_like i = rw (value-like 99 refl y z, value-like 110 refl y z) refl

    pub rows-like : (i : Image) (tag : ℕ) → rows_fit h s i tag l ≡ rows_fit k t i tag m
    unfolding rows_fit length_fits
    rows-like i tag = rw (value-like 109 refl y z, value-like 99 refl y z, has-like 111 y, long-in_like 111 refl y z, block-due_like i) refl

    pub due_like : (i : Image) (tag : ℕ) → due_of h s i tag l ≡ due_of k t i tag m
    unfolding due_of
    due_like i tag = rw (value-like 140 refl y z, block-due_like i, has-like 77 y, value-like 80 refl y z, value-like 77 refl y z) refl

  -- operators with such attributes and the same data say the same
  pub attributes_say : {a b : Operator} → a.tag ≡ b.tag → a.reads ≡ b.reads → a.length ≡ b.length → LikeAttrs a.attrs b.attrs → AllTyped a.attrs
      → take a.length (drop a.first s) ≡ take b.length (drop b.first t) → Says h k s t a b
  attributes_say u v w y z x =
      record {
        tag = u;
        reads = v;
        size = w;
        many = attrs-length y;
        there = λ n. has-like n y;
        value = λ n e. value-like n (looked-whole n e) y z;
        name = bytes-like y z;
        block = x;
      }

  -- data of so many bytes, the same in both, or the same refusal
  pub data LikeFound (due : ℕ) : Found → Found → Type 0 where
    found : {x y : ℕ} → At x y → On (x + due) (y + due) → take due (drop x s) ≡ take due (drop y t) → LikeFound due (Found.at x) (Found.at y)
    no : {code x y : ℕ} → At x y → LikeFound due (Found.no code x) (Found.no code y)

  -- the data looked for behind two tags
  abbrev pub LikeBlock : ℕ → ℕ → Type 0
  LikeBlock x y = (due : ℕ) → LikeFound due (block_at h s x due (after s (suc x))) (block_at k t y due (after t (suc y)))

  -- the items up to two tags, and the data behind them
  pub data LikeScan : Scan → Scan → Type 0 where
    tagged : {g x y : ℕ} {l m : List Attribute} → At x y → LikeAttrs l m → On (suc x) (suc y) → LikeBlock x y → LikeScan (Scan.tagged g x l) (Scan.tagged g y m)
    ended : LikeScan Scan.ended Scan.ended
    no : {code x y : ℕ} → At x y → LikeScan (Scan.no code x) (Scan.no code y)

  -- the place of an operator's data; 0 where it reads none
  pub data LikeData : Bool → ℕ → ℕ → Type 0 where
    nowhere : LikeData false 0 0
    read_from : {x y : ℕ} → At x y → LikeData true x y

  -- two operators that say the same
  pub record LikeOp (a b : Operator) : Type 0 where
    pub at : At a.at b.at
    pub attrs : LikeAttrs a.attrs b.attrs
    pub where_data : LikeData a.reads a.first b.first
    pub next : On a.next b.next
    pub says : Says h k s t a b

  pub data LikeRead : Read → Read → Type 0 where
    operator : {a b : Operator} → LikeOp a b → LikeRead (Read.operator a) (Read.operator b)
    ended : LikeRead Read.ended Read.ended
    no : {code x y : ℕ} → At x y → LikeRead (Read.no code x) (Read.no code y)
