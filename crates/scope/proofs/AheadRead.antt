-- No looking ahead: what is read in u is read in u with anything behind it, an operator or a refusal, unless the end of u cuts it off.
-- Assumes nothing.
use Prim.Native.Nat.{ℕ, suc, ◌+◌, ◌-◌, ◌≤◌, ◌<◌}
use mathlib.Core.Path.{◌≡◌, refl, sym, ap, ◌∙◌, subst}
use mathlib.Core.Bool.{Bool, true, not, ◌&&◌, ◌||◌}
use mathlib.Core.List.{List, [], ◌∷◌, ◌++◌}
use native.Mathlib.Omega.{arith}
use borrow.Author.Tests.{leb-true, leb-false, le-leb, lt-leb, eqb-true}
use lib.ListN.{length, get_or, take, drop, length-drop}
use lib.Seq.{drop-append-le, take-append-le}
use lib.Dec.{leb, eqb}
use Rattle.scope.specs.Choice.{pick, between}
use Rattle.scope.specs.Number.{place, number}
use Rattle.scope.specs.Item.{Attribute, Scan, kind_of, width_of}
use Rattle.scope.specs.Table.{Takes, E, N, P, B, A, D, M, M2, L, Rule, Row, Line, Ruled, table, line_in, rule_in}
use Rattle.scope.specs.Attributes.{long_bytes, long_in, Fault, fine, bad, has, reals, two_at, whole_in, point_in, sizes_in, first_of, type_taken, in_range, attribute_code, one_by_one, value_in, bytes_in}
use Rattle.scope.specs.Data.{pad_of, block_due, Image, Due, Found, due_of, block_of, block_at}
use Rattle.scope.specs.Order.{length_fits, may_come, image_of, rows_fit}
use Rattle.scope.specs.Reading.{Context, Operator, Read, with_block, with_data, as_whole, with_attributes, with_line, scanned, operator_at}
use Rattle.scope.specs.Claims.{cut_off}
use Rattle.scope.proofs.Ends.{pick_all, GoodRead, with_line-good}
use Rattle.scope.proofs.AheadItems.{two-at_most, pick-when, pick_two, or_left, pick-both, longer, byte_cut, number_cut, CutPlace, within, past, after-cut, Inside, AllIn, none, more, all_up}
use Rattle.scope.proofs.AheadScan.{CutScan, BeyondScan, ShortScan, scan_cut}

module _ (u v : List ℕ) where
  abbrev w : List ℕ
  w = u ++ v

  module _ (high : Bool) where
    -- two reals lie in u, all eight bytes
    real_cut : {a : Attribute} → Inside (length u) a → a.tag ≡ 0xd5
        → reals (number high 4 u a.first) (number high 4 u (a.first + 4)) ≡ reals (number high 4 w a.first) (number high 4 w (a.first + 4))
    unfolding kind_of width_of
    real_cut {a} i e =
        let z = i.words 2 4 (rw e refl) in
        let x = number_cut u v high 4 a.first (omega arith) in
        let y = number_cut u v high 4 (a.first + 4) (omega arith) in
        (λ j. reals (x j) (y j))

    first_cut : {a : Attribute} → Inside (length u) a → first_of high u a ≡ first_of high w a
    unfolding first_of two_at
    first_cut {a} i =
        pick_two whole_in (eqb a.tag 0xd5) (λ _. refl)
        (λ _. let x = two-at_most a.tag in let y = i.word in number_cut u v high (pick (eqb a.tag 0xc0) 1 2) a.first (omega arith))

    second_cut : {a : Attribute} → Inside (length u) a → a.tag ≡ 0xd1 → number high 2 u (a.first + 2) ≡ number high 2 w (a.first + 2)
    unfolding kind_of width_of
    second_cut {a} i e = let z = i.words 2 2 (rw e refl) in number_cut u v high 2 (a.first + 2) (omega arith)

    point-cut : {a : Attribute} → Inside (length u) a → point_in (two_at high u a.tag a.first) ≡ point_in (two_at high w a.tag a.first)
    unfolding two_at
    point-cut {a} i = pick_two point_in (eqb a.tag 0xd5) (λ t. ap point_in (real_cut i (eqb-true a.tag 0xd5 t))) (λ _. refl)

    sizes_cut : (low : ℕ) {a : Attribute} → Inside (length u) a → eqb a.tag 0xd1 || eqb a.tag 0xd5 ≡ true
        → sizes_in low (two_at high u a.tag a.first) ≡ sizes_in low (two_at high w a.tag a.first)
    unfolding two_at
    sizes_cut low {a} i e =
        pick_two (sizes_in low) (eqb a.tag 0xd5) (λ t. ap (sizes_in low) (real_cut i (eqb-true a.tag 0xd5 t)))
        (λ f. let x = two-at_most a.tag in
        let y = i.word in
        let one = number_cut u v high (pick (eqb a.tag 0xc0) 1 2) a.first (omega arith) in
        let two = second_cut i (eqb-true a.tag 0xd1 (or_left (eqb a.tag 0xd1) (eqb a.tag 0xd5) e f)) in
        (λ j. leb low (one j) && leb low (two j)))

    range_cut : (k : Takes) (a : Attribute) → Inside (length u) a → type_taken k a.tag ≡ true → in_range high u k a ≡ in_range high w k a
    unfolding in_range type_taken
    range_cut (E low up) a i e = ap (between low up) (first_cut i)
    range_cut (N low up) a i e = ap (between low up) (first_cut i)
    range_cut P a i e = point-cut i
    range_cut B a i e = refl
    range_cut (A low up) a i e = refl
    range_cut (D low) a i e = sizes_cut low i e
    range_cut M a i e = ap (λ z. between 0 12 z || between 14 16 z) (first_cut i)
    range_cut M2 a i e = ap (λ z. pick (eqb a.tag 0xc8) (between 1 1024 a.count) (between 0 21 z || eqb z 96)) (first_cut i)
    range_cut L a i e = refl
    range_cut Takes.I a i e = refl

    code-cut : (before : List Attribute) (a : Attribute) → Inside (length u) a → (r : Ruled) → attribute_code high u before a r ≡ attribute_code high w before a r
    unfolding attribute_code
    code-cut before a i Ruled.none = refl
    code-cut before a i (Ruled.is r) =
        ap (pick (has a.number before) 12) (pick-when (type_taken r.takes a.tag) _ _ 15 (λ e. ap (λ b. pick b 0 16) (range_cut r.takes a i e)))

    one-cut : (rs : List Rule) (before l : List Attribute) → AllIn (length u) l → one_by_one high u rs before l ≡ one_by_one high w rs before l
    unfolding one_by_one
    one-cut rs before [] none = refl
    one-cut rs before (a ∷ l) (more i k) =
        let e = code-cut before a i (rule_in rs a.number) in
        let f = one-cut rs (before ++ (a ∷ [])) l k in
        (λ j. pick (eqb (e j) 0) (f j) (bad (e j) a.at))

    pub value-in_cut : (n : ℕ) {l : List Attribute} → AllIn (length u) l → value_in high u l n ≡ value_in high w l n
    unfolding value_in
    value-in_cut n none = refl
    value-in_cut n (more {a = a} i k) = let e = first_cut i in let f = value-in_cut n k in (λ j. pick (eqb a.number n) (e j) (f j))

    -- a whole number lies in u, all its bytes
    long-in : {a : Attribute} → Inside (length u) a → a.first + long_bytes a.tag ≤ length u
    unfolding kind_of width_of
    long-in {a} i =
        let y = i.word in
        pick_all (λ k. a.first + k ≤ length u) (eqb a.tag 0xc2) (λ t. let z = i.words 1 4 (rw (eqb-true a.tag 0xc2 t) refl) in omega arith)
        (λ _. pick_all (λ k. a.first + k ≤ length u) (eqb a.tag 0xc0) (λ _. omega arith) (λ _. omega arith))

    long-in_cut : (n : ℕ) {l : List Attribute} → AllIn (length u) l → long_in high u l n ≡ long_in high w l n
    unfolding long_in
    long-in_cut n none = refl
    long-in_cut n (more {a = a} i k) =
        let e = number_cut u v high (long_bytes a.tag) a.first (long-in i) in let f = long-in_cut n k in (λ j. pick (eqb a.number n) (e j) (f j))

    block-due_cut : (i : Image) {l : List Attribute} → AllIn (length u) l → block_due high u i l ≡ block_due high w i l
    unfolding block_due pad_of
    block-due_cut i k = rw (value-in_cut 99 k, value-in_cut 110 k) refl

    rows_cut : (i : Image) (tag : ℕ) {l : List Attribute} → AllIn (length u) l → rows_fit high u i tag l ≡ rows_fit high w i tag l
    unfolding rows_fit length_fits
    rows_cut i tag k = rw (value-in_cut 109 k, value-in_cut 99 k, long-in_cut 111 k, block-due_cut i k) refl

    due_cut : (i : Image) (tag : ℕ) {l : List Attribute} → AllIn (length u) l → due_of high u i tag l ≡ due_of high w i tag l
    unfolding due_of
    due_cut i tag k = rw (value-in_cut 140 k, block-due_cut i k, value-in_cut 80 k, value-in_cut 77 k) refl

  pub stretch_cut : (k at : ℕ) → at + k ≤ length u → take k (drop at u) ≡ take k (drop at w)
  stretch_cut k at h =
      let e = length-drop at u in
      let l : k ≤ length (drop at u) = omega arith in
      sym (take-append-le k (drop at u) v l) ∙ ap (take k) (sym (drop-append-le at u v (omega arith)))

  pub bytes_cut : (n : ℕ) {l : List Attribute} → AllIn (length u) l → bytes_in u l n ≡ bytes_in w l n
  unfolding bytes_in
  bytes_cut n none = refl
  bytes_cut n (more {a = a} i k) =
      let e = stretch_cut a.count a.first i.many in let f = bytes_cut n k in (λ j. pick (eqb a.number n) (e j) (f j))

  -- data
  abbrev BeyondFound : ℕ → Found → Type 0
  BeyondFound due (Found.at first) = length u < first + due
  BeyondFound due (Found.no code place) = Unit {0}

  data CutFound (due : ℕ) : Found → Found → Type 0 where
    both : {first : ℕ} → first + due ≤ length u → CutFound due (Found.at first) (Found.at first)
    same : {code place : ℕ} → CutFound due (Found.no code place) (Found.no code place)
    lost : {code place : ℕ} {y : Found} → cut_off code ≡ true → BeyondFound due y → CutFound due (Found.no code place) y

  module _ (high : Bool) (op due : ℕ) where
    block_of_beyond : (p b : ℕ) → length u < p + 1 + b + due → BeyondFound due (block_of high w op due p b)
    unfolding block_of
    block_of_beyond p b h =
        pick_all (BeyondFound due) (leb (p + 1 + b) (length w))
        (λ _. pick_all (BeyondFound due) (eqb (number high b w (p + 1)) due) (λ _. pick_all (BeyondFound due) (leb (p + 1 + b + due) (length w)) (λ _. h) (λ _. tt)) (λ _. tt))
        (λ _. tt)

    block_of_cut : (p b : ℕ) → CutFound due (block_of high u op due p b) (block_of high w op due p b)
    unfolding block_of
    block_of_cut p b =
        pick_all (λ z. CutFound due z (block_of high w op due p b)) (leb (p + 1 + b) (length u))
        (λ t. let x = leb-true (p + 1 + b) (length u) t in let y = longer u v in
        rw (le-leb (p + 1 + b) (length w) (omega arith), number_cut u v high b (p + 1) x)
        (pick-both (CutFound due) (eqb (number high b w (p + 1)) due)
        (λ _. pick_all (λ z. CutFound due z (pick (leb (p + 1 + b + due) (length w)) (Found.at (p + 1 + b)) (Found.no 5 p))) (leb (p + 1 + b + due) (length u))
        (λ t2. let x2 = leb-true (p + 1 + b + due) (length u) t2 in rw (le-leb (p + 1 + b + due) (length w) (omega arith)) (both x2))
        (λ f. lost refl (pick_all (BeyondFound due) (leb (p + 1 + b + due) (length w)) (λ _. leb-false (p + 1 + b + due) (length u) f) (λ _. tt)))) (λ _. same)))
        (λ f. let x = leb-false (p + 1 + b) (length u) f in lost refl (block_of_beyond p b (omega arith)))

    block_beyond : (r : ℕ) → length u ≤ r → BeyondFound due (block_at high w op due r)
    unfolding block_at
    block_beyond r h =
        pick_all (BeyondFound due) (leb (length w) r) (λ _. tt)
        (λ _. pick_all (BeyondFound due) (eqb (get_or w r 0) 0xfa) (λ _. block_of_beyond r 4 (omega arith))
        (λ _. pick_all (BeyondFound due) (eqb (get_or w r 0) 0xfb) (λ _. block_of_beyond r 1 (omega arith)) (λ _. tt)))

    block_cut : {p r : ℕ} → CutPlace u v p r → CutFound due (block_at high u op due p) (block_at high w op due r)
    unfolding block_at
    block_cut (within {p = p} k) =
        let y = longer u v in
        rw (lt-leb (length u) p k, lt-leb (length w) p (omega arith), byte_cut u v p k)
        (pick-both (CutFound due) (eqb (get_or w p 0) 0xfa) (λ _. block_of_cut p 4)
        (λ _. pick-both (CutFound due) (eqb (get_or w p 0) 0xfb) (λ _. block_of_cut p 1) (λ _. same)))
    block_cut (past {p = p} {r = r} k l) = rw (le-leb (length u) p k) (lost refl (block_beyond r l))

  -- an operator all of which stands in u
  pub record OpIn (o : Operator) : Type 0 where
    pub ends : o.next ≤ length u
    pub attrs : AllIn (length u) o.attrs
    pub block : o.first + o.length ≤ length u

  -- a reading that the end of u cuts off: the end, 5 or 27
  abbrev pub ShortRead : Read → Type 0
  ShortRead (Read.operator o) = ⊥
  ShortRead Read.ended = Unit {0}
  ShortRead (Read.no code place) = cut_off code ≡ true

  abbrev pub BeyondRead : Read → Type 0
  BeyondRead (Read.operator o) = length u < o.next
  BeyondRead Read.ended = Unit {0}
  BeyondRead (Read.no code place) = Unit {0}

  -- the same operator in both, all of it within u; the same refusal; or the end of u cuts it off
  pub data CutRead : Read → Read → Type 0 where
    both : {o : Operator} → OpIn o → CutRead (Read.operator o) (Read.operator o)
    same : {code place : ℕ} → CutRead (Read.no code place) (Read.no code place)
    lost : {x y : Read} → ShortRead x → BeyondRead y → CutRead x y

  module _ (c : Context) (tag p : ℕ) (l : List Attribute) (h : p < length u) (k : AllIn p l) where
    all_in : AllIn (length u) l
    all_in = all_up p (length u) (omega arith) k

    with_block_cut : (due : ℕ) {f g : Found} → CutFound due f g → CutRead (with_block tag p l due f) (with_block tag p l due g)
    unfolding with_block
    with_block_cut due (both x) = both (record { ends = x; attrs = all_in; block = x })
    with_block_cut due same = same
    with_block_cut due (lost {y = y} a b) = lost a (by y b)
      where
        by : (y : Found) → BeyondFound due y → BeyondRead (with_block tag p l due y)
        by (Found.at first) b = b
        by (Found.no code place) b = tt

    with_data_cut : (d : Due) → CutRead (with_data c u tag p l d) (with_data c w tag p l d)
    unfolding with_data
    with_data_cut Due.none = let z : 0 + 0 ≤ length u = omega arith in both (record { ends = h; attrs = all_in; block = z })
    with_data_cut (Due.reads due) =
        pick-both CutRead (c.asked && not c.opened) (λ _. same) (λ _. with_block_cut due (block_cut c.set.high p due (after-cut u v (suc p) h)))

    whole_cut : (code : ℕ) → CutRead (as_whole c u tag p l code) (as_whole c w tag p l code)
    unfolding as_whole
    whole_cut code =
        rw (rows_cut c.set.high (image_of c.phase) tag all_in, due_cut c.set.high (image_of c.phase) tag all_in)
        (pick-both CutRead (eqb code 0)
        (λ _. pick-both CutRead (rows_fit c.set.high w (image_of c.phase) tag l) (λ _. with_data_cut (due_of c.set.high w (image_of c.phase) tag l)) (λ _. same)) (λ _. same))

    attributes_cut : (r : Row) (f : Fault) → CutRead (with_attributes c u tag p l r f) (with_attributes c w tag p l r f)
    unfolding with_attributes
    attributes_cut r fine = whole_cut _
    attributes_cut r (bad code place) = same

    line_cut : (r : Line) → CutRead (with_line c u tag p l r) (with_line c w tag p l r)
    unfolding with_line
    line_cut Line.none = same
    line_cut (Line.is r) =
        pick-both CutRead (may_come c.phase c.opened tag)
        (λ _. subst (λ f. CutRead (with_attributes c u tag p l r (one_by_one c.set.high u r.rules [] l)) (with_attributes c w tag p l r f)) (one-cut c.set.high r.rules [] l all_in)
        (attributes_cut r (one_by_one c.set.high u r.rules [] l))) (λ _. same)

  good-beyond : (p : ℕ) → length u ≤ p → {may : ℕ → Bool} {r : Read} → GoodRead (length w) p may r → BeyondRead r
  good-beyond p h (GoodRead.operator x y z) = omega arith
  good-beyond p h GoodRead.ended = tt
  good-beyond p h (GoodRead.no x) = tt

  scanned-short : (c : Context) (x : Scan) → ShortScan u v x → ShortRead (scanned c u x)
  unfolding scanned
  scanned-short c (Scan.tagged tag p l) h = absurd h
  scanned-short c Scan.ended h = tt
  scanned-short c (Scan.no code place) h = h

  scanned-beyond : (c : Context) (y : Scan) → BeyondScan u v y → BeyondRead (scanned c w y)
  unfolding scanned
  scanned-beyond c (Scan.tagged tag p l) h = good-beyond p h.0 (with_line-good c w p tag p l (omega arith) h.1 (line_in (table c.set.class) tag))
  scanned-beyond c Scan.ended h = tt
  scanned-beyond c (Scan.no code place) h = tt

  scanned-cut : (c : Context) {x y : Scan} → CutScan u v x y → CutRead (scanned c u x) (scanned c w y)
  unfolding scanned
  scanned-cut c (CutScan.both {tag = tag} {p = p} {l = l} h k) = line_cut c tag p l h k (line_in (table c.set.class) tag)
  scanned-cut c CutScan.same = same
  scanned-cut c (CutScan.lost {x = x} {y = y} a b) = lost (scanned-short c x a) (scanned-beyond c y b)

  pub read-cut : (c : Context) (at : ℕ) → at ≤ length u → CutRead (operator_at c u at) (operator_at c w at)
  unfolding operator_at
  read-cut c at h = scanned-cut c (scan_cut u v c.set.high at h)

  -- an operator that is read in u is read in u with anything behind it
  pub read-longer : (c : Context) (at : ℕ) (o : Operator) → at ≤ length u → operator_at c u at ≡ Read.operator o → (operator_at c w at ≡ Read.operator o) × OpIn o
  read-longer c at o h e = by (subst (λ x. CutRead x (operator_at c w at)) e (read-cut c at h))
    where
      by : {y : Read} → CutRead (Read.operator o) y → (y ≡ Read.operator o) × OpIn o
      by (both i) = (refl, i)
      by (lost a b) = absurd a

  -- an operator that is read there and ends in u is read in u alone
  pub read-shorter : (c : Context) (at : ℕ) (o : Operator) → at ≤ length u → operator_at c w at ≡ Read.operator o → o.next ≤ length u
      → (operator_at c u at ≡ Read.operator o) × OpIn o
  read-shorter c at o h e k = by (subst (CutRead (operator_at c u at)) e (read-cut c at h))
    where
      by : {x : Read} → CutRead x (Read.operator o) → (x ≡ Read.operator o) × OpIn o
      by (both i) = (refl, i)
      by (lost a b) = absurd (omega arith)
