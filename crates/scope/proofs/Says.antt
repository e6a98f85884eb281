-- Operators that say the same, in two jobs: what judging makes of them is the same, but for 26 and 28, which look at numbers that a job has gathered before.
-- Assumes nothing.
use Prim.Native.Nat.{ℕ, ◌+◌, ◌-◌}
use mathlib.Core.Path.{◌≡◌, refl, sym, ap, ◌∙◌}
use mathlib.Core.Bool.{Bool, true, false, not, ◌&&◌, ◌||◌}
use mathlib.Core.List.{List, [], ◌∷◌, ◌++◌, append_assoc}
use native.Mathlib.Omega.{arith}
use lib.ListN.{length, take, drop}
use lib.Dec.{ltb, leb, eqb}
use Rattle.scope.specs.Choice.{pick, among}
use Rattle.scope.specs.Attributes.{has, value_in, bytes_in}
use Rattle.scope.specs.Data.{reads_rows}
use Rattle.scope.specs.Header.{Header, header_of}
use Rattle.scope.specs.Reading.{Operator}
use Rattle.scope.specs.Arm.{Act, no_pattern, pattern, Page, Seen, idle, push, pop, put, to, kept, gray, rgb, any, clash, done, risen, needs_cursor, needs_space, select_of, effect_of, act_of, wanted, step, walk, from, blank, Stroke}
use Rattle.scope.specs.Calls.{unfolded}
use Rattle.scope.specs.Motif.{Motif, held_as, is_held, bytes_held, hatch_of, Picture, begun, read_on, picture_after, valid, faulty, judged_inside, motif_from, motif_of}
use Rattle.scope.specs.Setting.{Setting, same_class}
use Rattle.scope.specs.Session.{Busy, resting, reading, drawing, Session, Place, outside, inside, kept_as, session_of, phase_of, page_of, joined_of, page_patterns, defined_after, row_for, session_after, place_after}
use Rattle.scope.specs.Judge.{State, Case, judged_at, met_at, case_of, Refusal, Rule, rule, motifs_own, early, armed, limits, rules, first_broken, own_or, outer, too_much, numbers_of, no_place, name_missing, calls_itself, too_deep, source_closed, saved_over, cursor_unset, space_wrong, some_missing, pattern_missing}
use Rattle.scope.specs.Runs.{case_at}
use Rattle.scope.specs.Claims.{limit}
use Rattle.scope.proofs.Broken.{or_else, first-append}
use Rattle.scope.proofs.Rows.{walk-count}

-- the numbers of attributes whose values judging looks at behind reading: ColorSpace, PatternSelectID, ColorDepth, BlockHeight, PatternPersistence, PatternDefineID,
-- SourceHeight, SourceWidth
abbrev pub looked : ℕ → Bool
looked n = eqb n 3 || (eqb n 8 || (eqb n 98 || (eqb n 99 || (eqb n 104 || (eqb n 105 || (eqb n 107 || eqb n 108))))))

-- an operator of s, in one byte order, and one of t, in another perhaps, say the same
pub record Says (h k : Bool) (s t : List ℕ) (a b : Operator) : Type 0 where
  pub tag : a.tag ≡ b.tag
  pub reads : a.reads ≡ b.reads
  pub size : a.length ≡ b.length
  pub many : length a.attrs ≡ length b.attrs
  pub there : (n : ℕ) → has n a.attrs ≡ has n b.attrs
  pub value : (n : ℕ) → looked n ≡ true → value_in h s a.attrs n ≡ value_in k t b.attrs n
  pub name : bytes_in s a.attrs 139 ≡ bytes_in t b.attrs 139
  pub block : take a.length (drop a.first s) ≡ take b.length (drop b.first t)

-- two places of a job that are the same; or both outside a session, where the job does not end
pub data LikePlace (more : Type 0) : Place → Place → Type 0 where
  same_place : {w : Place} → LikePlace more w w
  outsides : {b c : Bool} → more → LikePlace more (outside b) (outside c)

pub session-same : {more : Type 0} {w v : Place} → LikePlace more w v → session_of w ≡ session_of v
session-same same_place = refl
session-same (outsides m) = refl

pub phase-same : {more : Type 0} {w v : Place} → LikePlace more w v → phase_of w ≡ phase_of v
unfolding phase_of
phase-same same_place = refl
phase-same (outsides m) = refl

-- what the arm has seen, but for how many operators it has performed
unfoldable pub uncounted : Seen → Seen
uncounted w = record { page = w.page; count = 0; most = w.most; source = w.source; lost = w.lost; wrong = w.wrong; wants = w.wants }

walk-uncounted : (l : List Stroke) (w v : Seen) → uncounted w ≡ uncounted v → uncounted (walk l w) ≡ uncounted (walk l v)
unfolding walk step uncounted
walk-uncounted [] w v e = e
walk-uncounted (x ∷ l) w v e =
    walk-uncounted l (step x.act w) (step x.act v)
    (λ i. record {
      page = done x.act.effect (e i).page;
      count = 0;
      most = risen x.act.effect (e i).page (e i).most;
      source = (e i).source || x.act.source;
      lost = (e i).lost || (x.act.cursor && not (e i).page.cursor);
      wrong = (e i).wrong || clash x.act.space (e i).page.gray;
      wants = wanted x.act.select (e i).wants;
    })

-- a row performed: of its first operator only what it needs and does plays a part
row-through : (call : Bool) (o : Operator) (a : Act) (l : List Stroke) (w : Seen)
    → walk (pick call (record { motif = 0; op = o; act = idle } ∷ l) (record { motif = 0; op = o; act = a } ∷ [])) w
    ≡ pick call (walk l (step idle w)) (step a w)
unfolding walk
row-through true o a l w = refl
row-through false o a l w = refl

-- two cases that the rules cannot tell apart but by the numbers, of which the first has m operators and r records before it, the second n and q
pub record LikeCase (m n r q : ℕ) (c d : Case) : Type 0 where
  pub session : c.session ≡ d.session
  pub tag : c.op.tag ≡ d.op.tag
  pub size : c.op.length ≡ d.op.length
  pub name : c.name ≡ d.name
  pub hatch : c.hatch ≡ d.hatch
  pub seen : uncounted c.seen ≡ uncounted d.seen
  pub made : c.made ≡ d.made
  pub met : c.met ≡ d.met
  pub count : c.seen.count + n ≡ d.seen.count + m
  pub records : c.records + q ≡ d.records + r

-- the rules before 26 and 28 say something, or else those two
pub broken-is : (given : ℕ → Bool) (room : ℕ) (c : Case)
    → first_broken given c (rules room) ≡ or_else (first_broken given c (early ++ armed)) (first_broken given c (limits room))
unfolding rules
broken-is given room c = ap (first_broken given c) (sym (append_assoc early armed (limits room))) ∙ first-append given c (early ++ armed) (limits room)

-- the same codes are given, but for those two perhaps
abbrev pub AlikeGiven : (ℕ → Bool) → (ℕ → Bool) → Type 0
AlikeGiven f g = (k : ℕ) → limit k ≡ false → f k ≡ g k

-- each of some rules, but those two, says the same of two cases
data AllLike (c d : Case) : List Rule → Type 0 where
  none : AllLike c d []
  more : {k : ℕ} {broken : Case → Bool} {rs : List Rule} → limit k ≡ false → broken c ≡ broken d → AllLike c d rs → AllLike c d (rule k broken ∷ rs)
  own : {rs : List Rule} → c.made ≡ d.made → AllLike c d rs → AllLike c d (motifs_own ∷ rs)

like-append : {c d : Case} {xs ys : List Rule} → AllLike c d xs → AllLike c d ys → AllLike c d (xs ++ ys)
like-append none k = k
like-append (more e f h) k = more e f (like-append h k)
like-append (own e h) k = own e (like-append h k)

first-like : (f g : ℕ → Bool) → AlikeGiven f g → {c d : Case} {rs : List Rule} → AllLike c d rs → first_broken f c rs ≡ first_broken g d rs
unfolding first_broken
first-like f g e none = refl
first-like f g e (more {k = k} l b a) = λ i. pick (e k l i && b i) (Refusal.refused k outer) (first-like f g e a i)
first-like f g e (own m a) = λ i. own_or (m i) (first-like f g e a i)

module _ {m n r q : ℕ} {c d : Case} (h : LikeCase m n r q c d) where
  early-like : AllLike c d early
  unfolding early too_much no_place name_missing calls_itself too_deep
  early-like =
      more refl
      (λ i. (eqb (h.tag i) 0x5b && (leb 64 (length (h.session i).held) && not (is_held (held_as (h.name i) (h.session i).held))))
      || (eqb (h.tag i) 0x5c && ltb 16384 (bytes_held (h.session i).held + (length (joined_of (h.session i).busy) + h.size i))))
      (more refl
      (λ i. eqb (h.tag i) 0xb3
      && (leb 32 (length (numbers_of (h.hatch i).session (h.session i))) && not (among (numbers_of (h.hatch i).session (h.session i)) (h.hatch i).number)))
      (own h.made (more refl (λ i. (h.met i).missing) (more refl (λ i. (h.met i).again) (more refl (λ i. (h.met i).deep) none)))))

  armed-like : AllLike c d armed
  unfolding armed source_closed saved_over cursor_unset space_wrong pattern_missing uncounted
  armed-like =
      more refl (λ i. (h.seen i).source && not (h.session i).opened)
      (more refl (λ i. ltb 24 (h.seen i).most) (more refl (λ i. (h.seen i).lost) (more refl (λ i. (h.seen i).wrong)
      (more refl (λ i. some_missing (page_patterns (h.session i).busy) (h.session i).patterns (h.seen i).wants) none))))

  -- the rules before 26 and 28 say the same
  pub before-like : (f g : ℕ → Bool) → AlikeGiven f g → first_broken f c (early ++ armed) ≡ first_broken g d (early ++ armed)
  before-like f g e = first-like f g e (like-append early-like armed-like)

-- two settings that differ in the byte order at most
pub record Akin (set other : Setting) : Type 0 where
  pub class : set.class ≡ other.class
  pub gray : set.gray ≡ other.gray

pub akin_refl : {set : Setting} → Akin set set
akin_refl = record { class = refl; gray = refl }

-- a motif is judged in its own byte order
motif-akin : {set other : Setting} → Akin set other → (s : List ℕ) → motif_of set s ≡ motif_of other s
unfolding motif_of motif_from
motif-akin {set} {other} k s = by (header_of s)
  where
    by : (h : Header) → motif_from set s h ≡ motif_from other s h
    by (Header.no code place) = refl
    by (Header.is class high next) =
        λ i. pick (same_class class (k.class i))
        (judged_inside (record { class = k.class i; high = high; gray = k.gray i }) s (record { at = next; saved = 0; picture = Picture.none; ops = [] }))
        (faulty 4 12)

judged-akin : {set other : Setting} → Akin set other → (joined : List ℕ) (tag : ℕ) → judged_at set joined tag ≡ judged_at other joined tag
unfolding judged_at
judged-akin k joined tag = λ i. pick (eqb tag 0x5d) (motif-akin k joined i) (valid [])

module _ (set other : Setting) (akin : Akin set other) (s t : List ℕ) (a b : Operator) (h : Says set.high other.high s t a b) where
  space-like : needs_space a.tag a.attrs ≡ needs_space b.tag b.attrs
  unfolding needs_space
  space-like = λ i. pick (eqb (h.tag i) 0xb0 || eqb (h.tag i) 0xb3) gray (pick (eqb (h.tag i) 0x63 || eqb (h.tag i) 0x79) (pick (h.there 11 i) rgb (pick (h.there 9 i) gray any)) any)

  select-like : select_of set.high s a.tag a.attrs ≡ select_of other.high t b.tag b.attrs
  unfolding select_of
  select-like = λ i. pick (eqb (h.tag i) 0x63 && h.there 8 i) (pattern (h.value 8 refl i)) no_pattern

  hatch-like : hatch_of set.high s a.attrs ≡ hatch_of other.high t b.attrs
  unfolding hatch_of
  hatch-like = λ i. record { session = eqb (h.value 104 refl i) 2; number = h.value 105 refl i }

  effect-like : effect_of set s a.tag a.attrs ≡ effect_of other t b.tag b.attrs
  unfolding effect_of
  effect-like =
      λ i. pick (eqb (h.tag i) 0x61) push
      (pick (eqb (h.tag i) 0x60) pop
      (pick (eqb (h.tag i) 0x6b) (put (to true) kept)
      (pick (eqb (h.tag i) 0x85) (put (to false) kept)
      (pick (eqb (h.tag i) 0x6a) (put kept (to (eqb (h.value 3 refl i) 1)))
      (pick (eqb (h.tag i) 0x57) (put (to false) (to (akin.gray i))) (put kept kept))))))

  act-like : act_of set s a ≡ act_of other t b
  unfolding act_of
  act-like = λ i. record { source = h.reads i; cursor = needs_cursor (h.tag i); space = space-like i; select = select-like i; effect = effect-like i }

  row-like : (held : List Motif) (w : Seen) → walk (row_for set s held a) w ≡ walk (row_for other t held b) w
  unfolding row_for
  row-like held w =
      row-through (eqb a.tag 0x5e) a (act_of set s a) (unfolded held 32 [] (bytes_in s a.attrs 139)) w
      ∙ (λ i. pick (eqb (h.tag i) 0x5e) (walk (unfolded held 32 [] (h.name i)) (step idle w)) (step (act-like i) w))
      ∙ sym (row-through (eqb b.tag 0x5e) b (act_of other t b) (unfolded held 32 [] (bytes_in t b.attrs 139)) w)

  -- as many operators are performed for the one as for the other
  row-length : (held : List Motif) → length (row_for set s held a) ≡ length (row_for other t held b)
  unfolding from
  row-length held =
      let w = from (blank false) 0 in
      let e : (walk (row_for set s held a) w).count ≡ (walk (row_for other t held b) w).count = ap (λ v. v.count) (row-like held w) in
      let f = walk-count (row_for set s held a) w in
      let g = walk-count (row_for other t held b) w in
      omega arith

  picture-like : (v : Picture) → picture_after set.high s a v ≡ picture_after other.high t b v
  unfolding picture_after begun reads_rows
  picture-like v =
      λ i. pick (eqb (h.tag i) 0xb0)
      (Picture.being (record { width = h.value 108 refl i; depth = h.value 98 refl i; height = h.value 107 refl i; rows = 0 }))
      (pick (eqb (h.tag i) 0xb3)
      (Picture.hatching (hatch-like i) (record { width = h.value 108 refl i; depth = h.value 98 refl i; height = h.value 107 refl i; rows = 0 }))
      (pick (eqb (h.tag i) 0xb1 || eqb (h.tag i) 0xb4) (read_on (h.value 99 refl i) v) (pick (eqb (h.tag i) 0xb2 || eqb (h.tag i) 0xb5) Picture.none v)))

  -- the rules look at the same, in two states of the same session
  pub case_like : (x y : State) → session_of x.place ≡ session_of y.place
      → LikeCase x.performed y.performed x.records y.records (case_at set s x a) (case_at other t y b)
  unfolding case_of from uncounted
  case_like x y e =
      let z = session_of x.place in
      let v = session_of y.place in
      let many = h.many in
      let rows : length (row_for set s z.held a) ≡ length (row_for other t v.held b) = row-length z.held ∙ (λ i. length (row_for other t (e i).held b)) in
      let k = walk-count (row_for set s z.held a) (from (page_of z.busy) x.performed) in
      let l = walk-count (row_for other t v.held b) (from (page_of v.busy) y.performed) in
      record {
        session = e;
        tag = h.tag;
        size = h.size;
        name = h.name;
        hatch = hatch-like;
        seen = ap uncounted (row-like z.held (from (page_of z.busy) x.performed))
            ∙ (λ i. uncounted (walk (row_for other t (e i).held b) (from (page_of (e i).busy) x.performed)))
            ∙ walk-uncounted (row_for other t v.held b) (from (page_of v.busy) x.performed) (from (page_of v.busy) y.performed) refl;
        made = (λ i. judged_at set (joined_of (e i).busy) (h.tag i)) ∙ judged-akin akin (joined_of v.busy) b.tag;
        met = λ i. met_at (e i).held (h.name i) (h.tag i);
        count = omega arith;
        records = omega arith;
      }

  session-like : (p q : Page) → p ≡ q → (w : Busy) (z : Session) → session_after set s a p w z ≡ session_after other t b q w z
  unfolding session_after
  session-like p q e resting z =
      λ i. record {
        held = z.held;
        opened = pick (eqb (h.tag i) 0x48) true (pick (eqb (h.tag i) 0x49) false z.opened);
        patterns = z.patterns;
        busy = pick (eqb (h.tag i) 0x43) (drawing (blank (akin.gray i)) [] Picture.none) (pick (eqb (h.tag i) 0x5b) (reading (h.name i) []) resting);
      }
  session-like p q e (reading n j) z =
      λ i. pick (eqb (h.tag i) 0x5c)
      (record { held = z.held; opened = z.opened; patterns = z.patterns; busy = reading n (j ++ h.block i) })
      (record { held = kept_as n j (motif-akin akin j i) z.held; opened = z.opened; patterns = z.patterns; busy = resting })
  session-like p q e (drawing o ns v) z =
      λ i. pick (eqb (h.tag i) 0x44)
      (record { held = z.held; opened = z.opened; patterns = z.patterns; busy = resting })
      (record {
        held = z.held;
        opened = z.opened;
        patterns = defined_after true (h.tag i) v z.patterns;
        busy = drawing (e i) (defined_after false (h.tag i) v ns) (picture-like v i);
      })

  pub place-like : {more : Type 0} (p q : Page) → p ≡ q → {w v : Place} → LikePlace more w v → place_after set s a p w ≡ place_after other t b q v
  unfolding place_after
  place-like p q e (same_place {w = outside c}) = refl
  place-like p q e (same_place {w = inside z}) = λ i. pick (eqb (h.tag i) 0x42) (outside true) (inside (session-like p q e z.busy z i))
  place-like p q e (outsides m) = refl
