-- One operator of the job: what the judge reads off the arm's notes at the end of the row is that no operator of the row breaks a rule where the plain arm performs it.
-- Assumes nothing.
use Prim.Native.Nat.{ℕ, suc, ◌+◌, ◌≤◌, ◌<◌}
use mathlib.Core.Path.{◌≡◌, refl, sym, ap, ◌∙◌}
use mathlib.Core.Bool.{Bool, true, false, not, ◌&&◌, ◌||◌}
use mathlib.Core.List.{List, [], ◌∷◌, ◌++◌}
use native.Mathlib.Omega.{arith}
use borrow.Author.Tests.{leb-false, lt-leb}
use lib.ListN.{length}
use Rattle.scope.specs.Choice.{pick}
use Rattle.scope.specs.Arm.{Effect, push, pop, put, Select, no_pattern, pattern, Page, Seen, clash, risen, wanted, step, walk, Stroke}
use Rattle.scope.specs.Judge.{some_missing}
use Rattle.scope.specs.Plain.{Turn, stays, Deed, PlainArm, over_saved, selects_none, opened_by, page_by, of_session_by, of_page_by, breaks, performs, comes, performed, deeds}

-- what is around a row of operators, and stays: the source open or not, the patterns defined for the page and for the session
pub record Around : Type 0 where
  pub opened : Bool
  pub of_page : List ℕ
  pub of_session : List ℕ

-- no rule broken so far, with this around it
pub record Clean (o : Around) (w : Seen) : Type 0 where
  pub source : (w.source && not o.opened) ≡ false
  pub most : w.most ≤ 24
  pub lost : w.lost ≡ false
  pub wrong : w.wrong ≡ false
  pub there : some_missing o.of_page o.of_session w.wants ≡ false
  pub count : w.count ≤ 1_000_000

-- the plain arm where the judge's stands
abbrev pub arm_of : Around → Seen → PlainArm
arm_of o w = record { opened = o.opened; page = w.page; of_session = o.of_session; of_page = o.of_page; count = w.count }

pub or_left : (a b : Bool) → (a || b) ≡ false → a ≡ false
or_left true b e = e
or_left false b e = refl

pub or_right : (a b : Bool) → (a || b) ≡ false → b ≡ false
or_right true b e = absurd (let z : ◌≡◌ {A = ℕ} 0 1 = cc in omega arith)
or_right false b e = e

or_both : (a b : Bool) → a ≡ false → b ≡ false → (a || b) ≡ false
or_both a b e f = rw (e, f) refl

and_or : (a b c : Bool) → ((a || b) && c) ≡ (a && c || b && c)
and_or true true true = refl
and_or true true false = refl
and_or true false true = refl
and_or true false false = refl
and_or false b c = refl

-- a 25th state is saved exactly if the most saved gets past 24
risen-le : (e : Effect) (p : Page) (m : ℕ) → m ≤ 24 → over_saved e p ≡ false → risen e p m ≤ 24
unfolding risen
risen-le push p m h f = omega (arith, leb-false 24 (length p.saved) f)
risen-le pop p m h f = h
risen-le (put c g) p m h f = h

le_risen : (e : Effect) (p : Page) (m : ℕ) → risen e p m ≤ 24 → (m ≤ 24) × (over_saved e p ≡ false)
unfolding risen
le_risen push p m h = let k : length p.saved < 24 = omega (arith, h) in (omega (arith, h), lt-leb 24 (length p.saved) k)
le_risen pop p m h = (h, refl)
le_risen (put c g) p m h = (h, refl)

-- an operator with whatever turn
abbrev pub deed : Turn → Stroke → Deed
deed t x = record { turn = t; stroke = x }

-- a pattern selected that is not defined, among those selected before
missing-more : (o : Around) (e : Select) (p : PlainArm) (ns : List ℕ) → p.of_page ≡ o.of_page → p.of_session ≡ o.of_session
    → some_missing o.of_page o.of_session (wanted e ns) ≡ (selects_none e p || some_missing o.of_page o.of_session ns)
unfolding some_missing
missing-more o no_pattern p ns f g = refl
missing-more o (pattern n) p ns f g = rw (f, g) refl

module _ (o : Around) (x : Stroke) (w : Seen) where
  pub step_keeps : (t : Turn) → Clean o w → breaks (deed t x) (arm_of o w) ≡ false → Clean o (step x.act w)
  unfolding step breaks
  step_keeps t h b =
      let b1 = or_left (x.act.source && not o.opened) _ b in
      let c1 = or_right (x.act.source && not o.opened) _ b in
      let b2 = or_left (over_saved x.act.effect w.page) _ c1 in
      let c2 = or_right (over_saved x.act.effect w.page) _ c1 in
      let b3 = or_left (x.act.cursor && not w.page.cursor) _ c2 in
      let c3 = or_right (x.act.cursor && not w.page.cursor) _ c2 in
      let b4 = or_left (clash x.act.space w.page.gray) _ c3 in
      let c4 = or_right (clash x.act.space w.page.gray) _ c3 in
      let b5 = or_left (selects_none x.act.select (arm_of o w)) _ c4 in
      let b6 = or_right (selects_none x.act.select (arm_of o w)) _ c4 in
      record {
        source = and_or w.source x.act.source (not o.opened) ∙ or_both (w.source && not o.opened) (x.act.source && not o.opened) h.source b1;
        most = risen-le x.act.effect w.page w.most h.most b2;
        lost = or_both w.lost (x.act.cursor && not w.page.cursor) h.lost b3;
        wrong = or_both w.wrong (clash x.act.space w.page.gray) h.wrong b4;
        there = missing-more o x.act.select (arm_of o w) w.wants refl refl ∙ or_both (selects_none x.act.select (arm_of o w)) _ b5 h.there;
        count = leb-false 1_000_000 w.count b6;
      }

  pub keeps-step : (t : Turn) → Clean o (step x.act w) → Clean o w × (breaks (deed t x) (arm_of o w) ≡ false)
  unfolding step breaks
  keeps-step t h =
      let s = sym (and_or w.source x.act.source (not o.opened)) ∙ h.source in
      let (m, r) = le_risen x.act.effect w.page w.most h.most in
      let d = sym (missing-more o x.act.select (arm_of o w) w.wants refl refl) ∙ h.there in
      let n : w.count < 1_000_000 = h.count in (
        record {
          source = or_left (w.source && not o.opened) (x.act.source && not o.opened) s;
          most = m;
          lost = or_left w.lost (x.act.cursor && not w.page.cursor) h.lost;
          wrong = or_left w.wrong (clash x.act.space w.page.gray) h.wrong;
          there = or_right (selects_none x.act.select (arm_of o w)) _ d;
          count = omega (arith, n);
        },
        or_both _ _ (or_right (w.source && not o.opened) (x.act.source && not o.opened) s)
            (or_both _ _ r
            (or_both _ _ (or_right w.lost (x.act.cursor && not w.page.cursor) h.lost)
            (or_both _ _ (or_right w.wrong (clash x.act.space w.page.gray) h.wrong)
            (or_both _ _ (or_left (selects_none x.act.select (arm_of o w)) _ d) (lt-leb 1_000_000 w.count n))))),
      )

comes-both : (b x y z : Bool) → x ≡ pick y z false → pick b false x ≡ pick (pick b false y) z false
comes-both true x y z e = refl
comes-both false x y z e = e

pub comes-append : (xs ys : List Deed) (w : PlainArm) → comes (xs ++ ys) w ≡ pick (comes xs w) (comes ys (performed xs w)) false
unfolding comes performed
comes-append [] ys w = refl
comes-append (d ∷ ds) ys w =
    comes-both (breaks d w) (comes (ds ++ ys) (performs d w)) (comes ds (performs d w)) (comes ys (performed ds (performs d w))) (comes-append ds ys (performs d w))

passed : (b x : Bool) → pick b false x ≡ true → (b ≡ false) × (x ≡ true)
passed true x e = absurd (let z : ◌≡◌ {A = ℕ} 0 1 = cc in omega arith)
passed false x e = (refl, e)

passing : (b x : Bool) → b ≡ false → x ≡ true → pick b false x ≡ true
passing b x e f = rw (e, f) refl

-- a row of which only the first operator turns something has no other, or turns nothing
pub data Fits : Turn → List Stroke → Type 0 where
  alone : {t : Turn} → Fits t []
  staying : {l : List Stroke} → Fits stays l

-- what a turn does to the arm
abbrev pub turned : Turn → PlainArm → PlainArm
turned t v =
    record {
      opened = opened_by t v.opened;
      page = page_by t v.page;
      of_session = of_session_by t v.of_session;
      of_page = of_page_by t v.of_page;
      count = v.count;
    }

module _ (o : Around) where
  stay_clean : (l : List Stroke) (w : Seen) → Clean o w → comes (deeds stays l) (arm_of o w) ≡ true → Clean o (walk l w)
  unfolding walk comes deeds performs step
  stay_clean [] w h e = h
  stay_clean (a ∷ l) w h e =
      let (b, c) = passed (breaks (deed stays a) (arm_of o w)) (comes (deeds stays l) (arm_of o (step a.act w))) e in
      stay_clean l (step a.act w) (step_keeps o a w stays h b) c

  clean_stay : (l : List Stroke) (w : Seen) → Clean o (walk l w) → Clean o w × (comes (deeds stays l) (arm_of o w) ≡ true)
  unfolding walk comes deeds performs step
  clean_stay [] w h = (h, refl)
  clean_stay (a ∷ l) w h =
      let (k, e) = clean_stay l (step a.act w) h in
      let (c, b) = keeps-step o a w stays k in
      (c, passing (breaks (deed stays a) (arm_of o w)) (comes (deeds stays l) (arm_of o (step a.act w))) b e)

  stay_performed : (l : List Stroke) (w : Seen) → performed (deeds stays l) (arm_of o w) ≡ arm_of o (walk l w)
  unfolding walk performed deeds performs step
  stay_performed [] w = refl
  stay_performed (a ∷ l) w = stay_performed l (step a.act w)

  -- the judge's notes at the end of an operator's row, and the plain arm on that row
  pub row-clean : (t : Turn) (a : Stroke) (l : List Stroke) (w : Seen) → Fits t l → Clean o w → comes (deeds t (a ∷ l)) (arm_of o w) ≡ true
      → Clean o (walk (a ∷ l) w)
  unfolding walk comes deeds breaks
  row-clean t a [] w alone h e = step_keeps o a w t h (passed (breaks (deed t a) (arm_of o w)) true e).0
  row-clean stays a l w staying h e = stay_clean (a ∷ l) w h e

  pub clean_row : (t : Turn) (a : Stroke) (l : List Stroke) (w : Seen) → Fits t l → Clean o (walk (a ∷ l) w)
      → comes (deeds t (a ∷ l)) (arm_of o w) ≡ true
  unfolding walk comes deeds breaks
  clean_row t a [] w alone h = passing (breaks (deed t a) (arm_of o w)) true (keeps-step o a w t h).1 refl
  clean_row stays a l w staying h = (clean_stay (a ∷ l) w h).1

  pub row-performed : (t : Turn) (a : Stroke) (l : List Stroke) (w : Seen) → Fits t l
      → performed (deeds t (a ∷ l)) (arm_of o w) ≡ turned t (arm_of o (walk (a ∷ l) w))
  unfolding walk performed deeds performs step
  row-performed t a [] w alone = refl
  row-performed stays a l w staying = stay_performed (a ∷ l) w

pub deeds-length : (t : Turn) (l : List Stroke) → length (deeds t l) ≡ length l
unfolding deeds
deeds-length t [] = refl
deeds-length t (a ∷ l) = ap suc (deeds-length stays l)

pub walk-count : (l : List Stroke) (w : Seen) → (walk l w).count ≡ w.count + length l
unfolding walk step
walk-count [] w = omega arith
walk-count (a ∷ l) w = let p = walk-count l (step a.act w) in omega arith
