-- Places for patterns: 33 by the number of those that are defined, and by whether this one is among them.
-- Assumes nothing.
use Prim.Native.Nat.{ℕ, ◌≤◌, ◌<◌}
use mathlib.Core.Path.{◌≡◌, refl}
use mathlib.Core.Bool.{Bool, true, false, not, ◌&&◌}
use mathlib.Core.List.{List}
use lib.ListN.{length}
use lib.Dec.{leb}
use borrow.Author.Tests.{eq-eqb, ne_eqb, le-leb, lt-leb}
use Rattle.scope.specs.Choice.{pick, among}
use Rattle.scope.specs.Session.{Session, Busy}
use Rattle.scope.specs.Judge.{Case, numbers_of, no_place}
use Rattle.page.specs.declared.page.Page.{Page}
use Rattle.motif.specs.declared.kept.Kept.{Kept}
use Rattle.order.specs.declared.picture.Picture.{Picture}
use Rattle.place.specs.Places.{Hatches, BusyHolds, drawing_holds}
use Rattle.place.specs.declared.place.Busy.TheVariants.{Drawing}
use Rattle.pattern_rows.specs.Numbers.{OfPage, OfSession, numbers_in, Others}
use Rattle.early.specs.Hatched.{Hatched}

-- what is kept of patterns in a page
pub drawn-hatched : {job work p : List ℕ} {kept : Kept} {y : Page} {i : Picture} {x : Session} → Hatches p x.held x.patterns
    → BusyHolds job work p kept x.held (Drawing y i) x.busy → Hatched p x
drawn-hatched {p = p} {x = x} h b = by x.busy refl b
  where
    by : {job work : List ℕ} {kept : Kept} {y : Page} {i : Picture} (q : Busy) → x.busy ≡ q → BusyHolds job work p kept x.held (Drawing y i) q → Hatched p x
    by q e (drawing_holds {ns = ns} g v n f u) =
        let w : length (numbers_in p OfPage) ≤ 32 = rw n f in
        let z : length (numbers_in p OfSession) ≤ 32 = rw h.session h.few in
        record { page = rw e n; session = h.session; few = record { page = w; session = z } }

-- the row of the numbers that are defined for the session, or for the page
pub row-numbers : {p : List ℕ} {x : Session} {row : ℕ} (session : Bool) → row ≡ pick session OfSession OfPage → Hatched p x → numbers_in p row ≡ numbers_of session x
row-numbers true e h = rw e h.session
row-numbers false e h = rw e h.page

-- with these numbers defined, there is no place for this one
abbrev pub taken : List ℕ → ℕ → Bool
taken ns n = leb 32 (length ns) && not (among ns n)

pub few-free : (ns : List ℕ) (n : ℕ) → length ns < 32 → taken ns n ≡ false
few-free ns n h = rw (lt-leb 32 (length ns) h)

pub again-free : (ns : List ℕ) (n : ℕ) → among ns n ≡ true → taken ns n ≡ false
again-free ns n e = rw e (last (leb 32 (length ns)))
  where
    last : (b : Bool) → b && false ≡ false
    last true = refl
    last false = refl

pub new-taken : (ns : List ℕ) (n : ℕ) → 32 ≤ length ns → among ns n ≡ false → taken ns n ≡ true
new-taken ns n h e = rw (le-leb 32 (length ns) h, e)

module _ (c : Case) where
  -- 33 is but for BeginRastPattern
  pub place_other : (c.op.tag ≡ 0xb3 → ⊥) → no_place c ≡ false
  unfolding no_place
  place_other n = rw (ne_eqb c.op.tag 0xb3 n)

  pub place-begin : c.op.tag ≡ 0xb3 → no_place c ≡ taken (numbers_of c.hatch.session c.session) c.hatch.number
  unfolding no_place
  place-begin e = rw (eq-eqb c.op.tag 0xb3 e)

-- numbers that stay as they are
pub unchanged : (p : List ℕ) (row : ℕ) → Others p row p
unchanged p row = record { long = refl; same = λ r n. refl; known = λ i. refl }
