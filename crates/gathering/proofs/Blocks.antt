-- After ReadStream the code's place keeps the definitions' place: the block stands behind those joined before, and the bytes held are as they were.
-- Assumes nothing.
use Prim.Native.Nat.{ℕ, ◌+◌, ◌≤◌}
use mathlib.Core.Path.{◌≡◌, refl, ap, ◌∙◌}
use mathlib.Core.Bool.{Bool, false}
use mathlib.Core.List.{List, ◌++◌}
use native.Mathlib.Omega.{arith}
use lib.ListN.{length, take, drop, length-append}
use borrow.Author.Tests.{eq-eqb, ne_eqb}
use Rattle.scope.specs.Setting.{Setting}
use Rattle.scope.specs.Arm as scope_arm
use Rattle.scope.specs.Motif.{Motif, bytes_held}
use Rattle.scope.specs.Session as scope
use Rattle.scope.specs.Session.{session_after, place_after}
use Rattle.scope.specs.Judge.{State, Case, case_of, too_much}
use Rattle.reader.specs.Reads.{operator_as}
use Rattle.reader.specs.declared.reading.Operator.{Operator}
use Rattle.page.specs.declared.page.Page.{Page}
use Rattle.motif.specs.Stored.{Stored}
use Rattle.motif.specs.declared.kept.Kept.{Kept}
use Rattle.place.specs.Places.{Hatches, BusyHolds, reading_holds, PlaceHolds, inside_holds}
use Rattle.gathering.specs.Block.{Joined, Joins}
use Rattle.gathering.specs.Afterwards.{Comes, After}
use Rattle.early.specs.declared.early.Early.{Early}
use Rattle.place.specs.declared.place.Busy.TheVariants.{Reading}
use Rattle.place.specs.declared.place.Place.{Place}
use Rattle.place.specs.declared.place.Place.TheVariants.{Inside}
use Rattle.gathering.proofs.Joined.{block-length}
use Rattle.gathering.proofs.Storing.{stored-beside}
use Rattle.early.proofs.Breaking.{read-few}
use Rattle.early.proofs.Full.{passes-unbroken}

module _ (job attrs : List ℕ) (by : Setting) (o : Operator) (work t p : List ℕ) where
  -- the place after the operator, which leaves the page so
  abbrev next : scope_arm.Page → scope.Place → scope.Place
  next p q = place_after by job (operator_as o attrs) p q

  abbrev case_at : State → scope.Place → Case
  case_at st q = case_of by job st (scope.session_of q) (operator_as o attrs)

  -- ReadStream
  module _ (work₁ : List ℕ) (r : ℕ) (long : length work₁ ≡ length work) (b : o.tag ≡ 0x5c) where
    block_in : {i : Bool} {k : Kept} {a l j : ℕ} (x : scope.Session) (g : scope_arm.Page) (y : scope.Busy) → x.busy ≡ y → i ≡ x.opened → k.used ≤ 16384
        → Stored by work t k x.held → Hatches p x.held x.patterns → BusyHolds job work p k x.held (Reading a l j) y
        → k.used + j + o.length ≤ 16384 → o.first + o.length ≤ length job → Joined job o k.used j work work₁ r
        → PlaceHolds by job work₁ t p (Inside i k (Reading a l r)) (next g (scope.inside x))
    unfolding place_after session_after
    block_in {k = k} x g y e oi u s h (reading_holds {name = name} {joined = bytes} m n lj tj le room) hl hw f =
        let nx : o.tag ≡ 0x42 → ⊥ = λ z. omega arith in
        let block : List ℕ = take o.length (drop o.first job) in
        let lb : length block ≡ o.length = block-length job o.first o.length hw in
        let lr : r ≡ length (bytes ++ block) = f.more ∙ simp (length-append, lb, lj) in
        let tr : take r (drop k.used work₁) ≡ bytes ++ block = f.bytes ∙ ap (λ (c : List ℕ). c ++ block) tj in
        let hr : k.used + r ≤ 16384 = omega (arith, f.more) in
        rw (ne_eqb o.tag 0x42 nx, e, eq-eqb o.tag 0x5c b) (inside_holds oi u (stored-beside work₁ long f.held s) h (reading_holds m n lr tr hr room))

    block_room : {k : Kept} {ms : List Motif} {a l j : ℕ} (x : scope.Session) (st : State) (y : scope.Busy) → x.busy ≡ y → k.used ≡ bytes_held x.held
        → BusyHolds job work p k ms (Reading a l j) y → too_much (case_of by job st x (operator_as o attrs)) ≡ false → k.used + j + o.length ≤ 16384
    block_room {k = k} {j = j} x st y e w (reading_holds {joined = bytes} m n lj tj le room) f =
        let z : bytes_held x.held + (length (scope.joined_of x.busy) + o.length) ≤ 16384 = read-few by t p job attrs x o b st f in
        let z₂ : bytes_held x.held + (length bytes + o.length) ≤ 16384 = rw e at z in
        omega arith

    block-keeps : {early : Early} {page : Page} {i : Bool} {k : Kept} {a l j : ℕ} (q : scope.Place) (st : State)
        → Joins job o k.used j work work₁ r
        → PlaceHolds by job work t p (Inside i k (Reading a l j)) q
        → Comes job attrs by o early page work t p (Inside i k (Reading a l j)) q st
        → PlaceHolds by job work₁ t p (Inside i k (Reading a l r)) (next (case_at st q).seen.page q)
    block-keeps q st f (inside_holds {x = x} e u s h y) z =
        let l = block_room x st x.busy refl s.used y (passes-unbroken z.earlier).room in
        block_in x _ x.busy refl e u s h y l z.within (f z.room z.within l)

    pub block-after : {early : Early} {page : Page} {i : Bool} {k : Kept} {a l j : ℕ}
        → Joins job o k.used j work work₁ r
        → After job attrs by o early page work t p (Inside i k (Reading a l j)) work₁ t p (Inside i k (Reading a l r))
    block-after f = record { keeps = λ q st h. block-keeps q st f h.holds h }

  -- the name of the motif that is being read lies in the job
  named_in : {k : Kept} {ms : List Motif} {a l j : ℕ} {y : scope.Busy} → BusyHolds job work p k ms (Reading a l j) y → a + l ≤ length job
  named_in (reading_holds m n lj tj le room) = m.within

  name_in : {i : Bool} {k : Kept} {a l j : ℕ} {q : scope.Place} → PlaceHolds by job work t p (Inside i k (Reading a l j)) q → a + l ≤ length job
  name_in (inside_holds {x = x} e u s h y) = named_in y

  pub nameless_after : {early : Early} {page : Page} {i : Bool} {k : Kept} {a l j : ℕ} {work₁ t₁ p₁ : List ℕ} {r : Place} → (a + l ≤ length job → ⊥)
      → After job attrs by o early page work t p (Inside i k (Reading a l j)) work₁ t₁ p₁ r
  nameless_after f = record { keeps = λ q st h. absurd (f (name_in h.holds)) }
