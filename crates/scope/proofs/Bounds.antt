-- At every moment a session holds at most 64 motifs, and with the one that is being read at most 16,384 bytes of them: a new name begins only where a place is
-- left, a block is read only where there is room, and a motif that is replaced leaves its own.
-- Assumes nothing.
use Prim.Native.Nat.{ℕ, zero, suc, ◌+◌, ◌≤◌, ◌<◌}
use mathlib.Core.Path.{◌≡◌, refl, sym, ap, ◌∙◌}
use mathlib.Core.Bool.{Bool, true, false, not, ◌&&◌}
use mathlib.Core.List.{List, [], ◌∷◌}
use native.Mathlib.Omega.{arith}
use borrow.Author.Tests.{leb-false, ltb-false}
use lib.ListN.{length, take, drop, length-append}
use lib.Dec.{leb, eqb}
use Rattle.scope.specs.Choice.{pick}
use Rattle.scope.specs.Setting.{Setting}
use Rattle.scope.specs.Attributes.{bytes_in}
use Rattle.scope.specs.Reading.{Operator}
use Rattle.scope.specs.Arm.{Page, blank}
use Rattle.scope.specs.Motif.{Motif, held_as, is_held, bytes_held, Picture, Judged, valid, faulty, motif_of}
use Rattle.scope.specs.Session.{Busy, resting, reading, drawing, Session, Place, outside, inside, session_of, joined_of, kept_as, session_after, place_after}
use Rattle.scope.specs.Judge.{State, starting, case_of, too_much, after}
use Rattle.scope.specs.Verdict.{every}
use Rattle.scope.specs.Runs.{case_at, next, Performs, Runs, here, then}
use Rattle.scope.specs.Claims.{Bounded}
use Rattle.scope.proofs.Ends.{pick_all}
use Rattle.scope.proofs.Apart.{clash-of}
use Rattle.scope.proofs.Rows.{or_left, or_right}
use Rattle.scope.proofs.Codes.{laid, none-layout}
use Rattle.scope.proofs.Sound.{replaced-length}
use Rattle.scope.proofs.Replaces.{kept-replaced}

-- a new name that is being read has a place left
abbrev Spare : Busy → List Motif → Type 0
Spare resting l = Unit {0}
Spare (reading n j) l = is_held (held_as n l) ≡ false → length l < 64
Spare (drawing p ns i) l = Unit {0}

record Roomy (x : Session) : Type 0 where
  few : length x.held ≤ 64
  spare : Spare x.busy x.held
  bytes : bytes_held x.held + length (joined_of x.busy) ≤ 16384

kept-few : (n j : List ℕ) (m : Judged) (l : List Motif) → length l ≤ 64 → (is_held (held_as n l) ≡ false → length l < 64) → length (kept_as n j m l) ≤ 64
unfolding kept_as
kept-few n j (faulty code inner) l h k = h
kept-few n j (valid ops) l h k =
    pick_all (λ (r : List Motif). length r ≤ 64) (is_held (held_as n l)) (λ _. let e = replaced-length n j ops l in omega arith) (λ t. k t)

kept-bytes : (n j : List ℕ) (m : Judged) (l : List Motif) → bytes_held (kept_as n j m l) ≤ bytes_held l + length j
unfolding kept_as
kept-bytes n j (faulty code inner) l = omega arith
kept-bytes n j (valid ops) l = let e = (kept-replaced n j ops l).room in omega arith

take_short : (n : ℕ) (l : List ℕ) → length (take n l) ≤ n
take_short zero l = omega arith
take_short (suc n) [] = omega arith
take_short (suc n) (x ∷ l) = let h = take_short n l in omega arith

and_false : (a b : Bool) → (a && b) ≡ false → a ≡ true → b ≡ false
and_false true b e f = e
and_false false b e f = clash-of (λ i. not (f i))

and_left : (a b : Bool) → (a && not b) ≡ false → b ≡ false → a ≡ false
and_left true b e f = clash-of (sym (ap not f) ∙ e)
and_left false b e f = refl

module _ (set : Setting) (s : List ℕ) (o : Operator) (p : Page) where
  abbrev name : List ℕ
  name = bytes_in s o.attrs 139

  -- a new name that begins has a place left, and a block that is read has room
  record Fits (x : Session) : Type 0 where
    begins : eqb o.tag 0x5b ≡ true → is_held (held_as name x.held) ≡ false → length x.held < 64
    reads : eqb o.tag 0x5c ≡ true → bytes_held x.held + (length (joined_of x.busy) + o.length) ≤ 16384

  by-resting : (x : Session) → length x.held ≤ 64 → bytes_held x.held ≤ 16384 → (b c d : Bool) → (c ≡ true → is_held (held_as name x.held) ≡ false → length x.held < 64)
      → Roomy (record { held = x.held; opened = d; patterns = x.patterns; busy = pick b (drawing (blank set.gray) [] Picture.none) (pick c (reading name []) resting) })
  by-resting x h k true c d f = record { few = h; spare = tt; bytes = omega arith }
  by-resting x h k false true d f = record { few = h; spare = f refl; bytes = omega arith }
  by-resting x h k false false d f = record { few = h; spare = tt; bytes = omega arith }

  session-roomy : (b : Busy) (x : Session) → length x.held ≤ 64 → Spare b x.held → bytes_held x.held + length (joined_of b) ≤ 16384
      → (eqb o.tag 0x5b ≡ true → is_held (held_as name x.held) ≡ false → length x.held < 64)
      → (eqb o.tag 0x5c ≡ true → bytes_held x.held + (length (joined_of b) + o.length) ≤ 16384) → Roomy (session_after set s o p b x)
  unfolding session_after
  session-roomy resting x h k l f g = let m : bytes_held x.held ≤ 16384 = omega (arith, l) in by-resting x h m (eqb o.tag 0x43) (eqb o.tag 0x5b) _ f
  session-roomy (reading n j) x h k l f g =
      pick_all Roomy (eqb o.tag 0x5c)
      (λ t. record {
        few = h;
        spare = k;
        bytes = let e = length-append j (take o.length (drop o.first s)) in let a = take_short o.length (drop o.first s) in let b = g t in omega arith;
      })
      (λ _. record { few = kept-few n j (motif_of set j) x.held h k; spare = tt; bytes = let e = kept-bytes n j (motif_of set j) x.held in omega arith })
  session-roomy (drawing q ns i) x h k l f g =
      pick_all Roomy (eqb o.tag 0x44) (λ _. record { few = h; spare = tt; bytes = l }) (λ _. record { few = h; spare = tt; bytes = l })

  place-roomy : (q : Place) → Roomy (session_of q) → Fits (session_of q) → Roomy (session_of (place_after set s o p q))
  unfolding place_after bytes_held
  place-roomy (outside b) k f = record { few = omega arith; spare = tt; bytes = omega arith }
  place-roomy (inside x) k f =
      pick_all (λ r. Roomy (session_of r)) (eqb o.tag 0x42) (λ _. record { few = omega arith; spare = tt; bytes = omega arith })
      (λ _. session-roomy x.busy x k.few k.spare k.bytes f.begins f.reads)

module _ (set : Setting) (s : List ℕ) (room : ℕ) where
  fits-of : (st : State) (o : Operator) (p : Page) → too_much (case_at set s st o) ≡ false → Fits set s o p (session_of st.place)
  unfolding too_much case_of
  fits-of st o p e =
      let x = session_of st.place in
      let known = is_held (held_as (bytes_in s o.attrs 139) x.held) in
      let a = or_left (eqb o.tag 0x5b && (leb 64 (length x.held) && not known)) _ e in
      let b = or_right (eqb o.tag 0x5b && (leb 64 (length x.held) && not known)) _ e in
      record {
        begins = λ t n. leb-false 64 (length x.held) (and_left (leb 64 (length x.held)) known (and_false (eqb o.tag 0x5b) _ a t) n);
        reads = λ t. ltb-false 16384 (bytes_held x.held + (length (joined_of x.busy) + o.length)) (and_false (eqb o.tag 0x5c) _ b t);
      }

  start-roomy : (at : ℕ) → Roomy (session_of (starting at).place)
  unfolding bytes_held
  start-roomy at = record { few = omega arith; spare = tt; bytes = omega arith }

  performs-roomy : (st : State) (o : Operator) → Performs every set s room st o → Roomy (session_of st.place) → Roomy (session_of (next set s st o).place)
  unfolding after case_of
  performs-roomy st o p h =
      let l = laid (case_at set s st o) (none-layout room (case_at set s st o) p.kept) in
      place-roomy set s o (case_at set s st o).seen.page st.place h (fits-of st o (case_at set s st o).seen.page l.fits)

  runs-roomy : {a b : State} {os : List Operator} → Runs every set s room a os b → Roomy (session_of a.place) → Roomy (session_of b.place)
  runs-roomy here h = h
  runs-roomy (then {a = a} {o = o} p r) h = runs-roomy r (performs-roomy a o p h)

pub bounded : Bounded
bounded set job room at os st r = let h = runs-roomy set job room r (start-roomy set job room at) in (h.few, h.bytes)
