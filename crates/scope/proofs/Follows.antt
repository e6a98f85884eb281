-- The plain arm follows the judge: where the judge's state stands and what it holds is sound, the arm stands too, and knows the names and bytes of what is held; and
-- it does so after an operator that breaks no layout rule.
-- Assumes nothing.
use Prim.Native.Nat.{ℕ, ◌+◌}
use mathlib.Core.Path.{◌≡◌, refl, ap, ◌∙◌}
use mathlib.Core.Bool.{Bool, true, false, ◌||◌}
use mathlib.Core.List.{List, [], ◌++◌}
use lib.ListN.{length, take, drop}
use lib.Dec.{eqb}
use Rattle.scope.specs.Choice.{pick, among}
use Rattle.scope.specs.Attributes.{bytes_in}
use Rattle.scope.specs.Order.{may_come, drawn, in_stream, in_page, in_image, in_pattern}
use Rattle.scope.specs.Reading.{Operator}
use Rattle.scope.specs.Arm.{Page}
use Rattle.scope.specs.Motif.{Picture, Judged, valid, faulty, motif_of}
use Rattle.scope.specs.Setting.{Setting}
use Rattle.scope.specs.Session.{Busy, resting, reading, drawing, Session, Place, outside, inside, session_of, phase_of, phase_busy, phase_drawing, page_of, joined_of, row_for, kept_as, session_after, place_after}
use Rattle.scope.specs.Judge.{State, case_of, after, judged_at}
use Rattle.scope.specs.Plain.{Known, Doing, doing_after, learnt, known_after, Unrolled, deeds, turn_of, Deed, deeds_for, on_operator, phase_at, performed}
use Rattle.scope.proofs.Codes.{Valid, Laid}
use Rattle.scope.proofs.Apart.{clash-of, differs}
use Rattle.scope.proofs.Stands.{standing, stands}
use Rattle.scope.proofs.Shaped.{doing_busy, doing_of}
use Rattle.scope.specs.Sound.{Sound, sound_none}
use Rattle.scope.proofs.Sound.{known_of, row-again, kept-known, kept-sound}

-- where the arm stands in a state
abbrev pub at-state : State → List Deed → Unrolled
at-state st row =
    record { at = st.at; doing = doing_of st.place; known = known_of (session_of st.place).held; arm = standing st; row = row }

phase-busy : (b : Busy) → phase_at (doing_busy b) (page_of b) ≡ phase_busy b
unfolding phase_at phase_busy phase_drawing
phase-busy resting = refl
phase-busy (reading n j) = refl
phase-busy (drawing p ns Picture.none) = refl
phase-busy (drawing p ns (Picture.being i)) = refl
phase-busy (drawing p ns (Picture.hatching h i)) = refl

pub phase-same : (p : Place) → phase_at (doing_of p) (page_of (session_of p).busy) ≡ phase_of p
unfolding phase_of phase_at
phase-same (outside b) = refl
phase-same (inside x) = phase-busy x.busy

-- what a place has become
record Follows (set : Setting) (d : Doing) (l : List Known) (q : Place) : Type 0 where
  doing : d ≡ doing_of q
  known : l ≡ known_of (session_of q).held
  sound : Sound set (session_of q).held

module _ (set : Setting) (s : List ℕ) (o : Operator) (p : Page) where
  by-reading : (n j : List ℕ) (x : Session) → Sound set x.held → (b : Bool) → {m : Judged} → motif_of set j ≡ m → (b ≡ false → Valid m)
      → Follows set (pick b (Doing.reading n (j ++ take o.length (drop o.first s))) Doing.resting) (pick b (known_of x.held) (learnt n j (known_of x.held)))
      (inside (pick b (record { held = x.held; opened = x.opened; patterns = x.patterns; busy = reading n (j ++ take o.length (drop o.first s)) })
      (record { held = kept_as n j m x.held; opened = x.opened; patterns = x.patterns; busy = resting })))
  by-reading n j x k true e v = record { doing = refl; known = refl; sound = k }
  by-reading n j x k false {m} e v = ended m e (v refl)
    where
      ended : (m : Judged) → motif_of set j ≡ m → Valid m
          → Follows set Doing.resting (learnt n j (known_of x.held)) (inside (record { held = kept_as n j m x.held; opened = x.opened; patterns = x.patterns; busy = resting }))
      ended (faulty code inner) g h = elim h [ ]
      ended (valid ops) g h = record { doing = refl; known = kept-known n j ops k; sound = kept-sound n j ops g k }

  by-resting : (x : Session) → Sound set x.held → (a b c d : Bool)
      → Follows set (pick a Doing.outside (pick b (Doing.drawing Picture.none) (pick c (Doing.reading (bytes_in s o.attrs 139) []) Doing.resting))) (pick a [] (known_of x.held))
      (pick a (outside true) (inside (record { held = x.held; opened = d; patterns = x.patterns; busy = pick b (drawing (record { cursor = false; gray = set.gray; saved = [] }) [] Picture.none) (pick c (reading (bytes_in s o.attrs 139) []) resting) })))
  unfolding known_of
  by-resting x k true b c d = record { doing = refl; known = refl; sound = sound_none }
  by-resting x k false true c d = record { doing = refl; known = refl; sound = k }
  by-resting x k false false true d = record { doing = refl; known = refl; sound = k }
  by-resting x k false false false d = record { doing = refl; known = refl; sound = k }

  by-drawing : (x : Session) → Sound set x.held → (ns ms : List ℕ) (i : Picture) (b : Bool)
      → Follows set (pick b Doing.resting (Doing.drawing i)) (known_of x.held)
      (inside (pick b (record { held = x.held; opened = x.opened; patterns = x.patterns; busy = resting }) (record { held = x.held; opened = x.opened; patterns = ns; busy = drawing p ms i })))
  by-drawing x k ns ms i true = record { doing = refl; known = refl; sound = k }
  by-drawing x k ns ms i false = record { doing = refl; known = refl; sound = k }

  either : (a b : Bool) → (a || b) ≡ true → a ≡ false → b ≡ true
  either true b e f = clash-of f
  either false b e f = e

  follow-busy : (x : Session) (b : Busy) → Sound set x.held → may_come (phase_busy b) x.opened o.tag ≡ true
      → Valid (judged_at set (joined_of b) o.tag)
      → Follows set (doing_after set.high s o (doing_busy b)) (known_after o (doing_busy b) (known_of x.held))
      (pick (eqb o.tag 0x42) (outside true) (inside (session_after set s o p b x)))
  unfolding doing_after known_after session_after phase_busy phase_drawing may_come drawn among judged_at
  follow-busy x resting k h v = by-resting x k (eqb o.tag 0x42) (eqb o.tag 0x43) (eqb o.tag 0x5b) _
  follow-busy x (reading n j) k h v =
      rw (differs (may_come in_stream x.opened) o.tag 0x42 h refl)
      (by-reading n j x k (eqb o.tag 0x5c) refl (λ t. rw (either (eqb o.tag 0x5c) (eqb o.tag 0x5d) h t) at v))
  follow-busy x (drawing q ms Picture.none) k h v =
      rw (differs (may_come (in_page (length q.saved)) x.opened) o.tag 0x42 h refl) (by-drawing x k _ _ _ (eqb o.tag 0x44))
  follow-busy x (drawing q ms (Picture.being i)) k h v =
      rw (differs (may_come (in_image i) x.opened) o.tag 0x42 h refl) (by-drawing x k _ _ _ (eqb o.tag 0x44))
  follow-busy x (drawing q ms (Picture.hatching c i)) k h v =
      rw (differs (may_come (in_pattern i) x.opened) o.tag 0x42 h refl) (by-drawing x k _ _ _ (eqb o.tag 0x44))

  follow : (q : Place) → Sound set (session_of q).held → may_come (phase_of q) (session_of q).opened o.tag ≡ true
      → Valid (judged_at set (joined_of (session_of q).busy) o.tag)
      → Follows set (doing_after set.high s o (doing_of q)) (known_after o (doing_of q) (known_of (session_of q).held)) (place_after set s o p q)
  unfolding place_after phase_of doing_after known_after known_of
  follow (outside b) k h v = record { doing = refl; known = refl; sound = sound_none }
  follow (inside x) k h v = follow-busy x x.busy k h v

module _ (set : Setting) (s : List ℕ) (st : State) (o : Operator) (k : Sound set (session_of st.place).held)
    (may : may_come (phase_of st.place) (session_of st.place).opened o.tag ≡ true) (l : Laid (case_of set s st (session_of st.place) o)) where
  abbrev next : State
  next = after set s st (case_of set s st (session_of st.place) o)

  followed : Follows set (doing_after set.high s o (doing_of st.place)) (known_after o (doing_of st.place) (known_of (session_of st.place).held)) next.place
  unfolding after case_of
  followed = follow set s o _ st.place k may l.made

  pub sound-after : Sound set (session_of next.place).held
  sound-after = followed.sound

  row-found : deeds_for set s (doing_of st.place) (known_of (session_of st.place).held) o
      ≡ deeds (turn_of set.gray (doing_of st.place) o.tag) (row_for set s (session_of st.place).held o)
  unfolding deeds_for case_of
  row-found = ap (deeds (turn_of set.gray (doing_of st.place) o.tag)) (row-again k s o l.met)

  -- the plain arm after an operator
  pub operator-on : (row : List Deed) → on_operator set s (at-state st row) o
      ≡ at-state next (row ++ deeds (turn_of set.gray (doing_of st.place) o.tag) (row_for set s (session_of st.place).held o))
  unfolding on_operator after case_of
  operator-on row =
      let a = ap (λ d. performed d (standing st)) row-found ∙ stands set s st o may in
      λ i. record { at = o.next; doing = followed.doing i; known = followed.known i; arm = a i; row = row ++ row-found i }
