-- Request 8 in one place: after EndStream the name of the motif means the new one and every other name what it meant; numbers stay, and the room of a replaced
-- motif is used again.
-- Assumes nothing.
use Prim.Native.Nat.{ℕ, suc, ◌+◌}
use mathlib.Core.Path.{◌≡◌, refl, sym, ap, ◌∙◌, subst⁻¹}
use mathlib.Core.Bool.{Bool, true, false}
use mathlib.Core.List.{List, [], ◌∷◌}
use native.Mathlib.Omega.{arith}
use lib.ListN.{length}
use lib.Dec.{eqb}
use Rattle.scope.specs.Choice.{pick, same}
use Rattle.scope.specs.Setting.{Setting}
use Rattle.scope.specs.Reading.{Operator}
use Rattle.scope.specs.Arm.{Page}
use Rattle.scope.specs.Motif.{Own, Motif, Held, held_as, is_held, bytes_held, Judged, valid, faulty, motif_of}
use Rattle.scope.specs.Session.{reading, Session, Place, inside, outside, session_of, joined_of, replaced, kept_as, session_after, place_after}
use Rattle.scope.specs.Judge.{judged_at, case_of, after}
use Rattle.scope.specs.Runs.{case_at}
use Rattle.scope.specs.Claims.{room_of, number_of, Replaced, Replaces}
use Rattle.scope.proofs.Apart.{clash-of, same-eq, same_refl}
use Rattle.scope.proofs.Codes.{Valid, laid, none-layout}

module _ (n j : List ℕ) (ops : List Own) where
  -- the motif, under some number
  abbrev new : ℕ → Motif
  new k = record { name = n; bytes = j; number = k; ops = ops }

  here-is : (m : Motif) (ms : List Motif) → same m.name n ≡ true → held_as n (m ∷ ms) ≡ Held.is m
  unfolding held_as
  here-is m ms t = ap (λ b. elim b [ true ↦ Held.is m | false ↦ held_as n ms ]) t

  there-is : (c : List ℕ) (m : Motif) (ms : List Motif) → same m.name c ≡ false → held_as c (m ∷ ms) ≡ held_as c ms
  unfolding held_as
  there-is c m ms t = ap (λ b. elim b [ true ↦ Held.is m | false ↦ held_as c ms ]) t

  -- the motif of the name, where it is held, leaves its number
  replaced-here : (ms : List Motif) → is_held (held_as n ms) ≡ true → held_as n (replaced n j ops ms) ≡ Held.is (new (number_of (held_as n ms)))
  unfolding replaced held_as is_held
  replaced-here [] e = clash-of (sym e)
  replaced-here (m ∷ ms) e = by (same m.name n) refl e (replaced-here ms)
    where
      by : (b : Bool) → same m.name n ≡ b → is_held (elim b [ true ↦ Held.is m | false ↦ held_as n ms ]) ≡ true
          → (is_held (held_as n ms) ≡ true → held_as n (replaced n j ops ms) ≡ Held.is (new (number_of (held_as n ms))))
          → held_as n (elim b [ true ↦ new m.number ∷ ms | false ↦ m ∷ replaced n j ops ms ])
          ≡ Held.is (new (number_of (elim b [ true ↦ Held.is m | false ↦ held_as n ms ])))
      by true t f ih = here-is (new m.number) ms (same_refl n)
      by false t f ih = there-is n m (replaced n j ops ms) t ∙ ih f

  replaced-there : (c : List ℕ) → same n c ≡ false → (ms : List Motif) → held_as c (replaced n j ops ms) ≡ held_as c ms
  unfolding replaced held_as
  replaced-there c d [] = refl
  replaced-there c d (m ∷ ms) = by (same m.name n) refl (replaced-there c d ms)
    where
      by : (b : Bool) → same m.name n ≡ b → held_as c (replaced n j ops ms) ≡ held_as c ms
          → held_as c (elim b [ true ↦ new m.number ∷ ms | false ↦ m ∷ replaced n j ops ms ]) ≡ held_as c (m ∷ ms)
      by true t ih = there-is c (new m.number) ms d ∙ sym (there-is c m ms (ap (λ a. same a c) (same-eq m.name n t) ∙ d))
      by false t ih = ap (λ x. elim (same m.name c) [ true ↦ Held.is m | false ↦ x ]) ih

  replaced-room : (ms : List Motif) → is_held (held_as n ms) ≡ true → bytes_held (replaced n j ops ms) + room_of (held_as n ms) ≡ bytes_held ms + length j
  unfolding replaced held_as is_held bytes_held
  replaced-room [] e = clash-of (sym e)
  replaced-room (m ∷ ms) e = by (same m.name n) e (replaced-room ms)
    where
      by : (b : Bool) → is_held (elim b [ true ↦ Held.is m | false ↦ held_as n ms ]) ≡ true
          → (is_held (held_as n ms) ≡ true → bytes_held (replaced n j ops ms) + room_of (held_as n ms) ≡ bytes_held ms + length j)
          → bytes_held (elim b [ true ↦ new m.number ∷ ms | false ↦ m ∷ replaced n j ops ms ])
          + room_of (elim b [ true ↦ Held.is m | false ↦ held_as n ms ]) ≡ length m.bytes + bytes_held ms + length j
      by true f ih = omega arith
      by false f ih = let g = ih f in omega arith

  none-room : (x : Held) → is_held x ≡ false → room_of x ≡ 0
  unfolding is_held
  none-room (Held.is m) e = clash-of e
  none-room Held.none e = refl

  apart : (c : List ℕ) → (c ≡ n → ⊥) → same n c ≡ false
  apart c d = by (same n c) refl
    where
      by : (b : Bool) → same n c ≡ b → b ≡ false
      by true t = absurd (d (sym (same-eq n c t)))
      by false t = refl

  pub kept-replaced : (ms : List Motif) → Replaced n j ms (kept_as n j (valid ops) ms)
  unfolding kept_as bytes_held
  kept-replaced ms = by (is_held (held_as n ms)) refl
    where
      by : (b : Bool) → is_held (held_as n ms) ≡ b → Replaced n j ms (pick b (replaced n j ops ms) (new (suc (length ms)) ∷ ms))
      by true t =
          let h = replaced-here ms t in
          record {
            held = (new (number_of (held_as n ms)), h, refl);
            others = λ c d. replaced-there c (apart c d) ms;
            number = ap number_of h ∙ sym (ap (λ b. pick b (number_of (held_as n ms)) (suc (length ms))) t);
            room = replaced-room ms t;
          }
      by false t =
          let h = here-is (new (suc (length ms))) ms (same_refl n) in
          let z = none-room (held_as n ms) t in
          record {
            held = (new (suc (length ms)), h, refl);
            others = λ c d. there-is c (new (suc (length ms))) ms (apart c d);
            number = ap number_of h ∙ sym (ap (λ b. pick b (number_of (held_as n ms)) (suc (length ms))) t);
            room = omega arith;
          }

module _ (set : Setting) (s : List ℕ) (o : Operator) (p : Page) (n j : List ℕ) (e : o.tag ≡ 0x5d) where
  ended : (x : Session) → (w : Judged) → motif_of set j ≡ w → Valid w → Replaced n j x.held (kept_as n j (motif_of set j) x.held)
  ended x (faulty code inner) f h = elim h [ ]
  ended x (valid ops) f h = subst⁻¹ (λ w. Replaced n j x.held (kept_as n j w x.held)) f (kept-replaced n j ops x.held)

  at-reading : (x : Session) → Valid (judged_at set j o.tag)
      → Replaced n j x.held (session_of (pick (eqb o.tag 0x42) (outside true) (inside (session_after set s o p (reading n j) x)))).held
  unfolding session_after judged_at
  at-reading x v = let h : Valid (motif_of set j) = rw e at v in rw e (ended x (motif_of set j) refl h)

  at-busy : (x : Session) → x.busy ≡ reading n j → Valid (judged_at set (joined_of x.busy) o.tag) → Replaced n j x.held (session_of (place_after set s o p (inside x))).held
  unfolding place_after
  at-busy x f =
      subst⁻¹ (λ b. Valid (judged_at set (joined_of b) o.tag) → Replaced n j x.held (session_of (pick (eqb o.tag 0x42) (outside true) (inside (session_after set s o p b x)))).held)
      f (at-reading x)

  at_place : (w : Place) (x : Session) → w ≡ inside x → x.busy ≡ reading n j → Valid (judged_at set (joined_of (session_of w).busy) o.tag)
      → Replaced n j x.held (session_of (place_after set s o p w)).held
  at_place w x h f =
      subst⁻¹ (λ w. Valid (judged_at set (joined_of (session_of w).busy) o.tag) → Replaced n j x.held (session_of (place_after set s o p w)).held) h (at-busy x f)

pub replaces : Replaces
unfolding after case_of
replaces set job room st o x n j p e h f =
    let l = laid (case_at set job st o) (none-layout room (case_at set job st o) p.kept) in
    at_place set job o (case_at set job st o).seen.page n j e st.place x h f l.made
