-- Three reversals that replace: a reversed row of parts is the row of the reversed parts from the last to the first, so that each part is turned twice.
-- Assumes nothing.
use mathlib.Core.Path.{◌≡◌, sym, ◌∙◌}
use mathlib.Core.Bool.{true}
use mathlib.Core.List.{List, ◌++◌, append_assoc, reverse, reverse-append, reverse-reverse}
use Prim.Native.Nat.{ℕ, ◌+◌, ◌-◌, ◌≤◌}
use native.Mathlib.Omega.{arith}
use lib.Dec.{leb}
use lib.ListN.{length, take, drop, length-append, length-take, length-drop, length-reverse, take-append-drop}
use lib.Seq.{take_at, drop_at, drop-drop}
use borrow.Author.Tests.{le-leb}
use borrow.Rule.Slice.PartMut.{mid_of, put_mid}
use Rattle.store.specs.Replaced.{replaced}

-- a part of a list that is known in parts
turn-part : (a m r : List ℕ) (s k : ℕ) (w : List ℕ) → w ≡ a ++ (m ++ r) → length a ≡ s → length m ≡ k
    → (ys : List ℕ) → ys ≡ reverse (mid_of s k w) → put_mid s k w ys ≡ a ++ (reverse m ++ r)
turn-part a m r s k w e la lm ys f =
    let d : drop s (a ++ (m ++ r)) ≡ m ++ r = drop_at a (m ++ r) s la in
    rw (f, e, d, take_at a (m ++ r) s la, take_at m r k lm, drop_at m r k lm)

pub parts : (w : List ℕ) (s o b n : ℕ)
    → w ≡ take s w ++ (take o (drop s w) ++ (take b (drop (s + o) w) ++ (take n (drop (s + o + b) w) ++ drop (s + o + b + n) w)))
parts w s o b n =
    sym (rw (← drop-drop n (s + o + b) w, take-append-drop n (drop (s + o + b) w), ← drop-drop b (s + o) w, take-append-drop b (drop (s + o) w), ← drop-drop o s w, take-append-drop o (drop s w)) (take-append-drop s w))

-- three reversals: of all from OLD on, of its first new bytes, of those that move
pub thrice : (w : List ℕ) (start old used new : ℕ) → start + old ≤ used → used + new ≤ length w
    → (x y z : List ℕ) → x ≡ reverse (mid_of start (used + new - start) w)
    → (w₁ : List ℕ) → w₁ ≡ put_mid start (used + new - start) w x → y ≡ reverse (mid_of start (start + new - start) w₁)
    → (w₂ : List ℕ) → w₂ ≡ put_mid start (start + new - start) w₁ y → z ≡ reverse (mid_of (start + new) (used + new - old - (start + new)) w₂)
    → put_mid (start + new) (used + new - old - (start + new)) w₂ z ≡ replaced w start old used new
unfolding replaced
thrice w start old used new p q x y z ex w₁ e₁ ey w₂ e₂ ez =
    let b : ℕ = used - (start + old) in
    let s : start + old + b ≡ used = omega arith in
    let aa : List ℕ = take start w in
    let oo : List ℕ = take old (drop start w) in
    let bb : List ℕ = take b (drop (start + old) w) in
    let nn : List ℕ = take new (drop used w) in
    let rr : List ℕ = drop (used + new) w in
    let la : length aa ≡ start = simp length-take (omega arith) in
    let lo : length oo ≡ old = simp (length-take, length-drop) (omega arith) in
    let lb : length bb ≡ b = simp (length-take, length-drop) (omega arith) in
    let ln : length nn ≡ new = simp (length-take, length-drop) (omega arith) in
    let e : w ≡ aa ++ (oo ++ (bb ++ (nn ++ rr))) = rw s at (parts w start old b new) in
    let e' : w ≡ aa ++ ((oo ++ (bb ++ nn)) ++ rr) = e ∙ simp append_assoc in
    let lm : length (oo ++ (bb ++ nn)) ≡ used + new - start = simp length-append (omega arith) in
    let f : w₁ ≡ aa ++ (reverse (oo ++ (bb ++ nn)) ++ rr) = e₁ ∙ turn-part aa (oo ++ (bb ++ nn)) rr start (used + new - start) w e' la lm x ex in
    let f' : w₁ ≡ aa ++ (reverse nn ++ (reverse bb ++ (reverse oo ++ rr))) = f ∙ rw (reverse-append oo (bb ++ nn), reverse-append bb nn) (simp append_assoc) in
    let lk : length (reverse nn) ≡ start + new - start = rw length-reverse (omega arith) in
    let g : w₂ ≡ aa ++ (reverse (reverse nn) ++ (reverse bb ++ (reverse oo ++ rr))) =
    e₂ ∙ turn-part aa (reverse nn) (reverse bb ++ (reverse oo ++ rr)) start (start + new - start) w₁ f' la lk y ey in
    let g' : w₂ ≡ (aa ++ nn) ++ (reverse bb ++ (reverse oo ++ rr)) = g ∙ rw (reverse-reverse nn) (sym (append_assoc aa nn (reverse bb ++ (reverse oo ++ rr)))) in
    let lan : length (aa ++ nn) ≡ start + new = simp length-append (omega arith) in
    let lr : length (reverse bb) ≡ used + new - old - (start + new) = rw length-reverse (omega arith) in
    let k = turn-part (aa ++ nn) (reverse bb) (reverse oo ++ rr) (start + new) (used + new - old - (start + new)) w₂ g' lan lr z ez in
    let t₁ : leb (start + old) used ≡ true = le-leb (start + old) used p in
    let t₂ : leb (used + new) (length w) ≡ true = le-leb (used + new) (length w) q in
    rw (t₁, t₂) (k ∙ rw (reverse-reverse bb) (append_assoc aa nn (bb ++ (reverse oo ++ rr))))
