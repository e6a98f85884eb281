-- The store after a replacement: its length, the motifs before the replaced one, the new one, those behind it, and what nobody holds. Each is a part of the bytes
-- that stand between others whose lengths are known.
-- Assumes nothing.
use mathlib.Core.Path.{◌≡◌, refl, sym, ap, ◌∙◌}
use mathlib.Core.Bool.{Bool, true, false}
use mathlib.Core.List.{List, [], ◌++◌, append_assoc, reverse}
use Prim.Native.Nat.{ℕ, ◌+◌, ◌-◌, ◌≤◌}
use native.Mathlib.Omega.{arith}
use lib.ListN.{length, take, drop, length-append, length-take, length-drop, length-reverse}
use lib.Dec.{leb}
use lib.Seq.{drop-drop, drop-append-add, drop-append-le, take-append-le, take_at, drop_at, take_all}
use borrow.Author.Tests.{leb-true, le-leb}
use Rattle.store.specs.Replaced.{replaced}
use Rattle.store.proofs.Turning.{parts}

-- a part that lies within m
part-within : (a m r : List ℕ) (s k len : ℕ) → s ≡ length a + k → k + len ≤ length m → take len (drop s (a ++ (m ++ r))) ≡ take len (drop k m)
part-within a m r s k len e h =
    let p : k ≤ length m = omega arith in
    let q : len ≤ length (drop k m) = simp length-drop (omega arith) in
    rw (e, drop-append-add a (m ++ r) k, drop-append-le k m r p, take-append-le len (drop k m) r q)

module _ (w : List ℕ) (start old used new : ℕ) (p : start + old ≤ used) (q : used + new ≤ length w) where
  whole : replaced w start old used new
      ≡ take start w ++ (take new (drop used w) ++ (take (used - (start + old)) (drop (start + old) w) ++ (reverse (take old (drop start w)) ++ drop (used + new) w)))
  unfolding replaced
  whole = rw (le-leb (start + old) used p, le-leb (used + new) (length w) q)

  before-it : w ≡ take start w ++ (take old (drop start w) ++ (take (used - (start + old)) (drop (start + old) w) ++ (take new (drop used w) ++ drop (used + new) w)))
  before-it =
      let s : start + old + (used - (start + old)) ≡ used = omega arith in
      rw s at (parts w start old (used - (start + old)) new)

  la : length (take start w) ≡ start
  la = simp length-take (omega arith)

  lo : length (take old (drop start w)) ≡ old
  lo = simp (length-take, length-drop) (omega arith)

  lb : length (take (used - (start + old)) (drop (start + old) w)) ≡ used - (start + old)
  lb = simp (length-take, length-drop) (omega arith)

  ln : length (take new (drop used w)) ≡ new
  ln = simp (length-take, length-drop) (omega arith)

  pub replaced-length : length (replaced w start old used new) ≡ length w
  replaced-length =
      let a = la in let o = lo in let b = lb in let n = ln in
      ap length whole ∙ simp (length-append, length-reverse) (rw (length-drop (used + new) w, la, lo, lb, ln) (omega arith))

  -- motifs before it
  pub replaced-before : (s len : ℕ) → s + len ≤ start → take len (drop s (replaced w start old used new)) ≡ take len (drop s w)
  replaced-before s len h =
      let a = la in
      let l : s + len ≤ length (take start w) = omega arith in
      let e : s ≡ 0 + s = omega arith in
      ap (λ (x : List ℕ). take len (drop s x)) whole ∙ part-within [] (take start w) _ s s len e l
      ∙ sym (ap (λ (x : List ℕ). take len (drop s x)) before-it ∙ part-within [] (take start w) _ s s len e l)

  -- the new one
  pub replaced-new : take new (drop start (replaced w start old used new)) ≡ take new (drop used w)
  replaced-new =
      let a = la in let n = ln in
      let e : start ≡ length (take start w) + 0 = omega arith in
      let l : 0 + new ≤ length (take new (drop used w)) = omega arith in
      let f : length (take new (drop used w)) ≤ new = omega arith in
      ap (λ (x : List ℕ). take new (drop start x)) whole ∙ part-within (take start w) (take new (drop used w)) _ start 0 new e l
      ∙ take_all new (take new (drop used w)) f

  -- motifs behind it, which have moved
  pub replaced-behind : (s len : ℕ) → start + old ≤ s → s + len ≤ used → take len (drop (s + new - old) (replaced w start old used new)) ≡ take len (drop s w)
  replaced-behind s len g h =
      let a = la in let o = lo in let n = ln in let b = lb in
      let aa : List ℕ = take start w in
      let oo : List ℕ = take old (drop start w) in
      let nn : List ℕ = take new (drop used w) in
      let bb : List ℕ = take (used - (start + old)) (drop (start + old) w) in
      let k : ℕ = s - (start + old) in
      let x : length (aa ++ nn) ≡ start + new = simp length-append (omega arith) in
      let y : length (aa ++ oo) ≡ start + old = simp length-append (omega arith) in
      let e : s + new - old ≡ length (aa ++ nn) + k = omega arith in
      let f : s ≡ length (aa ++ oo) + k = omega arith in
      let l : k + len ≤ length bb = omega arith in
      let u : replaced w start old used new ≡ (aa ++ nn) ++ (bb ++ (reverse oo ++ drop (used + new) w)) = whole ∙ sym (append_assoc aa nn _) in
      let v : w ≡ (aa ++ oo) ++ (bb ++ (nn ++ drop (used + new) w)) = before-it ∙ sym (append_assoc aa oo _) in
      ap (λ (z : List ℕ). take len (drop (s + new - old) z)) u ∙ part-within (aa ++ nn) bb _ (s + new - old) k len e l
      ∙ sym (ap (λ (z : List ℕ). take len (drop s z)) v ∙ part-within (aa ++ oo) bb _ s k len f l)

  -- all that is held, as one equation
  pub replaced-held : take (used + new - old) (replaced w start old used new)
      ≡ take start w ++ (take new (drop used w) ++ take (used - (start + old)) (drop (start + old) w))
  replaced-held =
      let a = la in let o = lo in let n = ln in let b = lb in
      let aa : List ℕ = take start w in
      let nn : List ℕ = take new (drop used w) in
      let bb : List ℕ = take (used - (start + old)) (drop (start + old) w) in
      let l : length (aa ++ (nn ++ bb)) ≡ used + new - old = simp length-append (omega arith) in
      let u : replaced w start old used new ≡ (aa ++ (nn ++ bb)) ++ (reverse (take old (drop start w)) ++ drop (used + new) w) = whole ∙ simp append_assoc in
      ap (λ (z : List ℕ). take (used + new - old) z) u ∙ take_at (aa ++ (nn ++ bb)) _ (used + new - old) l

  -- what lies behind all this
  pub replaced-rest : drop (used + new) (replaced w start old used new) ≡ drop (used + new) w
  replaced-rest =
      let a = la in let o = lo in let n = ln in let b = lb in
      let aa : List ℕ = take start w in
      let oo : List ℕ = reverse (take old (drop start w)) in
      let nn : List ℕ = take new (drop used w) in
      let bb : List ℕ = take (used - (start + old)) (drop (start + old) w) in
      let r : length oo ≡ old = length-reverse (take old (drop start w)) ∙ lo in
      let l : length (aa ++ (nn ++ (bb ++ oo))) ≡ used + new = simp length-append (omega arith) in
      let u : replaced w start old used new ≡ (aa ++ (nn ++ (bb ++ oo))) ++ drop (used + new) w = whole ∙ simp append_assoc in
      ap (λ (z : List ℕ). drop (used + new) z) u ∙ drop_at (aa ++ (nn ++ (bb ++ oo))) _ (used + new) l

-- whatever the numbers say, there are as many bytes, and those behind the new ones are as they were
pub record Beside (w x : List ℕ) (end : ℕ) : Type 0 where
  pub same : length x ≡ length w
  pub rest : (k : ℕ) → end ≤ k → drop k x ≡ drop k w

module _ (w : List ℕ) (start old used new : ℕ) where
  beside-it : start + old ≤ used → used + new ≤ length w → Beside w (replaced w start old used new) (used + new)
  beside-it p q =
      record {
        same = replaced-length w start old used new p q;
        rest = λ k h.
            let e : used + new + (k - (used + new)) ≡ k = omega arith in
            rw (← e, ← drop-drop (k - (used + new)) (used + new) (replaced w start old used new), ← drop-drop (k - (used + new)) (used + new) w, replaced-rest w start old used new p q);
      }

  nothing-done : replaced w start old used new ≡ w → Beside w (replaced w start old used new) (used + new)
  nothing-done e = rw e (record { same = refl; rest = λ k h. refl })

  pub replaced-beside : Beside w (replaced w start old used new) (used + new)
  unfolding replaced
  replaced-beside = by (leb (start + old) used) (leb (used + new) (length w)) refl refl
    where
      by : (a b : Bool) → leb (start + old) used ≡ a → leb (used + new) (length w) ≡ b → Beside w (replaced w start old used new) (used + new)
      by true true p q = beside-it (leb-true (start + old) used p) (leb-true (used + new) (length w) q)
      by true false p q = nothing-done (rw (p, q))
      by false b p q = nothing-done (rw p)
