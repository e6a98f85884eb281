-- A block joined behind the bytes of the motif that is being read.
-- Assumes nothing.
use Prim.Native.Nat.{ℕ, ◌+◌, ◌≤◌}
use mathlib.Core.Path.{◌≡◌, refl, sym, ap, ◌∙◌}
use mathlib.Core.Bool.{Bool, true, false, ◌&&◌, true≢false}
use mathlib.Core.List.{List, ◌++◌}
use native.Mathlib.Omega.{arith}
use lib.ListN.{length, take, drop, length-drop, drop_of_length-le}
use lib.Seq.{drop-drop, drop_at, take-add, length-take-le}
use lib.Dec.{leb}
use borrow.Author.Tests.{le-leb, leb-true, leb-false}
use Rattle.scope.proofs.Ends.{pick_all}
use Rattle.buffer.specs.Over.{over, joined_at}
use Rattle.buffer.proofs.Parts.{length_over, drop-over, take-under, part-over}
use Rattle.gathering.specs.Block.{block_joined}

-- a part in the middle is the end of a part from the start
mid : (w : List ℕ) (u j : ℕ) → u ≤ length w → take j (drop u w) ≡ drop u (take (u + j) w)
mid w u j h = rw (take-add u j w) (sym (drop_at (take u w) (take j (drop u w)) u (length-take-le u w h)))

-- the bytes before the block stay, then comes the block
pub join_over : (w b : List ℕ) (u j k : ℕ) → length b ≡ k → u + j + k ≤ length w
    → take (j + k) (drop u (over w (u + j) b)) ≡ take j (drop u w) ++ b
join_over w b u j k e h =
    let W : List ℕ = over w (u + j) b in
    let hb : u + j + length b ≤ length w = rw e h in
    let hu : u ≤ length w = omega arith in
    let hm : u + j ≤ length w = omega arith in
    let lw : length W ≡ length w = length_over w (u + j) b hb in
    let hW : u ≤ length W = rw lw hu in
    let hs : u + j ≤ u + j = omega arith in
    let first : take j (drop u W) ≡ take j (drop u w) =
    mid W u j hW ∙ ap (drop u) (take-under w (u + j) b (u + j) hs hm) ∙ sym (mid w u j hu) in
    let second : take k (drop (u + j) W) ≡ b = rw (← e) (part-over w (u + j) b hm) in
    take-add j k (drop u W) ∙ ap (λ (t : List ℕ). take j (drop u W) ++ take k t) (drop-drop j u W) ∙ rw (first, second)

-- a block of a job has its length
pub block-length : (s : List ℕ) (first count : ℕ) → first + count ≤ length s → length (take count (drop first s)) ≡ count
block-length s first count h =
    let l : count ≤ length (drop first s) = simp length-drop (omega arith) in
    length-take-le count (drop first s) l

module _ (w b : List ℕ) (a : ℕ) where
  pub joined_length : (t : Bool) → t ≡ leb (a + length b) (length w) → length (joined_at t w a b) ≡ length w
  joined_length true e = length_over w a b (leb-true _ _ (sym e))
  joined_length false e = refl

  -- past 16,384 nothing has changed
  pub joined-past : (t : Bool) → t ≡ leb (a + length b) (length w) → a + length b ≤ 16384 → drop 16384 (joined_at t w a b) ≡ drop 16384 w
  joined-past false e h = refl
  joined-past true e h = go (leb 16384 (length w)) refl
    where
      go : (y : Bool) → leb 16384 (length w) ≡ y → drop 16384 (over w a b) ≡ drop 16384 w
      go true y = drop-over w a b 16384 h (leb-true _ _ y)
      go false y =
          let k = leb-false 16384 (length w) y in
          let l : length (over w a b) ≡ length w = length_over w a b (leb-true _ _ (sym e)) in
          let m : length w ≤ 16384 = omega arith in
          let n : length (over w a b) ≤ 16384 = rw l m in
          drop_of_length-le (over w a b) n ∙ sym (drop_of_length-le w m)

both : (a b : Bool) → a && b ≡ true → (a ≡ true) × (b ≡ true)
both true b e = (refl, e)
both false b e = absurd (true≢false (sym e))

-- count bytes of a job from first on, joined from `at` on in the work buffer
module _ (s w : List ℕ) (first count at : ℕ) where
  block-all : (Q : List ℕ → Type 0)
      → (first + count ≤ length s → at + count ≤ 16384 → Q (joined_at (leb (at + count) (length w)) w at (take count (drop first s)))) → Q w
      → Q (block_joined s first count at w)
  unfolding block_joined
  block-all Q f q =
      let a : Bool = leb (first + count) (length s) in
      let b : Bool = leb (at + count) 16384 in
      pick_all Q (a && b) (λ t. let z = both a b t in f (leb-true _ _ z.0) (leb-true _ _ z.1)) (λ t. q)

  -- without room for it nothing changes
  pub block_out : (first + count ≤ length s → at + count ≤ 16384 → ⊥) → block_joined s first count at w ≡ w
  block_out f = block-all (λ (x : List ℕ). x ≡ w) (λ h k. absurd (f h k)) refl

  pub block-long : length (block_joined s first count at w) ≡ length w
  block-long =
      block-all (λ (x : List ℕ). length x ≡ length w)
      (λ h k. joined_length w (take count (drop first s)) at (leb (at + count) (length w)) (rw (block-length s first count h))) refl

  pub block-past : drop 16384 (block_joined s first count at w) ≡ drop 16384 w
  block-past =
      block-all (λ (x : List ℕ). drop 16384 x ≡ drop 16384 w)
      (λ h k. joined-past w (take count (drop first s)) at (leb (at + count) (length w)) (rw (block-length s first count h)) (rw (block-length s first count h) k)) refl

-- what a join of count bytes of a job from first on, behind those held and those joined, did to the work buffer
module _ (s w W : List ℕ) (first count used joined k : ℕ) (t : Bool) (e : k ≡ count) (hw : first + count ≤ length s) (hl : used + joined + count ≤ 16384)
    (r : t ≡ leb (used + joined + length (take k (drop first s))) (length w)) (j : W ≡ joined_at t w (used + joined) (take k (drop first s))) where
  part_length : length (take k (drop first s)) ≡ count
  part_length = rw e (block-length s first count hw)

  pub work-is : W ≡ block_joined s first count (used + joined) w
  unfolding block_joined
  work-is = rw (j, r, part_length, e, le-leb (first + count) (length s) hw, le-leb (used + joined + count) 16384 hl)

  work-over : 16384 ≤ length w → W ≡ over w (used + joined) (take k (drop first s))
  work-over h =
      let b : List ℕ = take k (drop first s) in
      let f : used + joined + count ≤ length w = omega arith in
      let g : used + joined + length b ≤ length w = rw part_length f in
      let y : t ≡ true = r ∙ le-leb (used + joined + length b) (length w) g in
      j ∙ ap (λ (x : Bool). joined_at x w (used + joined) b) y

  pub work-joined : 16384 ≤ length w → take (joined + count) (drop used W) ≡ take joined (drop used w) ++ take count (drop first s)
  work-joined h =
      let f : used + joined + count ≤ length w = omega arith in
      rw (work-over h, ← e) (join_over w (take k (drop first s)) used joined k (part_length ∙ sym e) (rw e f))

  -- the bytes held are as they were
  pub work-held : 16384 ≤ length w → take used W ≡ take used w
  work-held h =
      let l : used ≤ used + joined = omega arith in
      let m : used + joined ≤ length w = omega arith in
      rw (work-over h) (take-under w (used + joined) (take k (drop first s)) used l m)
