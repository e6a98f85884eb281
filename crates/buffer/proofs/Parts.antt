-- Laws on writes: what a callee did to a part `&mut s[a..]` said of the whole, writes one after the other, what stays.
-- Assumes nothing.
use mathlib.Core.Path.{◌≡◌, refl, ap}
use mathlib.Core.List.{List, [], ◌∷◌, ◌++◌, append-nil, append_assoc}
use Prim.Native.Nat.{ℕ, zero, suc, ◌+◌, ◌-◌, ◌≤◌, ◌<◌}
use native.Mathlib.Nat.{add-zero, not-suc-le-zero, le_of_suc-le-suc}
use native.Mathlib.Numerals.{add-one}
use native.Mathlib.Omega.{arith}
use lib.ListN.{length, take, drop, set, get_or, length-drop, length-take, length-append, drop_of_length-le, take-append-drop}
use lib.Dec.{ltb}
use lib.Seq.{drop-drop, drop_at, take_at, take-take, take-append-le, length-take-le, take_all}
use mathlib.Core.Bool.{false}
use borrow.Author.Tests.{le-ltb}
use borrow.Rule.Slice.PartMut.{mid_of, put_mid}
use Rattle.buffer.specs.Over.{over, cleared}
use Rattle.scope.specs.Verdict.{zeros, cleared_by, admitted}

-- a callee was lent `&mut s[a..]` and left vs at the front of the part: then the whole has vs at a
pub part-back : (xs ys : List ℕ) (a : ℕ) (vs : List ℕ) → a ≤ length xs → ys ≡ vs ++ drop (length vs) (mid_of a (length xs - a) xs)
    → put_mid a (length xs - a) xs ys ≡ over xs a vs
unfolding over
part-back xs ys a vs h e =
    let z : drop (length xs - a) (drop a xs) ≡ [] = drop_of_length-le (drop a xs) {i = length xs - a} (simp length-drop (omega arith)) in
    let t : take (length xs - a) (drop a xs) ≡ drop a xs = take_all (length xs - a) (drop a xs) (simp length-drop (omega arith)) in
    rw (z, append-nil, e, t, drop-drop)

pub length_over : (xs : List ℕ) (a : ℕ) (vs : List ℕ) → a + length vs ≤ length xs → length (over xs a vs) ≡ length xs
unfolding over
length_over xs a vs h = simp (length-append, length-take, length-drop) (omega arith)

-- one write right after another is one write
pub over-next : (xs : List ℕ) (a b : ℕ) (us vs : List ℕ) → b ≡ a + length us → b + length vs ≤ length xs
    → over (over xs a us) b vs ≡ over xs a (us ++ vs)
unfolding over
over-next xs a b us vs e h =
    let p : List ℕ = take a xs ++ us in
    let lp : length p ≡ b = simp (length-append, length-take) (omega arith) in
    let w : take a xs ++ (us ++ drop (a + length us) xs) ≡ p ++ drop b xs = rw (append_assoc, e) in
    let t : take b (p ++ drop b xs) ≡ p = take_at p (drop b xs) b lp in
    let d : drop (b + length vs) (p ++ drop b xs) ≡ drop (b + length vs) xs =
    rw (← drop-drop (length vs) b (p ++ drop b xs), drop_at p (drop b xs) b lp, drop-drop) in
    let n : a + length (us ++ vs) ≡ b + length vs = simp length-append (omega arith) in
    rw (w, t, d, n) (simp append_assoc)

pub over-nil : (xs : List ℕ) (a : ℕ) → over xs a [] ≡ xs
unfolding over
over-nil xs a = rw (add-zero, take-append-drop)

-- a turn of the loop that copies to the front
copy_suc : (s d : List ℕ) (i : ℕ) → i < length s → i < length d
    → set (take i s ++ drop i d) i (get_or s i 0) ≡ take (suc i) s ++ drop (suc i) d
copy_suc [] d i hs hd = absurd (not-suc-le-zero hs)
copy_suc (x ∷ s) [] i hs hd = absurd (not-suc-le-zero hd)
copy_suc (x ∷ s) (y ∷ d) zero hs hd = refl
copy_suc (x ∷ s) (y ∷ d) (suc i) hs hd = ap (λ (t : List ℕ). x ∷ t) (copy_suc s d i (le_of_suc-le-suc hs) (le_of_suc-le-suc hd))

pub copy_more : (s d : List ℕ) (i : ℕ) → i < length s → i < length d
    → set (take i s ++ drop i d) i (get_or s i 0) ≡ take (i + 1) s ++ drop (i + 1) d
copy_more s d i hs hd = rw add-one (copy_suc s d i hs hd)

-- past the end of a write nothing has changed
pub drop-over : (xs : List ℕ) (a : ℕ) (vs : List ℕ) (n : ℕ) → a + length vs ≤ n → n ≤ length xs → drop n (over xs a vs) ≡ drop n xs
unfolding over
drop-over xs a vs n h k =
    let m : ℕ = a + length vs in
    let p : List ℕ = take a xs ++ vs in
    let lp : length p ≡ m = simp (length-append, length-take) (omega arith) in
    let w : take a xs ++ (vs ++ drop m xs) ≡ p ++ drop m xs = rw append_assoc in
    let e : m + (n - m) ≡ n = omega arith in
    rw (w, ← e, ← drop-drop (n - m) m (p ++ drop m xs), drop_at p (drop m xs) m lp, drop-drop)

-- before a write nothing has changed
pub take-under : (xs : List ℕ) (a : ℕ) (vs : List ℕ) (n : ℕ) → n ≤ a → a ≤ length xs → take n (over xs a vs) ≡ take n xs
unfolding over
take-under xs a vs n h k =
    let l : n ≤ length (take a xs) = simp length-take (omega arith) in
    rw (take-append-le n (take a xs) (vs ++ drop (a + length vs) xs) l) (take-take n a xs h)

-- up to its end stands what stood before, and what was written
pub take-over : (xs : List ℕ) (a : ℕ) (vs : List ℕ) → a ≤ length xs → take (a + length vs) (over xs a vs) ≡ take a xs ++ vs
unfolding over
take-over xs a vs h =
    let l : length (take a xs ++ vs) ≡ a + length vs = simp (length-append, length-take) (omega arith) in
    rw (← append_assoc (take a xs) vs (drop (a + length vs) xs)) (take_at (take a xs ++ vs) _ (a + length vs) l)

-- the part that was written
pub part-over : (xs : List ℕ) (a : ℕ) (vs : List ℕ) → a ≤ length xs → take (length vs) (drop a (over xs a vs)) ≡ vs
unfolding over
part-over xs a vs h =
    let l : length (take a xs) ≡ a = length-take-le a xs h in
    rw (drop_at (take a xs) (vs ++ drop (a + length vs) xs) a l) (take_at vs _ (length vs) refl)

-- a buffer whose bytes from 16,384 on are those of another is cleared to what that one is cleared to
pub cleared-alike : (w w₀ : List ℕ) → length w ≡ length w₀ → 16384 ≤ length w₀ → drop 16384 w ≡ drop 16384 w₀
    → cleared w ≡ cleared_by admitted w₀
unfolding cleared cleared_by
cleared-alike w w₀ l h e =
    let f : ltb (length w) 16384 ≡ false = le-ltb (length w) 16384 (omega arith) in
    rw f (ap (λ (t : List ℕ). zeros 16384 ++ t) e)
