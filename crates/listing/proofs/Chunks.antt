-- A chunk of a list that is cut into chunks of sixteen is the part of the list there.
-- Assumes nothing.
use Rattle.std.specs.Prelude.{◌≡◌, ℕ, zero, suc, ◌+◌, ◌-◌, ◌*◌, ◌<◌, List, [], slice_index_or, slice_range, drop, take, refl}
use Rattle.std.proofs.Common.{◌∙◌, ap, arith}
use Rattle.std.proofs.lemmas.List.{drop-drop}
use Rattle.std.specs.Simd.{first_chunks}

taken : (n i : ℕ) (l : List ℕ) → i < n → slice_index_or (first_chunks 16 n l) i [] ≡ take 16 (drop (i * 16) l)
taken zero i l h = absurd (omega (arith, h))
taken (suc n) zero l h = refl
taken (suc n) (suc i) l h =
    let along : 16 + i * 16 ≡ suc i * 16 = omega arith in
    taken n i (drop 16 l) (omega (arith, h)) ∙ ap (take 16) (drop-drop (i * 16) 16 l ∙ ap (λ k. drop k l) along)

pub chunk_in : (n i : ℕ) (l : List ℕ) → i < n → slice_index_or (first_chunks 16 n l) i [] ≡ slice_range l (i * 16) (i * 16 + 16)
chunk_in n i l h =
    let sixteen : 16 ≡ i * 16 + 16 - i * 16 = omega arith in
    taken n i l h ∙ ap (λ k. take k (drop (i * 16) l)) sixteen
