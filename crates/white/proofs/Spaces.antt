-- What a byte says of the white space from it on.
-- Assumes nothing.
use Prim.Native.Nat.{ℕ, suc, ◌+◌, ◌*◌, ◌≤◌, ◌<◌}
use mathlib.Core.Path.{◌≡◌, ap, ◌∙◌}
use mathlib.Core.List.{List, ◌∷◌}
use mathlib.Core.Bool.{Bool, true, false}
use native.Mathlib.Omega.{arith}
use native.Mathlib.Nat.{add-zero, add-suc, suc-add}
use native.Mathlib.Numerals.{add-one}
use lib.ListN.{length, get_or, drop_of_length-le}
use lib.Seq.{drop-cons}
use Rattle.scope.specs.Item.{white, spaces, after}

spaces-white : (b : ℕ) (bs : List ℕ) → white b ≡ true → spaces (b ∷ bs) ≡ suc (spaces bs)
unfolding spaces
spaces-white b bs e = ap (λ (t : Bool). elim t [ true ↦ suc (spaces bs) | false ↦ 0 ]) e

spaces-black : (b : ℕ) (bs : List ℕ) → white b ≡ false → spaces (b ∷ bs) ≡ 0
unfolding spaces
spaces-black b bs e = ap (λ (t : Bool). elim t [ true ↦ suc (spaces bs) | false ↦ 0 ]) e

module _ (s : List ℕ) (at : ℕ) where
  pub after-white : at < length s → white (get_or s at 0) ≡ true → after s at ≡ after s (at + 1)
  unfolding after
  after-white h w = rw (drop-cons s at 0 h, add-one, spaces-white _ _ w) (rw (add-suc, suc-add))

  pub after-black : at < length s → white (get_or s at 0) ≡ false → after s at ≡ at
  unfolding after
  after-black h w = rw (drop-cons s at 0 h, spaces-black _ _ w, add-zero)

  pub after-end : length s ≤ at → after s at ≡ at
  unfolding spaces after
  after-end h = rw (drop_of_length-le s h, add-zero)

-- four bytes are passed where each is the white byte b
pub after-four : (s : List ℕ) (p b : ℕ) → p + 4 ≤ length s → white b ≡ true
    → (get_or s p 0 ≡ b) × (get_or s (p + 1) 0 ≡ b) × (get_or s (p + 2) 0 ≡ b) × (get_or s (p + 3) 0 ≡ b) → after s p ≡ after s (p + 4)
after-four s p b h w (e, f, g, k) =
    let two : p + 1 + 1 ≡ p + 2 = omega arith in
    let three : p + 2 + 1 ≡ p + 3 = omega arith in
    let four : p + 3 + 1 ≡ p + 4 = omega arith in
    after-white s p (omega arith) (rw e w)
    ∙ after-white s (p + 1) (omega arith) (rw f w) ∙ ap (after s) two
    ∙ after-white s (p + 2) (omega arith) (rw g w) ∙ ap (after s) three
    ∙ after-white s (p + 3) (omega arith) (rw k w) ∙ ap (after s) four

-- four bytes of a number are all 0x20, or all 0x00
module _ (a b c d : ℕ) (h : a < 256) (i : b < 256) (j : c < 256) (k : d < 256) where
  pub all-20 : a + b * 256 + c * 65_536 + d * 16_777_216 ≡ 0x2020_2020 → (a ≡ 0x20) × (b ≡ 0x20) × (c ≡ 0x20) × (d ≡ 0x20)
  all-20 e = (omega arith, omega arith, omega arith, omega arith)

  pub all-00 : a + b * 256 + c * 65_536 + d * 16_777_216 ≡ 0 → (a ≡ 0) × (b ≡ 0) × (c ≡ 0) × (d ≡ 0)
  all-00 e = (omega arith, omega arith, omega arith, omega arith)
