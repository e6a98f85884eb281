-- What a byte says of the header's form from it on.
-- Assumes nothing.
use Rattle.std.proofs.Common.{◌≡◌, ◌≢◌, ◌⊎◌, ℕ, suc, ◌+◌, ◌≤◌, ◌<◌, Bool, true, false, ◌&&◌, leb, eqb, List, ◌∷◌, length, get_or, drop, refl, add-one, arith, inl, inr}
use borrow.Author.Tests.{le-leb, lt-leb, ne_eqb}
use lib.ListN.{drop_of_length-le}
use lib.Seq.{drop-cons}
use Rattle.scope.specs.Header.{Form, ends, breaks, may_stand, form_from}

-- a form by its two tests: the byte may stand there, and it is the last
form : Bool → Bool → ℕ → Form → Form
form t u i f = elim t [ false ↦ breaks i | true ↦ elim u [ true ↦ ends (suc i) | false ↦ f ] ]

form-cons : (i b : ℕ) (bs : List ℕ) → form_from i (b ∷ bs) ≡ form (may_stand i b) (leb 15 i && eqb b 10) i (form_from (suc i) bs)
unfolding form_from form
form-cons i b bs = refl

-- the byte is not the last
goes_on : (i b : ℕ) → ((15 ≤ i) × (b ≢ 10)) ⊎ (i < 15) → (leb 15 i && eqb b 10) ≡ false
goes_on i b (inl h) = rw (le-leb 15 i h.0, ne_eqb b 10 h.1)
goes_on i b (inr h) = rw (lt-leb 15 i h)

module _ (s : List ℕ) (i : ℕ) where
  module _ (h : i < length s) where
    pub form-breaks : may_stand i (get_or s i 0) ≡ false → form_from i (drop i s) ≡ breaks i
    unfolding form
    form-breaks e = rw (drop-cons s i 0 h, form-cons, e)

    pub form-ends : may_stand i (get_or s i 0) ≡ true → 15 ≤ i → get_or s i 0 ≡ 10 → form_from i (drop i s) ≡ ends (i + 1)
    unfolding form
    form-ends e l f = rw (drop-cons s i 0 h, form-cons, e, le-leb 15 i l, f, add-one)

    pub form-next : may_stand i (get_or s i 0) ≡ true → ((15 ≤ i) × (get_or s i 0 ≢ 10)) ⊎ (i < 15) → form_from i (drop i s) ≡ form_from (i + 1) (drop (i + 1) s)
    unfolding form
    form-next e f = rw (drop-cons s i 0 h, form-cons, e, goes_on i _ f, add-one)

  pub form-out : length s ≤ i → i ≤ length s → form_from i (drop i s) ≡ breaks (length s)
  unfolding form_from
  form-out h k =
      let e : i ≡ length s = omega arith in
      rw (drop_of_length-le s h, e)
