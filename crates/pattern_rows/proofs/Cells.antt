-- Rows of 66 cells: the numbers of a row are the cells behind its first one, read from the last one down, and what is asked of them is asked of each.
-- Assumes nothing.
use Rattle.std.proofs.Common.{ℕ, zero, suc, ◌+◌, ◌*◌, ◌≤◌, ◌<◌, ◌≡◌, min, List, [], ◌∷◌, Bool, true, false, not, ◌||◌, eqb, length, get_or, take, drop, reverse, refl, ap, arith, length-drop}
use Rattle.std.proofs.Math.Seq.{take-suc}
use Rattle.std.specs.List.{list_any}
use Rattle.std.proofs.lemmas.List.{reverse-append, get_or-drop}
use Rattle.std.proofs.lemmas.Bool.Decides.{nat_tests}
use Rattle.scope.specs.Choice.{pick, among}
use Rattle.scope.specs.Judge.{some_missing}
use Rattle.pattern_rows.specs.Numbers.{numbers_to, numbers_in}

-- as many as are asked for
pub to-length : (t : List ℕ) (p c : ℕ) → length (numbers_to t p c) ≡ c
unfolding numbers_to
to-length t p zero = refl
to-length t p (suc c) = ap suc (to-length t p c)

pub in_length : (t : List ℕ) (row : ℕ) → length (numbers_in t row) ≡ min (get_or t (row * 66) 0) 65
unfolding numbers_in
in_length t row = to-length t (row * 66) (min (get_or t (row * 66) 0) 65)

-- the cells behind a place, the last one first
to-cells : (t : List ℕ) (p c : ℕ) → p + c < length t → reverse (take c (drop (p + 1) t)) ≡ numbers_to t p c
unfolding numbers_to
to-cells t p zero h = refl
to-cells t p (suc c) h =
    let l : c < length (drop (p + 1) t) = simp length-drop (omega arith) in
    let m : p + c < length t = omega arith in
    let e : p + 1 + c ≡ p + suc c = omega arith in
    rw (take-suc (drop (p + 1) t) c 0 l, reverse-append, get_or-drop (p + 1) t c 0, e) (ap (λ ns. get_or t (p + suc c) 0 ∷ ns) (to-cells t p c m))

pub in_cells : (t : List ℕ) (row : ℕ) → row * 66 + 66 ≤ length t → reverse (take (length (numbers_in t row)) (drop (row * 66 + 1) t)) ≡ numbers_in t row
unfolding numbers_in
in_cells t row h = rw to-length (to-cells t (row * 66) (min (get_or t (row * 66) 0) 65) (omega arith))

eqb-sides : (a b : ℕ) → eqb a b ≡ eqb b a
eqb-sides a b = grind (arith, nat_tests)

-- the answer of one of them settles what is asked
pub among_any : (ns : List ℕ) (n : ℕ) → among ns n ≡ list_any (λ x. eqb x n) ns
unfolding among
among_any [] n = refl
among_any (x ∷ ns) n = rw (eqb-sides n x, among_any ns n) (by (eqb x n))
  where
    by : (b : Bool) → pick b true (list_any (λ y. eqb y n) ns) ≡ (b || list_any (λ y. eqb y n) ns)
    by true = refl
    by false = refl

pub missing_any : (of_page of_session ns : List ℕ) → some_missing of_page of_session ns ≡ list_any (λ n. not (among of_page n || among of_session n)) ns
unfolding some_missing
missing_any of_page of_session [] = refl
missing_any of_page of_session (n ∷ ns) = ap (λ b. not (among of_page n || among of_session n) || b) (missing_any of_page of_session ns)
