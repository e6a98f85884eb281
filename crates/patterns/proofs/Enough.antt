-- What is noted of some numbers tells as well as all of them whether one is not defined: 65 different ones cannot all be among the 64 that are at most defined.
-- Assumes nothing.
use Prim.Native.Nat.{ℕ, suc, ◌≤◌, ◌<◌}
use mathlib.Core.Path.{◌≡◌, refl, sym, ap, ◌∙◌}
use mathlib.Core.Bool.{Bool, true, false, not, ◌||◌}
use mathlib.Core.List.{List, [], ◌∷◌, ◌++◌}
use native.Mathlib.Omega.{arith}
use borrow.Author.Tests.{eqb-true, eq-eqb, ne_eqb, leb-true}
use lib.Dec.{eqb, leb}
use lib.ListN.{length, length-append}
use Rattle.scope.specs.Choice.{pick, among}
use Rattle.scope.specs.Session.{defined}
use Rattle.scope.specs.Judge.{some_missing}
use Rattle.scope.proofs.Apart.{clash-of}
use Rattle.pattern_rows.specs.Numbers.{noted, collected}

-- no number stands twice
data Apart : List ℕ → Type 0 where
  apart_none : Apart []
  apart_more : {n : ℕ} {ns : List ℕ} → among ns n ≡ false → Apart ns → Apart (n ∷ ns)

-- each of these is among those
record Within (ns xs : List ℕ) : Type 0 where
  at : (y : ℕ) → among ns y ≡ true → among xs y ≡ true

pick-right : (b c : Bool) → c ≡ true → pick b true c ≡ true
pick-right true c e = refl
pick-right false c e = e

or_right : (b c : Bool) → c ≡ true → (b || c) ≡ true
or_right true c e = refl
or_right false c e = e

-- a list less one number of it: one shorter, and every other number is still there
record Less (n : ℕ) (xs : List ℕ) : Type 0 where
  rest : List ℕ
  long : length xs ≡ suc (length rest)
  still : (y : ℕ) → eqb y n ≡ false → among xs y ≡ true → among rest y ≡ true

less : (n : ℕ) (xs : List ℕ) → among xs n ≡ true → Less n xs
unfolding among
less n [] e = clash-of (sym e)
less n (x ∷ xs) e = by (eqb n x) refl e (less n xs)
  where
    by : (b : Bool) → eqb n x ≡ b → pick b true (among xs n) ≡ true → (among xs n ≡ true → Less n xs) → Less n (x ∷ xs)
    by true f g ih = record { rest = xs; long = refl; still = λ y d h. others y d h }
      where
        others : (y : ℕ) → eqb y n ≡ false → pick (eqb y x) true (among xs y) ≡ true → among xs y ≡ true
        others y d h =
            let z : n ≡ x = eqb-true n x f in
            let k : eqb y x ≡ false = ap (λ u. eqb y u) (sym z) ∙ d in
            rw k at h
    by false f g ih =
        let l = ih g in
        record { rest = x ∷ l.rest; long = ap suc l.long; still = λ y d h. others l y (eqb y x) d h }
      where
        others : (l : Less n xs) (y : ℕ) (b : Bool) → eqb y n ≡ false → pick b true (among xs y) ≡ true → pick b true (among l.rest y) ≡ true
        others l y true d h = refl
        others l y false d h = l.still y d h

-- different numbers that are all among those are no more than those
no_more : (ns xs : List ℕ) → Apart ns → Within ns xs → length ns ≤ length xs
unfolding among
no_more [] xs a w = omega arith
no_more (n ∷ ns) xs (apart_more e a) w =
    let t : eqb n n ≡ true = eq-eqb n n refl in
    let l = less n xs (w.at n (rw t refl)) in
    let other : (y : ℕ) → among ns y ≡ true → eqb y n ≡ false = λ y h. ne_eqb y n (λ z. clash-of (sym h ∙ ap (among ns) z ∙ e)) in
    let k = no_more ns l.rest a (record { at = λ y h. l.still y (other y h) (w.at y (pick-right (eqb y n) (among ns y) h)) }) in
    omega (arith, l.long)

-- none is not defined exactly if each is among those that are
none-missing : (of_page of_session ns : List ℕ) → ((y : ℕ) → among ns y ≡ true → (among of_page y || among of_session y) ≡ true)
    → some_missing of_page of_session ns ≡ false
unfolding some_missing among
none-missing p s [] h = refl
none-missing p s (n ∷ ns) h =
    let t : eqb n n ≡ true = eq-eqb n n refl in
    rw (h n (rw t refl)) (none-missing p s ns (λ y e. h y (pick-right (eqb y n) (among ns y) e)))

all_there : (of_page of_session ns : List ℕ) → some_missing of_page of_session ns ≡ false → (y : ℕ) → among ns y ≡ true
    → (among of_page y || among of_session y) ≡ true
unfolding some_missing among
all_there p s [] e y h = clash-of (sym h)
all_there p s (n ∷ ns) e y h = by (eqb y n) refl (among p n || among s n) refl e h (all_there p s ns)
  where
    by : (b : Bool) → eqb y n ≡ b → (c : Bool) → (among p n || among s n) ≡ c → (not c || some_missing p s ns) ≡ false → pick b true (among ns y) ≡ true
        → (some_missing p s ns ≡ false → (z : ℕ) → among ns z ≡ true → (among p z || among s z) ≡ true) → (among p y || among s y) ≡ true
    by b f false g k m ih = clash-of k
    by true f true g k m ih = ap (λ z. among p z || among s z) (eqb-true y n f) ∙ g
    by false f true g k m ih = ih k y m

among-join : (a b : List ℕ) (n : ℕ) → (among a n || among b n) ≡ among (a ++ b) n
unfolding among
among-join [] b n = refl
among-join (x ∷ a) b n = by (eqb n x) (among-join a b n)
  where
    by : (c : Bool) → (among a n || among b n) ≡ among (a ++ b) n → (pick c true (among a n) || among b n) ≡ pick c true (among (a ++ b) n)
    by true e = refl
    by false e = e

-- what is noted is all different, and of the numbers; and all of them as long as there are fewer than 65
record Kept (ns cs : List ℕ) : Type 0 where
  apart : Apart cs
  within : Within cs ns
  whole : length cs < 65 → Within ns cs

kept : (ns : List ℕ) → Kept ns (collected ns)
unfolding collected noted defined among
kept [] = record { apart = apart_none; within = record { at = λ y e. e }; whole = λ l. record { at = λ y e. e } }
kept (n ∷ ns) = by (leb 65 (length (collected ns))) refl (among (collected ns) n) refl (kept ns)
  where
    cs : List ℕ
    cs = collected ns

    more : Kept ns cs → Within cs (n ∷ ns)
    more k = record { at = λ y h. pick-right (eqb y n) (among ns y) (k.within.at y h) }

    by : (b : Bool) → leb 65 (length cs) ≡ b → (c : Bool) → among cs n ≡ c → Kept ns cs → Kept (n ∷ ns) (pick b cs (pick c cs (n ∷ cs)))
    by true e c f k =
        let m = leb-true 65 (length cs) e in
        record { apart = k.apart; within = more k; whole = λ l. absurd (omega arith) }
    by false e true f k =
        record { apart = k.apart; within = more k; whole = λ l. record { at = λ y h. here l y (eqb y n) refl h } }
      where
        here : length cs < 65 → (y : ℕ) (b : Bool) → eqb y n ≡ b → pick b true (among ns y) ≡ true → among cs y ≡ true
        here l y true g h = ap (among cs) (eqb-true y n g) ∙ f
        here l y false g h = (k.whole l).at y h
    by false e false f k =
        record {
          apart = apart_more f k.apart;
          within = record { at = λ y h. there y (eqb y n) h };
          whole = λ l. record { at = λ y h. here l y (eqb y n) h };
        }
      where
        there : (y : ℕ) (b : Bool) → pick b true (among cs y) ≡ true → pick b true (among ns y) ≡ true
        there y true h = refl
        there y false h = k.within.at y h

        here : suc (length cs) < 65 → (y : ℕ) (b : Bool) → pick b true (among ns y) ≡ true → pick b true (among cs y) ≡ true
        here l y true h = refl
        here l y false h = (k.whole (omega arith)).at y h

pub enough : (of_page of_session ns : List ℕ) → length of_page ≤ 32 → length of_session ≤ 32
    → some_missing of_page of_session (collected ns) ≡ some_missing of_page of_session ns
enough p s ns lp ls = by (some_missing p s (collected ns)) refl (some_missing p s ns) refl
  where
    k : Kept ns (collected ns)
    k = kept ns

    few : some_missing p s (collected ns) ≡ false → length (collected ns) < 65
    few e =
        let w : Within (collected ns) (p ++ s) = record { at = λ y h. sym (among-join p s y) ∙ all_there p s (collected ns) e y h } in
        let m = no_more (collected ns) (p ++ s) k.apart w in
        omega (arith, length-append p s)

    by : (b : Bool) → some_missing p s (collected ns) ≡ b → (c : Bool) → some_missing p s ns ≡ c → b ≡ c
    by true e true f = refl
    by false e false f = refl
    by true e false f = sym e ∙ none-missing p s (collected ns) (λ y h. all_there p s ns f y (k.within.at y h))
    by false e true f = sym (none-missing p s ns (λ y h. all_there p s (collected ns) e y ((k.whole (few e)).at y h))) ∙ f

-- with more defined nothing is missing that was not
still : (a b p s ns : List ℕ) → ((y : ℕ) → (among a y || among b y) ≡ true → (among p y || among s y) ≡ true) → some_missing a b ns ≡ false
    → some_missing p s ns ≡ false
still a b p s ns f e = none-missing p s ns (λ y h. f y (all_there a b ns e y h))

among-noted : (n : ℕ) (ns : List ℕ) (y : ℕ) → among ns y ≡ true → among (noted n ns) y ≡ true
unfolding noted defined among
among-noted n ns y h = by (leb 65 (length ns)) (among ns n)
  where
    by : (b c : Bool) → among (pick b ns (pick c ns (n ∷ ns))) y ≡ true
    by true c = h
    by false true = h
    by false false = pick-right (eqb y n) (among ns y) h

-- a number more for the page, or for the session
pub page-still : (n : ℕ) (p s ns : List ℕ) → some_missing p s ns ≡ false → some_missing (noted n p) s ns ≡ false
page-still n p s ns = still p s (noted n p) s ns (λ y h. by y (among p y) refl h)
  where
    by : (y : ℕ) (b : Bool) → among p y ≡ b → (b || among s y) ≡ true → (among (noted n p) y || among s y) ≡ true
    by y true e h = rw (among-noted n p y e) refl
    by y false e h = or_right (among (noted n p) y) (among s y) h

pub session-still : (n : ℕ) (p s ns : List ℕ) → some_missing p s ns ≡ false → some_missing p (noted n s) ns ≡ false
session-still n p s ns = still p s p (noted n s) ns (λ y h. by y (among p y) h)
  where
    by : (y : ℕ) (b : Bool) → (b || among s y) ≡ true → (b || among (noted n s) y) ≡ true
    by y true h = refl
    by y false h = among-noted n s y h
