-- What is held is defined: by the last definition of its name, and by no other name. An EndStream defines its motif, and leaves the definition of every other name.
-- Assumes nothing.
use mathlib.Core.Path.{◌≡◌, refl, sym, ap, ◌∙◌, subst}
use mathlib.Core.Bool.{Bool, true, false}
use mathlib.Core.List.{List, [], ◌∷◌}
use native.Mathlib.Omega.{arith}
use borrow.Author.Tests.{eq-eqb}
use Prim.Native.Nat.{ℕ}
use lib.Dec.{eqb}
use Rattle.scope.specs.Choice.{same}
use Rattle.scope.specs.Setting.{Setting}
use Rattle.scope.specs.Reading.{Operator}
use Rattle.scope.specs.Motif.{Own, Motif, Held, held_as, is_held, Judged, motif_of}
use Rattle.scope.specs.Session.{replaced, kept_as}
use Rattle.scope.specs.Claims.{Collects, Defines, AllDefined}
use Rattle.scope.proofs.Ends.{pick_all}
use Rattle.scope.proofs.Apart.{clash-of, not-held_as, same-eq, same_refl}

-- names that differ, either way round
differ_back : (x n : List ℕ) → same x n ≡ false → same n x ≡ false
differ_back x n e = by (same n x) refl
  where
    by : (b : Bool) → same n x ≡ b → b ≡ false
    by true f = clash-of (sym (same_refl x) ∙ ap (same x) (sym (same-eq n x f)) ∙ e)
    by false f = refl

-- a name that is not held is no motif's
not_first : (n : List ℕ) (m : Motif) (ms : List Motif) → held_as n (m ∷ ms) ≡ Held.none → (same m.name n ≡ false) × (held_as n ms ≡ Held.none)
unfolding held_as
not_first n m ms e = by (same m.name n) refl e
  where
    by : (b : Bool) → same m.name n ≡ b → elim b as (λ _. Held) [ true ↦ Held.is m | false ↦ held_as n ms ] ≡ Held.none → (same m.name n ≡ false) × (held_as n ms ≡ Held.none)
    by true f g = not-held_as (sym g)
    by false f g = (f, g)

not_in : (n : List ℕ) (m : Motif) (ms : List Motif) → same m.name n ≡ false → held_as n ms ≡ Held.none → held_as n (m ∷ ms) ≡ Held.none
unfolding held_as
not_in n m ms e f = (λ i. elim (e i) as (λ _. Held) [ true ↦ Held.is m | false ↦ held_as n ms ]) ∙ f

-- nor is it held after another is replaced
not-replaced : (x n j : List ℕ) (ops : List Own) → same x n ≡ false → (ms : List Motif) → held_as x ms ≡ Held.none → held_as x (replaced n j ops ms) ≡ Held.none
unfolding replaced
not-replaced x n j ops d [] e = e
not-replaced x n j ops d (m ∷ ms) e =
    let k = not_first x m ms e in
    by (same m.name n) k.0 k.1 (not-replaced x n j ops d ms k.1)
  where
    by : (b : Bool) → same m.name x ≡ false → held_as x ms ≡ Held.none → held_as x (replaced n j ops ms) ≡ Held.none
        → held_as x (elim b as (λ _. List Motif) [ true ↦ record { name = n; bytes = j; number = m.number; ops = ops } ∷ ms | false ↦ m ∷ replaced n j ops ms ]) ≡ Held.none
    by true f g h = not_in x (record { name = n; bytes = j; number = m.number; ops = ops }) ms (differ_back x n d) g
    by false f g h = not_in x m (replaced n j ops ms) f h

-- a name not held
not-held : (x : Held) → is_held x ≡ false → x ≡ Held.none
unfolding is_held
not-held (Held.is m) e = clash-of e
not-held Held.none e = refl

module _ (s : List ℕ) where
  -- an operator that is no EndStream defines nothing
  pub known-later : {set : Setting} {since : List Operator} {held : List Motif} (o : Operator) → eqb o.tag 0x5d ≡ false → AllDefined set s since held
      → AllDefined set s (o ∷ since) held
  known-later o q AllDefined.none = AllDefined.none
  known-later o q (AllDefined.more d u e k) = AllDefined.more (Defines.before (λ others t c. clash-of (sym (eq-eqb o.tag 0x5d t) ∙ q)) d) u e (known-later o q k)

  -- the name of what is being collected is one
  collects_name : {n m x y : List ℕ} {os : List Operator} → Collects s n x os → Collects s m y os → n ≡ m
  collects_name (Collects.begins e f) (Collects.begins g h) = sym f ∙ h
  collects_name (Collects.begins e f) (Collects.reads g h) = absurd (let z : 0x5b ≡ 0x5c = sym e ∙ g in omega arith)
  collects_name (Collects.reads e f) (Collects.begins g h) = absurd (let z : 0x5c ≡ 0x5b = sym e ∙ g in omega arith)
  collects_name (Collects.reads e f) (Collects.reads g h) = collects_name f h

  -- the motif of a name is defined, and under that name
  pub found-own : {set : Setting} (n : List ℕ) {since : List Operator} {held : List Motif} → AllDefined set s since held → (m : Motif) → held_as n held ≡ Held.is m
      → Defines s m.name m.bytes since × (m.name ≡ n)
  unfolding held_as
  found-own n AllDefined.none m e = not-held_as e
  found-own n {since = since} (AllDefined.more {m = x} {ms = ms} d u c k) m e = by (found-own n k m) (same x.name n) refl e
    where
      motif_in : Held → Motif
      motif_in Held.none = x
      motif_in (Held.is y) = y

      by : (held_as n ms ≡ Held.is m → Defines s m.name m.bytes since × (m.name ≡ n)) → (b : Bool) → same x.name n ≡ b
          → elim b as (λ _. Held) [ true ↦ Held.is x | false ↦ held_as n ms ] ≡ Held.is m → Defines s m.name m.bytes since × (m.name ≡ n)
      by ih true f g = subst (λ (y : Motif). Defines s y.name y.bytes since × (y.name ≡ n)) (ap motif_in g) (d, same-eq x.name n f)
      by ih false f g = ih g

-- EndStream: the motif that was read is defined, by its last definition, and every other name as it was
module _ (set : Setting) (s : List ℕ) (o : Operator) (since : List Operator) (n j : List ℕ) (ops : List Own) (e : o.tag ≡ 0x5d) (c : Collects s n j since)
    (v : motif_of set j ≡ Judged.valid ops) where
  other-later : {x bytes : List ℕ} → same x n ≡ false → Defines s x bytes since → Defines s x bytes (o ∷ since)
  other-later {x} f d = Defines.before (λ others t h. clash-of (sym (same_refl x) ∙ ap (same x) (collects_name s h c) ∙ f)) d

  others-later : {held : List Motif} → held_as n held ≡ Held.none → AllDefined set s since held → AllDefined set s (o ∷ since) held
  others-later f AllDefined.none = AllDefined.none
  others-later f (AllDefined.more {m = m} {ms = ms} d u w k) =
      let h = not_first n m ms f in
      AllDefined.more (other-later h.0 d) u w (others-later h.1 k)

  replaced-defined : {held : List Motif} → AllDefined set s since held → AllDefined set s (o ∷ since) (replaced n j ops held)
  unfolding replaced
  replaced-defined AllDefined.none = AllDefined.none
  replaced-defined (AllDefined.more {m = m} {ms = ms} d u w k) = by (same m.name n) refl (replaced-defined k)
    where
      by : (b : Bool) → same m.name n ≡ b → AllDefined set s (o ∷ since) (replaced n j ops ms)
          → AllDefined set s (o ∷ since) (elim b as (λ _. List Motif) [ true ↦ record { name = n; bytes = j; number = m.number; ops = ops } ∷ ms | false ↦ m ∷ replaced n j ops ms ])
      by true f h =
          let g = ap (λ x. held_as x ms) (sym (same-eq m.name n f)) ∙ u in
          AllDefined.more (Defines.ends e c) g v (others-later g k)
      by false f h = AllDefined.more (other-later f d) (not-replaced m.name n j ops f ms u) w h

  pub kept-defined : {held : List Motif} → AllDefined set s since held → AllDefined set s (o ∷ since) (kept_as n j (Judged.valid ops) held)
  unfolding kept_as
  kept-defined {held} k =
      pick_all (AllDefined set s (o ∷ since)) (is_held (held_as n held)) (λ _. replaced-defined k)
      (λ f. let g = not-held (held_as n held) f in AllDefined.more (Defines.ends e c) g v (others-later g k))
