-- Where a call meets nothing, neither a name not held nor a running motif nor the 33rd level, what is running plays no part in what it unfolds to.
-- Assumes nothing.
use Prim.Native.Nat.{ℕ, zero, suc}
use mathlib.Core.Path.{◌≡◌, refl, ap}
use mathlib.Core.Bool.{Bool, true, false}
use mathlib.Core.List.{List, [], ◌∷◌, ◌++◌}
use Rattle.scope.specs.Arm.{idle, Stroke}
use Rattle.scope.specs.Motif.{Own, does, calls, Motif, Held, held_as}
use Rattle.scope.specs.Calls.{flat, is_one, call_by, call_of, through, unfolded, Met, nothing, both, met_in, met_by, met}
use Rattle.scope.proofs.Apart.{clash-of}
use Rattle.scope.proofs.Rows.{or_left, or_right}

-- two that meet nothing together meet nothing each
pub both-nothing : (a b : Met) → both a b ≡ nothing → (a ≡ nothing) × (b ≡ nothing)
both-nothing a b e =
    let p = ap (λ (m : Met). m.missing) e in
    let q = ap (λ (m : Met). m.again) e in
    let r = ap (λ (m : Met). m.deep) e in
    let x = or_left a.missing b.missing p in
    let y = or_left a.again b.again q in
    let z = or_left a.deep b.deep r in
    let u = or_right a.missing b.missing p in
    let v = or_right a.again b.again q in
    let w = or_right a.deep b.deep r in
    ((λ i. record { missing = x i; again = y i; deep = z i }), λ i. record { missing = u i; again = v i; deep = w i })

-- rows that agree wherever a call meets nothing, of operators whose calls meet nothing
pub flat-cong : (f g : List ℕ → List Stroke) (k : ℕ) (m : List ℕ → Met) → ((n : List ℕ) → m n ≡ nothing → f n ≡ g n)
    → (os : List Own) → met_in m os ≡ nothing → flat f k os ≡ flat g k os
unfolding flat met_in
flat-cong f g k m h [] e = refl
flat-cong f g k m h (does o a ∷ os) e = ap (λ l. record { motif = k; op = o; act = a } ∷ l) (flat-cong f g k m h os e)
flat-cong f g k m h (calls o n ∷ os) e =
    let p = both-nothing (m n) (met_in m os) e in
    λ i. record { motif = k; op = o; act = idle } ∷ (h n p.0 i ++ flat-cong f g k m h os p.1 i)

unfoldable pub bare_by : (List ℕ → List Stroke) → Held → List Stroke
bare_by f Held.none = []
bare_by f (Held.is m) = flat f m.number m.ops

-- the row that a name unfolds to within so many levels, whatever is running
unfoldable pub bare : List Motif → (nesting : ℕ) → List ℕ → List Stroke
bare held zero n = []
bare held (suc d) n = bare_by (bare held d) (held_as n held)

-- where a call meets nothing, it unfolds to that row
pub unfolded-bare : (held : List Motif) (d : ℕ) (running : List (List ℕ)) (n : List ℕ) → met held d running n ≡ nothing → unfolded held d running n ≡ bare held d n
unfolding bare bare_by unfolded met call_of met_by call_by through
unfolded-bare held zero running n e = refl
unfolded-bare held (suc d) running n e = by (is_one n running) (held_as n held) e (unfolded-bare held d (n ∷ running))
  where
    by : (b : Bool) (x : Held) → met_by (λ m. met_in (met held d (n ∷ running)) m.ops) (call_by b x) ≡ nothing
        → ((c : List ℕ) → met held d (n ∷ running) c ≡ nothing → unfolded held d (n ∷ running) c ≡ bare held d c)
        → through (unfolded held d (n ∷ running)) (call_by b x) ≡ bare_by (bare held d) x
    by b Held.none f ih = refl
    by true (Held.is m) f ih = clash-of (ap (λ (m : Met). m.again) f)
    by false (Held.is m) f ih = flat-cong (unfolded held d (n ∷ running)) (bare held d) m.number (met held d (n ∷ running)) ih m.ops f
