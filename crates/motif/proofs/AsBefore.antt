-- The search as it was before the held motifs had an order: row by row, the last one first. Both searches find the same row, whatever the name: numbers are those of
-- first definition still.
-- Assumes nothing.
use Prim.Native.Nat.{ℕ, zero, suc}
use mathlib.Core.Path.{◌≡◌, refl, sym, ap, ◌∙◌}
use mathlib.Core.Bool.{Bool, true, false}
use mathlib.Core.List.{List, ◌∷◌}
use native.Mathlib.Omega.{arith}
use Rattle.scope.specs.Choice.{pick, same}
use Rattle.scope.specs.Motif.{Motif, Held, held_as}
use Rattle.key.specs.Keys.{key_of}
use Rattle.key.proofs.Packs.{Bytes, same_key}
use Rattle.motif.specs.Held.{Rows, rows_none, rows_more, Keeps, Finds, finds_at, finds_none, key_in}
use Rattle.motif.specs.Search.{find_in}
use Rattle.std.specs.Prelude.{Option, Some, None}
use Rattle.motif.proofs.Rowed.{is_same, none_is, held-here, held_on, held_first, still-held}
use Rattle.motif.proofs.Finding.{find_held}

-- the search through the first rows, the last one first
unfoldable pub down_in : (t key : List ℕ) → ℕ → Option ℕ
down_in t key zero = None
down_in t key (suc i) = pick (same (key_in t i) key) (Some i) (down_in t key i)

-- a motif found below is found still where the last one has another name
finds_below : {m : Motif} {ms : List Motif} {name : List ℕ} {r : Option ℕ} → held_as m.name ms ≡ Held.none → same m.name name ≡ false
    → Finds ms name r → Finds (m ∷ ms) name r
finds_below {m} {ms} {name} new b (finds_at {m = x} h k) =
    finds_at (held_on m ms name b ∙ h) (record { held = still-held m ms new x.name k.held; row = k.row })
finds_below {m} {ms} {name} new b (finds_none h) = finds_none (held_on m ms name b ∙ h)

-- the search through the rows finds what is held under the name
down-held : {t : List ℕ} {n : ℕ} {ms : List Motif} (name : List ℕ) → Bytes name → Rows t n ms → Finds ms name (down_in t (key_of name) n)
unfolding down_in held_as
down-held name q rows_none = finds_none refl
down-held {t} {n = suc n} name q (rows_more {m = m} {ms = ms} a b c d e f k) = by (same m.name name) refl (down-held name q k)
  where
    test : same (key_in t n) (key_of name) ≡ same m.name name
    test = ap (λ l. same l (key_of name)) a ∙ same_key m.name name b q

    by : (u : Bool) → same m.name name ≡ u → Finds ms name (down_in t (key_of name) n) → Finds (m ∷ ms) name (pick (same (key_in t n) (key_of name)) (Some n) (down_in t (key_of name) n))
    by true u ih = rw (test ∙ u) (finds_at (held-here m ms name u) (record { held = held_first m ms; row = e }))
    by false u ih = rw (test ∙ u) (finds_below f u ih)

-- a name has one answer
finds_one : {ms : List Motif} {name : List ℕ} {r u : Option ℕ} → Finds ms name r → Finds ms name u → r ≡ u
finds_one (finds_at {i = i} {m = a} h p) (finds_at {i = j} {m = b} g q) =
    let e : suc i ≡ suc j = sym p.row ∙ ap (λ (m : Motif). m.number) (is_same (sym h ∙ g)) ∙ q.row in
    let d : i ≡ j = omega arith in
    ap Some d
finds_one (finds_at h p) (finds_none g) = none_is (sym g ∙ h)
finds_one (finds_none h) (finds_at g q) = none_is (sym h ∙ g)
finds_one (finds_none h) (finds_none g) = refl

-- the search by halving answers what the search row by row answered
pub as_before : {t : List ℕ} {n : ℕ} {ms : List Motif} → Keeps t n ms → (name : List ℕ) → Bytes name → find_in t (key_of name) n ≡ down_in t (key_of name) n
as_before k name q = finds_one (find_held k name q) (down-held name q k.rows)
