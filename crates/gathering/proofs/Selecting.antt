-- What held motifs select, where one more becomes held: its row has what it selects, and every other row is of the motif that it was of.
-- Assumes nothing.
use Prim.Native.Nat.{ℕ, ◌<◌}
use mathlib.Core.Path.{◌≡◌, refl, sym, ap, ◌∙◌}
use mathlib.Core.Bool.{Bool, true, false, true≢false}
use mathlib.Core.List.{List, []}
use native.Mathlib.Omega.{arith}
use Rattle.scope.specs.Choice.{same}
use Rattle.scope.specs.Setting.{Setting}
use Rattle.scope.specs.Motif.{Own, Motif, Held, held_as, Judged, valid, faulty, motif_of}
use Rattle.scope.specs.Session.{kept_as}
use Rattle.scope.proofs.Apart.{same-eq, same_refl}
use Rattle.scope.proofs.Replaces.{kept-replaced}
use Rattle.motif.specs.Held.{InRow}
use Rattle.motif.specs.Stored.{Stored}
use Rattle.motif.specs.declared.kept.Kept.{Kept}
use Rattle.motif.proofs.Rowed.{is_same, held-row, row_one, in_below}
use Rattle.pattern_rows.specs.Numbers.{OfMotif, numbers_in, collected}
use Rattle.patterns.specs.Selects.{selects_in, Selects}
use Rattle.settling.proofs.Reading.{sound-at}
use Rattle.gathering.specs.Selected.{OwnKept}

-- the operators of a motif that is valid
abbrev ops_of : Judged → List Own
ops_of (valid ops) = ops
ops_of (faulty code inner) = []

module _ {set : Setting} {work t : List ℕ} {kept : Kept} (name bytes : List ℕ) (ops : List Own) (ms : List Motif) (v : motif_of set bytes ≡ valid ops)
    (s : Stored set work t kept (kept_as name bytes (valid ops) ms)) where
  abbrev now-held : List Motif
  now-held = kept_as name bytes (valid ops) ms

  -- the motif of the name is the new one
  ops-are : (m : Motif) → held_as name now-held ≡ Held.is m → m.ops ≡ ops
  ops-are m h =
      let w = (kept-replaced name bytes ops ms).held in
      let e : m.bytes ≡ bytes = ap (λ (x : Motif). x.bytes) (is_same (sym h ∙ w.1)) ∙ w.2 in
      let f : valid m.ops ≡ valid ops = sym (sound-at name s.sound h) ∙ ap (motif_of set) e ∙ v in
      ap ops_of f

  module _ {p p₁ : List ℕ} (new : Motif) (held : held_as name now-held ≡ Held.is new) (k : OwnKept p new.number p₁)
      (e : numbers_in p OfMotif ≡ collected (selects_in ops)) where
    -- it stands in its row
    new_in : InRow now-held k.row new
    new_in = let r = held-row name s.tables.keeps.rows held in record { held = ap (λ x. held_as x now-held) r.0 ∙ held; row = k.is }

    -- a row is one of 64
    below : (i : ℕ) (m : Motif) → InRow now-held i m → i < 64
    below i m r = omega (arith, in_below s.tables.keeps.rows r, s.tables.keeps.most)

    at_row : Selects p ms → (i : ℕ) (m : Motif) → InRow now-held i m → numbers_in p₁ i ≡ collected (selects_in m.ops)
    at_row z i m r = by (same m.name name) refl
      where
        by : (b : Bool) → same m.name name ≡ b → numbers_in p₁ i ≡ collected (selects_in m.ops)
        by true q =
            let h : held_as name now-held ≡ Held.is m = ap (λ x. held_as x now-held) (sym (same-eq m.name name q)) ∙ r.held in
            let n : m ≡ new = is_same (sym h ∙ held) in
            let g : i ≡ k.row = omega (arith, r.row, k.is, ap (λ (x : Motif). x.number) n) in
            rw (g, ops-are m h) (k.own ∙ e)
        by false q =
            let d : m.name ≡ name → ⊥ = λ y. other y q in
            let h : held_as m.name ms ≡ Held.is m = sym ((kept-replaced name bytes ops ms).others m.name d) ∙ r.held in
            let l : i < 67 = omega (arith, below i m r) in
            k.others.same i l (λ y. d (named y)) ∙ z.at i m (record { held = h; row = r.row })
          where
            other : m.name ≡ name → same m.name name ≡ false → ⊥
            other y q = true≢false (sym (same_refl name) ∙ (rw y at q))

            named : i ≡ k.row → m.name ≡ name
            named y =
                let w : InRow now-held i new = rw y new_in in
                let n : m ≡ new = row_one s.tables.keeps.rows r w in
                ap (λ (x : Motif). x.name) n ∙ (held-row name s.tables.keeps.rows held).0

    pub selects-kept : Selects p ms → Selects p₁ now-held
    selects-kept z = record { at = at_row z; quiet = k.quiet z.quiet; known = λ i m r y. absurd (y (k.unknown.none i (below i m r))) }
