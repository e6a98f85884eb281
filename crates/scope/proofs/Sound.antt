-- Of what is held and sound: the plain arm, which knows names and bytes alone, performs at a call
-- what `unfolded` says, wherever the call meets nothing; and a motif that is added or replaced leaves what is held sound.
-- Assumes nothing.
use Prim.Native.Nat.{ℕ, zero, suc}
use mathlib.Core.Path.{◌≡◌, refl, sym, ap, ◌∙◌}
use mathlib.Core.Bool.{Bool, true, false}
use mathlib.Core.List.{List, [], ◌∷◌}
use lib.ListN.{length}
use lib.Dec.{eqb}
use Rattle.scope.specs.Choice.{pick, same}
use Rattle.scope.specs.Attributes.{bytes_in}
use Rattle.scope.specs.Setting.{Setting}
use Rattle.scope.specs.Reading.{Operator}
use Rattle.scope.specs.Arm.{idle, act_of}
use Rattle.scope.specs.Motif.{Own, Motif, Held, held_as, is_held, valid, motif_of}
use Rattle.scope.specs.Calls.{flat, unfolded, nothing, met}
use Rattle.scope.specs.Session.{row_for, replaced, kept_as}
use Rattle.scope.specs.Judge.{met_at}
use Rattle.scope.specs.Sound.{Sound, sound_none, sound_more}
use Rattle.scope.specs.Plain.{Known, Found, known_as, is_known, relearnt, learnt, strokes_of, own_of, called}
use Rattle.scope.proofs.Again.{read_again}
use Rattle.scope.proofs.Bare.{bare_by, bare, unfolded-bare}

-- names and bytes of what is held
unfoldable pub known_of : List Motif → List Known
known_of [] = []
known_of (m ∷ ms) = record { name = m.name; bytes = m.bytes } ∷ known_of ms

known-length : (ms : List Motif) → length (known_of ms) ≡ length ms
unfolding known_of
known-length [] = refl
known-length (m ∷ ms) = ap suc (known-length ms)

-- a name finds the same motif on both sides
data Agrees (set : Setting) : Held → Found → Type 0 where
  none : Agrees set Held.none Found.none
  one : {m : Motif} → motif_of set m.bytes ≡ valid m.ops → Agrees set (Held.is m) (Found.is m.number m.bytes)

agrees : (n : List ℕ) {set : Setting} {ms : List Motif} → Sound set ms → Agrees set (held_as n ms) (known_as n (known_of ms))
unfolding held_as known_as known_of
agrees n sound_none = none
agrees n {set} (sound_more {m = x} {ms = xs} e num k) = by (same x.name n) (agrees n k)
  where
    by : (b : Bool) → Agrees set (held_as n xs) (known_as n (known_of xs))
        → Agrees set (elim b [ true ↦ Held.is x | false ↦ held_as n xs ]) (elim b [ true ↦ Found.is (suc (length (known_of xs))) x.bytes | false ↦ known_as n (known_of xs) ])
    by true a = rw (known-length xs, ← num) (one e)
    by false a = a

module _ {set : Setting} {held : List Motif} (sound : Sound set held) where
  -- what the plain arm reads at a call
  pub called-bare : (d : ℕ) (n : List ℕ) → called set (known_of held) d n ≡ bare held d n
  unfolding called bare bare_by own_of
  called-bare zero n = refl
  called-bare (suc d) n = by (agrees n sound) (called-bare d)
    where
      by : {x : Held} {y : Found} → Agrees set x y → ((c : List ℕ) → called set (known_of held) d c ≡ bare held d c)
          → own_of (called set (known_of held) d) set y ≡ bare_by (bare held d) x
      by none ih = refl
      by (one {m = m} k) ih = read_again (called set (known_of held) d) m.number set m.bytes k ∙ (λ i. flat (λ c. ih c i) m.number m.ops)

  -- what the plain arm performs for an operator of the job is its row
  pub row-again : (s : List ℕ) (o : Operator) → met_at held (bytes_in s o.attrs 139) o.tag ≡ nothing
      → strokes_of (called set (known_of held) 32) 0 set s o ≡ row_for set s held o
  unfolding strokes_of row_for met_at
  row-again s o e = by (eqb o.tag 0x5e) e
    where
      name : List ℕ
      name = bytes_in s o.attrs 139

      by : (b : Bool) → pick b (met held 32 [] name) nothing ≡ nothing
          → pick b (record { motif = 0; op = o; act = idle } ∷ called set (known_of held) 32 name) (record { motif = 0; op = o; act = act_of set s o } ∷ [])
          ≡ pick b (record { motif = 0; op = o; act = idle } ∷ unfolded held 32 [] name) (record { motif = 0; op = o; act = act_of set s o } ∷ [])
      by true f = ap (λ l. record { motif = 0; op = o; act = idle } ∷ l) (called-bare 32 name ∙ sym (unfolded-bare held 32 [] name f))
      by false f = refl

-- a motif that is added or replaced
module _ (n j : List ℕ) (ops : List Own) where
  pub replaced-length : (ms : List Motif) → length (replaced n j ops ms) ≡ length ms
  unfolding replaced
  replaced-length [] = refl
  replaced-length (m ∷ ms) = by (same m.name n) (replaced-length ms)
    where
      by : (b : Bool) → length (replaced n j ops ms) ≡ length ms
          → length {A = Motif} (elim b [ true ↦ record { name = n; bytes = j; number = m.number; ops = ops } ∷ ms | false ↦ m ∷ replaced n j ops ms ]) ≡ suc (length ms)
      by true e = refl
      by false e = ap suc e

  replaced-known : (ms : List Motif) → relearnt n j (known_of ms) ≡ known_of (replaced n j ops ms)
  unfolding replaced relearnt known_of
  replaced-known [] = refl
  replaced-known (m ∷ ms) = by (same m.name n) (replaced-known ms)
    where
      by : (b : Bool) → relearnt n j (known_of ms) ≡ known_of (replaced n j ops ms)
          → elim b [ true ↦ record { name = n; bytes = j } ∷ known_of ms | false ↦ record { name = m.name; bytes = m.bytes } ∷ relearnt n j (known_of ms) ]
          ≡ known_of (elim b [ true ↦ record { name = n; bytes = j; number = m.number; ops = ops } ∷ ms | false ↦ m ∷ replaced n j ops ms ])
      by true e = refl
      by false e = ap (λ l. record { name = m.name; bytes = m.bytes } ∷ l) e

  is_known_lem : {set : Setting} {x : Held} {y : Found} → Agrees set x y → is_known y ≡ is_held x
  unfolding is_known is_held
  is_known_lem none = refl
  is_known_lem (one e) = refl

  -- both sides keep it alike
  pub kept-known : {set : Setting} {ms : List Motif} → Sound set ms → learnt n j (known_of ms) ≡ known_of (kept_as n j (valid ops) ms)
  unfolding learnt kept_as known_of
  kept-known {ms = ms} k = rw (is_known_lem (agrees n k)) (by (is_held (held_as n ms)))
    where
      by : (b : Bool) → pick b (relearnt n j (known_of ms)) (record { name = n; bytes = j } ∷ known_of ms)
          ≡ known_of (pick b (replaced n j ops ms) (record { name = n; bytes = j; number = suc (length ms); ops = ops } ∷ ms))
      by true = replaced-known ms
      by false = refl

  module _ {set : Setting} (v : motif_of set j ≡ valid ops) where
    replaced-sound : {ms : List Motif} → Sound set ms → Sound set (replaced n j ops ms)
    unfolding replaced
    replaced-sound sound_none = sound_none
    replaced-sound (sound_more {m = m} {ms = ms} e num k) = by (same m.name n) (replaced-sound k)
      where
        by : (b : Bool) → Sound set (replaced n j ops ms)
            → Sound set (elim b [ true ↦ record { name = n; bytes = j; number = m.number; ops = ops } ∷ ms | false ↦ m ∷ replaced n j ops ms ])
        by true r = sound_more v num k
        by false r = sound_more e (num ∙ ap suc (sym (replaced-length ms))) r

    pub kept-sound : {ms : List Motif} → Sound set ms → Sound set (kept_as n j (valid ops) ms)
    unfolding kept_as
    kept-sound {ms} k = by (is_held (held_as n ms))
      where
        by : (b : Bool) → Sound set (pick b (replaced n j ops ms) (record { name = n; bytes = j; number = suc (length ms); ops = ops } ∷ ms))
        by true = replaced-sound k
        by false = sound_more v refl k
