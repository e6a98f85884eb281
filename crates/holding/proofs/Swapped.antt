-- One motif in the place of another, under its name: numbers and names stay, so the rows are right but for one length and where those behind it begin; the store has
-- its bytes in the place of the old ones.
-- Assumes nothing.
use Prim.Native.Nat.{ℕ, suc, ◌+◌, ◌*◌, ◌≤◌, ◌<◌}
use mathlib.Core.Logic.{◌≢◌}
use mathlib.Core.Path.{◌≡◌, refl, sym, ap, ◌∙◌, subst}
use mathlib.Core.Bool.{Bool, true, false}
use mathlib.Core.List.{List, [], ◌∷◌, ◌++◌, append_assoc, append-nil}
use native.Mathlib.Omega.{arith}
use lib.ListN.{length, get_or, set, take, drop, length-append, drop_of_length-le}
use lib.Seq.{get_or-set_same, get_or-set_other, take_at, take-append-le, drop-append-le}
use Rattle.scope.specs.Choice.{same}
use Rattle.scope.specs.Setting.{Setting}
use Rattle.scope.specs.Motif.{Own, Motif, Held, held_as, is_held, bytes_held, valid, motif_of}
use Rattle.scope.specs.Session.{replaced, kept_as}
use Rattle.scope.specs.Sound.{Sound}
use Rattle.scope.proofs.Apart.{same-eq}
use Rattle.scope.proofs.Replaces.{kept-replaced}
use Rattle.scope.proofs.Sound.{kept-sound}
use Rattle.key.specs.Keys.{key_of, IsName}
use Rattle.motif.specs.Held.{Rows, rows_none, rows_more, InRow, key_in, start_in, long_in, store_of}
use Rattle.motif.proofs.Rowed.{is_same, none_is, held-here, held_on, held-row}
use Rattle.motif.proofs.Stored.{bytes-store, row-start, row-long}
use Rattle.holding.specs.Laid.{Named, named_none, named_more}
use Rattle.adding.proofs.Cells.{three}

-- a length that changes: the numbers of other rows stay, and so does the key of its own
module _ (t : List ℕ) (i v : ℕ) where
  other : (n c : ℕ) → c < 10 → (n ≡ i → c < 4) → get_or (set t (i * 10 + 4) v) (n * 10 + c) 0 ≡ get_or t (n * 10 + c) 0
  other n c h k = let z : n * 10 + c ≢ i * 10 + 4 = λ y. let e : n ≡ i = omega arith in omega (arith, k e) in get_or-set_other t (i * 10 + 4) (n * 10 + c) v 0 z

  keys : (n : ℕ) → key_in (set t (i * 10 + 4) v) n ≡ key_in t n
  keys n = three (other n 0 (omega arith) (λ e. omega arith)) (other n 1 (omega arith) (λ e. omega arith)) (other n 2 (omega arith) (λ e. omega arith))

  -- the rows before it
  named-below : {n : ℕ} {ms : List Motif} → n ≤ i → Rows t n ms → Named (set t (i * 10 + 4) v) n ms
  named-below l rows_none = named_none
  named-below l (rows_more {n = n} a b c d e f k) =
      let h : n ≤ i = omega arith in
      named_more (keys n ∙ a) b (other n 4 (omega arith) (λ z. absurd (omega arith)) ∙ d) e f (named-below h k)

module _ (name bytes : List ℕ) (ops : List Own) where
  abbrev new : ℕ → Motif
  new k = record { name = name; bytes = bytes; number = k; ops = ops }

  swap-here : (m : Motif) (ms : List Motif) → same m.name name ≡ true → replaced name bytes ops (m ∷ ms) ≡ new m.number ∷ ms
  unfolding replaced
  swap-here m ms t = rw (replaced, t)

  swap-on : (m : Motif) (ms : List Motif) → same m.name name ≡ false → replaced name bytes ops (m ∷ ms) ≡ m ∷ replaced name bytes ops ms
  unfolding replaced
  swap-on m ms t = rw (replaced, t)

  -- a name not held is not held then
  none-still : (c : List ℕ) (ms : List Motif) → held_as c ms ≡ Held.none → held_as c (replaced name bytes ops ms) ≡ Held.none
  unfolding replaced held_as
  none-still c [] e = refl
  none-still c (m ∷ ms) e = by (same m.name name) (same m.name c) refl refl (none-still c ms)
    where
      by : (b d : Bool) → same m.name name ≡ b → same m.name c ≡ d → (held_as c ms ≡ Held.none → held_as c (replaced name bytes ops ms) ≡ Held.none)
          → held_as c (replaced name bytes ops (m ∷ ms)) ≡ Held.none
      by b true p q ih = none_is (sym e ∙ held-here m ms c q)
      by true false p q ih =
          let z : same name c ≡ false = ap (λ x. same x c) (sym (same-eq m.name name p)) ∙ q in
          ap (held_as c) (swap-here m ms p) ∙ held_on (new m.number) ms c z ∙ sym (held_on m ms c q) ∙ e
      by false false p q ih = ap (held_as c) (swap-on m ms p) ∙ held_on m (replaced name bytes ops ms) c q ∙ ih (sym (held_on m ms c q) ∙ e)

  -- the rows, but for where the bytes begin
  pub named-swapped : {t : List ℕ} {n i : ℕ} {ms : List Motif} {m : Motif} → length t ≡ 704 → i < 64 → Rows t n ms → held_as name ms ≡ Held.is m → m.number ≡ suc i
      → Named (set t (i * 10 + 4) (length bytes)) n (replaced name bytes ops ms)
  unfolding held_as
  named-swapped s w rows_none h r = none_is h
  named-swapped {t} {n = suc n} {i = i} {m = m} s w (rows_more {m = x} {ms = xs} a b c d e f k) h r = by (same x.name name) refl (λ z. named-swapped s w k z r)
    where
      by : (q : Bool) → same x.name name ≡ q → (held_as name xs ≡ Held.is m → Named (set t (i * 10 + 4) (length bytes)) n (replaced name bytes ops xs))
          → Named (set t (i * 10 + 4) (length bytes)) (suc n) (replaced name bytes ops (x ∷ xs))
      by true q ih =
          let z : x ≡ m = is_same (sym (held-here x xs name q) ∙ h) in
          let y : x.number ≡ suc i = ap (λ (u : Motif). u.number) z ∙ r in
          let j : n ≡ i = omega (arith, y, e) in
          let o : x.name ≡ name = same-eq x.name name q in
          let l : n ≤ i = omega arith in
          let g : i * 10 + 4 < length t = omega arith in
          rw (swap-here x xs q)
          (named_more (keys t i (length bytes) n ∙ a ∙ ap key_of o) (subst IsName o b) (ap (λ v. long_in (set t (i * 10 + 4) (length bytes)) v) j ∙ get_or-set_same t (i * 10 + 4) (length bytes) 0 g) e
          (ap (λ v. held_as v xs) (sym o) ∙ f) (named-below t i (length bytes) l k))
      by false q ih =
          let u : held_as name xs ≡ Held.is m = sym (held_on x xs name q) ∙ h in
          let v = held-row name k u in
          let g : i < n = omega (arith, v.1, r) in
          rw (swap-on x xs q)
          (named_more (keys t i (length bytes) n ∙ a) b (other t i (length bytes) n 4 (omega arith) (λ z. absurd (omega arith)) ∙ d) e (none-still x.name xs f) (ih u))

  -- the bytes of the last motif, and of one below it
  last-swapped : (t : List ℕ) (n : ℕ) (x : Motif) (xs : List Motif) → start_in t n ≡ bytes_held xs → long_in t n ≡ length x.bytes → (k : ℕ)
      → store_of (new k ∷ xs) ≡ take (start_in t n) (store_of (x ∷ xs)) ++ (bytes ++ drop (start_in t n + long_in t n) (store_of (x ∷ xs)))
  unfolding store_of
  last-swapped t n x xs c d k =
      let p : length (store_of xs) ≡ start_in t n = bytes-store xs ∙ sym c in
      let q : length (store_of xs ++ x.bytes) ≤ start_in t n + long_in t n = simp length-append (omega arith) in
      let z : drop (start_in t n + long_in t n) (store_of xs ++ x.bytes) ≡ [] = drop_of_length-le (store_of xs ++ x.bytes) {i = start_in t n + long_in t n} q in
      rw (take_at (store_of xs) x.bytes (start_in t n) p, z, append-nil bytes)

  below-swapped : (t : List ℕ) (i : ℕ) (x : Motif) (xs : List Motif) → start_in t i + long_in t i ≤ bytes_held xs
      → store_of (replaced name bytes ops xs) ≡ take (start_in t i) (store_of xs) ++ (bytes ++ drop (start_in t i + long_in t i) (store_of xs))
      → store_of (x ∷ replaced name bytes ops xs) ≡ take (start_in t i) (store_of (x ∷ xs)) ++ (bytes ++ drop (start_in t i + long_in t i) (store_of (x ∷ xs)))
  unfolding store_of
  below-swapped t i x xs h e =
      let l = bytes-store xs in
      let p : start_in t i ≤ length (store_of xs) = omega arith in
      let q : start_in t i + long_in t i ≤ length (store_of xs) = omega arith in
      ap (λ v. v ++ x.bytes) e
      ∙ rw (take-append-le (start_in t i) (store_of xs) x.bytes p, drop-append-le (start_in t i + long_in t i) (store_of xs) x.bytes q) (simp append_assoc)

  -- the store
  pub store_swapped : {t : List ℕ} {n i : ℕ} {ms : List Motif} {m : Motif} → Rows t n ms → held_as name ms ≡ Held.is m → m.number ≡ suc i
      → store_of (replaced name bytes ops ms) ≡ take (start_in t i) (store_of ms) ++ (bytes ++ drop (start_in t i + long_in t i) (store_of ms))
  unfolding held_as
  store_swapped rows_none h r = none_is h
  store_swapped {t} {n = suc n} {i = i} {m = m} (rows_more {m = x} {ms = xs} a b c d e f k) h r = by (same x.name name) refl (λ z. store_swapped k z r)
    where
      by : (q : Bool) → same x.name name ≡ q
          → (held_as name xs ≡ Held.is m → store_of (replaced name bytes ops xs) ≡ take (start_in t i) (store_of xs) ++ (bytes ++ drop (start_in t i + long_in t i) (store_of xs)))
          → store_of (replaced name bytes ops (x ∷ xs)) ≡ take (start_in t i) (store_of (x ∷ xs)) ++ (bytes ++ drop (start_in t i + long_in t i) (store_of (x ∷ xs)))
      by true q ih =
          let z : x ≡ m = is_same (sym (held-here x xs name q) ∙ h) in
          let y : x.number ≡ suc i = ap (λ (u : Motif). u.number) z ∙ r in
          let j : i ≡ n = omega (arith, y, e) in
          rw (swap-here x xs q, j) (last-swapped t n x xs c d x.number)
      by false q ih =
          let u : held_as name xs ≡ Held.is m = sym (held_on x xs name q) ∙ h in
          let v = held-row name k u in
          let g : InRow xs i m = record { held = ap (λ l. held_as l xs) v.0 ∙ u; row = r } in
          let s = row-start k g in
          let l = row-long k g in
          let p : start_in t i + long_in t i ≤ bytes_held xs = omega arith in
          rw (swap-on x xs q) (below-swapped t i x xs p (ih u))

  -- a held name: the list with the motif replaced is what is kept
  pub kept-swapped : (ms : List Motif) {m : Motif} → held_as name ms ≡ Held.is m → kept_as name bytes (valid ops) ms ≡ replaced name bytes ops ms
  unfolding kept_as is_held
  kept-swapped ms h = rw h

  -- how many bytes that makes
  pub bytes-swapped : (ms : List Motif) {m : Motif} → held_as name ms ≡ Held.is m → bytes_held (replaced name bytes ops ms) + length m.bytes ≡ bytes_held ms + length bytes
  bytes-swapped ms h = rw (kept-swapped ms h, h) at (kept-replaced name bytes ops ms).room

  pub sound-swapped : {set : Setting} {ms : List Motif} {m : Motif} → held_as name ms ≡ Held.is m → motif_of set bytes ≡ valid ops → Sound set ms → Sound set (replaced name bytes ops ms)
  sound-swapped {set} {ms} h v k = subst (Sound set) (kept-swapped ms h) (kept-sound name bytes ops v k)
