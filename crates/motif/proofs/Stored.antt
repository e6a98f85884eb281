-- What the row of a held motif says of it: its key, the place of its bytes in the store and how many they are; so the bytes there are its own.
-- Assumes nothing.
use Prim.Native.Nat.{ℕ, suc, ◌+◌, ◌≤◌}
use mathlib.Core.Path.{◌≡◌, refl, sym, ap, ◌∙◌}
use mathlib.Core.Bool.{Bool, true, false}
use mathlib.Core.List.{List, [], ◌∷◌, ◌++◌}
use native.Mathlib.Omega.{arith}
use lib.ListN.{length, take, drop, length-append, length-drop, take-append-drop}
use lib.Seq.{take-append-le, drop-append-le, drop_at, take_all}
use Rattle.scope.specs.Choice.{same}
use Rattle.scope.specs.Motif.{Motif, held_as, bytes_held}
use Rattle.key.specs.Keys.{key_of, IsName}
use Rattle.motif.specs.Held.{Rows, rows_none, rows_more, InRow, key_in, start_in, long_in, store_of}
use Rattle.motif.proofs.Rowed.{is_same, none_is, held-here, held_on}

-- the store has as many bytes as the motifs
pub bytes-store : (ms : List Motif) → length (store_of ms) ≡ bytes_held ms
unfolding store_of bytes_held
bytes-store [] = refl
bytes-store (m ∷ ms) = let k = bytes-store ms in omega (arith, length-append (store_of ms) m.bytes, k)

-- what row i of the table says of a motif, of which it is the row
pub record Told (t : List ℕ) (ms : List Motif) (i : ℕ) (m : Motif) : Type 0 where
  pub key : key_in t i ≡ key_of m.name
  pub name : IsName m.name
  pub ends : start_in t i + length m.bytes ≤ bytes_held ms
  pub long : long_in t i ≡ length m.bytes
  pub part : take (length m.bytes) (drop (start_in t i) (store_of ms)) ≡ m.bytes

-- the last motif, and one below it
module _ (t : List ℕ) (n : ℕ) (x : Motif) (xs : List Motif) where
  told-last : key_in t n ≡ key_of x.name → IsName x.name → start_in t n ≡ bytes_held xs → long_in t n ≡ length x.bytes → Told t (x ∷ xs) n x
  unfolding store_of bytes_held
  told-last a b c d =
      let l : length (store_of xs) ≡ start_in t n = bytes-store xs ∙ sym c in
      record {
        key = a;
        name = b;
        ends = omega (arith, c);
        long = d;
        part = ap (take (length x.bytes)) (drop_at (store_of xs) x.bytes (start_in t n) l) ∙ take_all (length x.bytes) x.bytes (omega arith);
      }

  told_below : (i : ℕ) (m : Motif) → Told t xs i m → Told t (x ∷ xs) i m
  unfolding store_of bytes_held
  told_below i m k =
      let l = bytes-store xs in
      let e = k.ends in
      let h : start_in t i ≤ length (store_of xs) = omega arith in
      let g : length m.bytes ≤ length (drop (start_in t i) (store_of xs)) = rw (length-drop (start_in t i) (store_of xs)) (omega arith) in
      record {
        key = k.key;
        name = k.name;
        ends = omega arith;
        long = k.long;
        part =
            ap (take (length m.bytes)) (drop-append-le (start_in t i) (store_of xs) x.bytes h)
            ∙ take-append-le (length m.bytes) (drop (start_in t i) (store_of xs)) x.bytes g ∙ k.part;
      }

-- every row tells this of its motif
pub told : {t : List ℕ} {n i : ℕ} {ms : List Motif} {m : Motif} → Rows t n ms → InRow ms i m → Told t ms i m
unfolding held_as
told rows_none r = none_is r.held
told {t} {n = suc n} {i = i} {m = m} (rows_more {m = x} {ms = xs} a b c d e f k) r = by (same x.name m.name) refl (λ z. told k z)
  where
    by : (q : Bool) → same x.name m.name ≡ q → (InRow xs i m → Told t xs i m) → Told t (x ∷ xs) i m
    by true q ih =
        let z : x ≡ m = is_same (sym (held-here x xs m.name q) ∙ r.held) in
        let y : x.number ≡ suc i = ap (λ (w : Motif). w.number) z ∙ r.row in
        let j : n ≡ i = omega (arith, y, e) in
        rw (← z, ← j) (told-last t n x xs a b c d)
    by false q ih = told_below t n x xs i m (ih (record { held = sym (held_on x xs m.name q) ∙ r.held; row = r.row }))

module _ {t : List ℕ} {n i : ℕ} {ms : List Motif} {m : Motif} (k : Rows t n ms) (r : InRow ms i m) where
  pub row-key : key_in t i ≡ key_of m.name
  row-key = (told k r).key

  pub row-name : IsName m.name
  row-name = (told k r).name

  pub row-start : start_in t i + length m.bytes ≤ bytes_held ms
  row-start = (told k r).ends

  pub row-long : long_in t i ≡ length m.bytes
  row-long = (told k r).long

  -- the bytes at its place in the store are its bytes
  pub stored_at : (work : List ℕ) → bytes_held ms ≤ length work → take (bytes_held ms) work ≡ store_of ms → take (long_in t i) (drop (start_in t i) work) ≡ m.bytes
  stored_at work h e =
      let w : store_of ms ++ drop (bytes_held ms) work ≡ work = rw (← e) (take-append-drop (bytes_held ms) work) in
      let f = told k r in
      let a = f.ends in
      let l = bytes-store ms in
      let p : start_in t i ≤ length (store_of ms) = omega arith in
      let q : length m.bytes ≤ length (drop (start_in t i) (store_of ms)) = rw (length-drop (start_in t i) (store_of ms)) (omega arith) in
      rw (f.long, ← w)
      (ap (take (length m.bytes)) (drop-append-le (start_in t i) (store_of ms) (drop (bytes_held ms) work) p)
      ∙ take-append-le (length m.bytes) (drop (start_in t i) (store_of ms)) (drop (bytes_held ms) work) q ∙ f.part)
