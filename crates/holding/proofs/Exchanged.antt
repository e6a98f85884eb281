-- A motif under a held name: the row's length changes, each START is made anew, those behind it have moved, and the table is made anew; what is kept is the list with
-- the motif in the other's place.
-- Assumes nothing.
use Prim.Native.Nat.{ℕ, ◌+◌, ◌-◌, ◌*◌, ◌≤◌, ◌<◌}
use mathlib.Core.Path.{◌≡◌, sym, ap, ◌∙◌, subst}
use mathlib.Core.List.{List}
use native.Mathlib.Omega.{arith}
use lib.ListN.{length, set, drop, length-set}
use Rattle.scope.specs.Setting.{Setting}
use Rattle.scope.specs.Motif.{Own, Motif, Held, held_as, bytes_held}
use Rattle.scope.specs.Session.{replaced}
use Rattle.scope.specs.Sound.{Sound}
use Rattle.store.specs.Replaced as store
use Rattle.store.proofs.Stored.{replaced-beside}
use Rattle.motif.specs.Sorted.{Sorted}
use Rattle.motif.specs.Held.{Rows, Keeps, InRow, key_in, start_in, long_in, order_in, Finds, finds_at, finds_none}
use Rattle.motif.specs.Tables.{Tables}
use Rattle.motif.specs.Stored.{Stores, Stored}
use Rattle.motif.specs.declared.kept.Kept.{Kept}
use Rattle.std.specs.Prelude.{Some, None}
use Rattle.motif.proofs.Rowed.{sorted-beside}
use Rattle.motif.proofs.Stored.{row-start, row-long}
use Rattle.holding.specs.Laid.{Named}
use Rattle.adding.specs.Comes.{Comes}
use Rattle.holding.proofs.Swapped.{named-swapped, bytes-swapped, sound-swapped}
use Rattle.holding.proofs.Moves.{stores-swapped}

-- what a search has found
pub found_at : {ms : List Motif} {name : List ℕ} {i : ℕ} → Finds ms name (Some i) → (m : Motif) × (held_as name ms ≡ Held.is m) × InRow ms i m
found_at (finds_at {m = m} e r) = (m, e, r)

pub found_none : {ms : List Motif} {name : List ℕ} → Finds ms name None → held_as name ms ≡ Held.none
found_none (finds_none e) = e

module _ {set₀ : Setting} {work t : List ℕ} {kept : Kept} {joined : ℕ} {name : List ℕ} {ms : List Motif} {bytes : List ℕ} {ops : List Own} {i : ℕ} {m : Motif}
    (k : Comes set₀ work t kept joined name ms bytes ops) (h : held_as name ms ≡ Held.is m) (r : InRow ms i m) where
  -- the old one's bytes are some of those held
  pub old-within : long_in t i ≤ kept.used
  old-within =
      let rows = k.stored.tables.keeps.rows in
      let a = row-start rows r in
      let b = row-long rows r in
      let u = k.stored.used in
      omega arith

  bytes_after : bytes_held (replaced name bytes ops ms) ≡ kept.used + joined - long_in t i
  bytes_after =
      let b = row-long k.stored.tables.keeps.rows r in
      let o = old-within in
      let u = k.stored.used in
      let l = k.long in
      let s = bytes-swapped name bytes ops ms h in
      omega arith

  stores-after : kept.used + joined ≤ length work → Stores (store.replaced work (start_in t i) (long_in t i) kept.used joined) (replaced name bytes ops ms)
  stores-after room = stores-swapped name bytes ops k.stored.tables.keeps.rows k.stored.used k.stored.stores h r k.long k.behind room

  sound-after : Sound set₀ (replaced name bytes ops ms)
  sound-after = sound-swapped name bytes ops h k.valid k.stored.sound

  keeps-after : i < 64 → kept.used + joined ≤ 16384
      → (s : List ℕ) → length s ≡ length (set t (i * 10 + 4) joined)
      → ((xs : List Motif) → length (set t (i * 10 + 4) joined) ≡ 704 → kept.held ≤ 64 → Named (set t (i * 10 + 4) joined) kept.held xs → bytes_held xs ≤ 16384 → Rows s kept.held xs)
      → ((n : ℕ) → Sorted (key_in (set t (i * 10 + 4) joined)) (order_in (set t (i * 10 + 4) joined)) n → Sorted (key_in s) (order_in s) n)
      → Keeps s kept.held (replaced name bytes ops ms)
  keeps-after small room s e laid order =
      let keeps = k.stored.tables.keeps in
      let size : length (set t (i * 10 + 4) joined) ≡ 704 = simp length-set keeps.sized in
      let named : Named (set t (i * 10 + 4) joined) kept.held (replaced name bytes ops ms) =
      rw k.long (named-swapped name bytes ops keeps.sized small keeps.rows h r.row) in
      let b = bytes_after in
      let few : bytes_held (replaced name bytes ops ms) ≤ 16384 = omega arith in
      record {
        sized = e ∙ size;
        most = keeps.most;
        rows = laid (replaced name bytes ops ms) size keeps.most named few;
        sorted = order kept.held (sorted-beside t i 4 joined small (omega arith) (omega arith) keeps.sorted);
      }

  pub replaced-stored : i < 64 → kept.used + joined ≤ 16384 → kept.used + joined ≤ length work
      → (s : List ℕ) → length s ≡ length (set t (i * 10 + 4) joined)
      → ((xs : List Motif) → length (set t (i * 10 + 4) joined) ≡ 704 → kept.held ≤ 64 → Named (set t (i * 10 + 4) joined) kept.held xs → bytes_held xs ≤ 16384 → Rows s kept.held xs)
      → ((n : ℕ) → Sorted (key_in (set t (i * 10 + 4) joined)) (order_in (set t (i * 10 + 4) joined)) n → Sorted (key_in s) (order_in s) n)
      → (w : List ℕ) → w ≡ store.replaced work (start_in t i) (long_in t i) kept.used joined
      → (v : List ℕ) → ((xs : List Motif) → Keeps s kept.held xs → Stores w xs → Sound set₀ xs → Tables v kept.held xs)
      → Stored set₀ w v (record { held = kept.held; used = kept.used + joined - long_in t i }) (replaced name bytes ops ms)
  replaced-stored small room within s e laid order w f v made =
      let stores : Stores w (replaced name bytes ops ms) = subst (λ x. Stores x (replaced name bytes ops ms)) (sym f) (stores-after within) in
      record {
        tables = made (replaced name bytes ops ms) (keeps-after small room s e laid order) stores sound-after;
        used = sym bytes_after;
        stores = stores;
        sound = sound-after;
      }

-- the work buffer is as long as it was, and the same behind the store
pub work-beside : (w : List ℕ) (start old used new : ℕ) (x : List ℕ) → x ≡ store.replaced w start old used new → used + new ≤ 16384
    → (length x ≡ length w) × (drop 16384 x ≡ drop 16384 w)
work-beside w start old used new x e h =
    let b = replaced-beside w start old used new in
    (ap length e ∙ b.same, ap (drop 16384) e ∙ b.rest 16384 h)
