-- A motif under a new name: its row is written behind the others and comes into the column at its name's place, its bytes stand behind theirs, and what is kept is the
-- list with the motif in front.
-- Assumes nothing.
use Prim.Native.Nat.{ℕ, suc, ◌+◌, ◌*◌, ◌%◌, ◌≤◌, ◌<◌}
use mathlib.Core.Path.{◌≡◌, refl, sym, ap, ◌∙◌, subst}
use mathlib.Core.Bool.{Bool, true, false, not, ◌&&◌}
use mathlib.Core.List.{List, [], ◌∷◌}
use native.Mathlib.Omega.{arith}
use native.Mathlib.Numerals.{add-one}
use lib.ListN.{length, get_or, set, take, drop}
use lib.Seq.{take-add}
use lib.Dec.{eqb, leb}
use borrow.Author.Tests.{leb-false}
use Rattle.scope.specs.Choice.{pick}
use Rattle.scope.specs.Setting.{Setting}
use Rattle.scope.specs.Motif.{Own, Motif, Held, held_as, is_held, bytes_held, valid}
use Rattle.scope.specs.Session.{kept_as}
use Rattle.scope.specs.Sound.{Sound, sound_more}
use Rattle.scope.proofs.Apart.{clash-of}
use Rattle.summary.specs.Sums.{bit_of}
use Rattle.key.specs.Keys.{key_of}
use Rattle.motif.specs.Sorted.{Sorted}
use Rattle.motif.specs.Held.{Keeps, rows_more, InRow, store_of, cell, key_in, level_in, order_in}
use Rattle.motif.specs.Search.{entered_in}
use Rattle.motif.specs.Tables.{calls_row, level_of, Noted, Tables}
use Rattle.motif.specs.Stored.{Stores, Stored, full}
use Rattle.motif.specs.declared.kept.Kept.{Kept}
use Rattle.motif.proofs.Rowed.{rows-length}
use Rattle.motif.proofs.Sorting.{sorted-alike}
use Rattle.motif.proofs.Entered.{entered-length, entered-cell, entered-sorted, key-new}
use Rattle.rounds.specs.Rounds.{LevelsBut}
use Rattle.within.specs.Judging.{Makes}
use Rattle.within.specs.declared.inside.Made.{Made}
use Rattle.adding.specs.Rowing.{written, new_row, Done}
use Rattle.adding.specs.Comes.{Comes, new_of, Fresh}
use Rattle.adding.proofs.Cells.{row-cell, Alike, written-alike, written_behind, rows_same, noted-same, settled_same, makes-same}
use Rattle.adding.proofs.OneMore.{noted-last, levels_before, last-in, calls-not_itself, tables-last}

-- the stores of a row, one by one
pub row_written : (t : List ℕ) (i a b c start long missing : ℕ) (made : Made) → missing ≡ bit_of made.missing
    → set (set (set (set (set (set (set (set (set t (i * 10) a) (i * 10 + 1) b) (i * 10 + 2) c) (i * 10 + 3) start) (i * 10 + 4) long) (i * 10 + 5) 0) (i * 10 + 6) 48) (i * 10 + 7) made.calls) (i * 10 + 8) missing
    ≡ written t (i * 10) 0 (new_row (a ∷ b ∷ c ∷ []) start long made)
unfolding written new_row
row_written t i a b c start long missing made e = let z : i * 10 + 0 ≡ i * 10 = omega arith in rw (← e, z)

-- the row comes into the column: the rows before it are as they were
alike-entered : {t : List ℕ} {n : ℕ} (s key : List ℕ) → length s ≡ 704 → n < 64 → Alike t s n → Alike t (entered_in s n key) n
alike-entered {n = n} s key l h a =
    record {
      sized = entered-length s n key l h ∙ a.sized;
      cells = λ k c u v. let z : k * 10 + c < 640 = omega arith in entered-cell s n key l h (k * 10 + c) z ∙ a.cells k c u v;
    }

-- and a row that is written leaves the column as it was
sorted-written : (vs t : List ℕ) (n : ℕ) → n * 10 + length vs ≤ 640 → Alike t (written t (n * 10) 0 vs) n → Sorted (key_in t) (order_in t) n
    → Sorted (key_in (written t (n * 10) 0 vs)) (order_in (written t (n * 10) 0 vs)) n
sorted-written vs t n h a sorted =
    sorted-alike (λ i l. λ j. a.cells i 0 l (omega arith) j ∷ a.cells i 1 l (omega arith) j ∷ a.cells i 2 l (omega arith) j ∷ [])
    (λ k l. let z : n * 10 + 0 + length vs ≤ 640 + k = omega arith in ap (λ x. x % 64) (written_behind vs t (n * 10) 0 (640 + k) z)) sorted

-- level and summary of the last row, where the level is what its callees' levels make it
pub settles : {t : List ℕ} {i : ℕ} {made : Made} {m : Motif} {ms : List Motif} → Fresh t i made m ms → made.missing ≡ false → ((j : ℕ) → j < i → Done t i j) → (v s : ℕ)
    → ((xs : List Motif) (x : Motif) → Keeps t (i + 1) xs → Noted t (i + 1) xs → InRow xs i x → level_in t i ≡ 0 → LevelsBut t xs i → calls_row xs x.ops i ≡ false → v ≡ level_of xs 32 x.name)
    → s ≡ pick (eqb v 0) 48 made.sum → Tables (set (set t (i * 10 + 5) v) (i * 10 + 6) s) (i + 1) (m ∷ ms)
settles {t} {i} {m = m} {ms = ms} k none done v s level e =
    let a : Keeps t (i + 1) (m ∷ ms) = rw add-one k.keeps in
    let b : Noted t (i + 1) (m ∷ ms) = rw add-one (noted-last k none done) in
    let l : v ≡ level_of (m ∷ ms) 32 m.name = level (m ∷ ms) m a b (last-in k none done) k.level (levels_before k none done) (calls-not_itself k none done) in
    rw add-one (subst (λ u. Tables (set (set t (i * 10 + 5) v) (i * 10 + 6) u) (suc i) (m ∷ ms)) (sym e) (tables-last k none done v l))

module _ {set : Setting} {work t : List ℕ} {kept : Kept} {joined : ℕ} {name : List ℕ} {ms : List Motif} {bytes : List ℕ} {ops : List Own} (k : Comes set work t kept joined name ms bytes ops) (none : held_as name ms ≡ Held.none) where
  -- as many motifs as rows
  pub held-length : length ms ≡ kept.held
  held-length = rows-length k.stored.tables.keeps.rows

  fresh-written : (made : Made) → length ms < 64 → Makes t ms made ops
      → Fresh (entered_in (written t (kept.held * 10) 0 (new_row (key_of name) kept.used joined made)) kept.held (key_of name)) kept.held made (new_of name bytes ops ms) ms
  unfolding new_row key_of
  fresh-written made few makes =
      let n : ℕ = kept.held in
      let vs : List ℕ = new_row (key_of name) kept.used joined made in
      let rows = k.stored.tables.keeps.rows in
      let l = held-length in
      let room : n < 64 = omega arith in
      let size : n * 10 + 9 ≤ length t = let z = k.stored.tables.keeps.sized in omega arith in
      let s : List ℕ = written t (n * 10) 0 vs in
      let a : Alike t s n = written-alike vs t n in
      let sized : length s ≡ 704 = a.sized ∙ k.stored.tables.keeps.sized in
      let b : Alike t (entered_in s n (key_of name)) n = alike-entered s (key_of name) sized room a in
      let at : (c : ℕ) → c < 9 → cell (entered_in s n (key_of name)) n c ≡ get_or vs c 0 =
      λ c h. entered-cell s n (key_of name) sized room (n * 10 + c) (omega arith) ∙ row-cell vs t n c h size in
      record {
        rows = rows_same b rows;
        noted = noted-same b rows k.stored.tables.noted;
        settled = settled_same b rows 32 k.stored.tables.settled;
        keeps = record {
          sized = entered-length s n (key_of name) sized room ∙ sized;
          most = omega arith;
          rows = rows_more (λ j. at 0 (omega arith) j ∷ at 1 (omega arith) j ∷ at 2 (omega arith) j ∷ []) k.named (at 3 (omega arith) ∙ k.stored.used) (at 4 (omega arith) ∙ k.long) (ap suc l)
              none (rows_same b rows);
          sorted = entered-sorted s n (key_of name) sized room (sorted-written vs t n (omega arith) a k.stored.tables.keeps.sorted)
              (λ j. row-cell vs t n 0 (omega arith) size j ∷ row-cell vs t n 1 (omega arith) size j ∷ row-cell vs t n 2 (omega arith) size j ∷ [])
              (key-new (rows_same a rows) name k.named.bytes none);
        };
        makes = makes-same b rows makes;
        level = at 5 (omega arith);
        whom = at 7 (omega arith);
        lacks = at 8 (omega arith);
      }

  -- its bytes stand behind those held
  stores-new : kept.used + joined ≤ length work → Stores work (new_of name bytes ops ms ∷ ms)
  unfolding bytes_held store_of
  stores-new room =
      let u = k.stored.used in
      let l = k.long in
      let e : length bytes + bytes_held ms ≡ bytes_held ms + joined = omega arith in
      let d : take joined (drop (bytes_held ms) work) ≡ bytes = rw u at k.behind in
      record { within = omega arith; bytes = rw (e, take-add (bytes_held ms) joined work, k.stored.stores.bytes, d) }

  sound-new : Sound set (new_of name bytes ops ms ∷ ms)
  sound-new = sound_more k.valid refl k.stored.sound

  pub added_stored : (made : Made) → length ms < 64 → Makes t ms made ops → kept.used + joined ≤ length work
      → (s : List ℕ) → s ≡ entered_in (written t (kept.held * 10) 0 (new_row (key_of name) kept.used joined made)) kept.held (key_of name)
      → (r : List ℕ) → ((x : Motif) (xs : List Motif) → Fresh s kept.held made x xs → Stores work (x ∷ xs) → Sound set (x ∷ xs) → Tables r (kept.held + 1) (x ∷ xs))
      → Stored set work r (record { held = kept.held + 1; used = kept.used + joined }) (new_of name bytes ops ms ∷ ms)
  unfolding bytes_held
  added_stored made few makes room s e r h =
      let f = subst (λ z. Fresh z kept.held made (new_of name bytes ops ms) ms) (sym e) (fresh-written made few makes) in
      let u = k.stored.used in
      let l = k.long in
      record {
        tables = h (new_of name bytes ops ms) ms f (stores-new room) sound-new;
        used = omega arith;
        stores = stores-new room;
        sound = sound-new;
      }

-- a new name: what is kept is the list with the motif in front
pub kept_new : (name bytes : List ℕ) (ops : List Own) (ms : List Motif) → held_as name ms ≡ Held.none → kept_as name bytes (valid ops) ms ≡ new_of name bytes ops ms ∷ ms
unfolding kept_as is_held
kept_new name bytes ops ms h = rw h

-- and there is a row for it, unless all are in use
pub row-left : (name : List ℕ) (ms : List Motif) → held_as name ms ≡ Held.none → full ms name ≡ false → length ms < 64
unfolding full is_held
row-left name ms h f = by (leb 64 (length ms)) refl (rw h at f)
  where
    by : (b : Bool) → leb 64 (length ms) ≡ b → b && not false ≡ false → length ms < 64
    by true e g = clash-of g
    by false e g = leb-false 64 (length ms) e
