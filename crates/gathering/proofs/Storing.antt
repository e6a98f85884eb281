-- The store of motifs while one more motif is read, and its room when that one is held.
-- Assumes nothing.
use Prim.Native.Nat.{ℕ, ◌+◌, ◌≤◌}
use mathlib.Core.Path.{◌≡◌, ◌∙◌}
use mathlib.Core.List.{List}
use native.Mathlib.Omega.{arith}
use lib.ListN.{length, take}
use Rattle.scope.specs.Setting.{Setting}
use Rattle.scope.specs.Motif.{Own, Motif, bytes_held, valid}
use Rattle.scope.specs.Session.{kept_as}
use Rattle.scope.proofs.Replaces.{kept-replaced}
use Rattle.motif.specs.Stored.{Stored}
use Rattle.motif.specs.declared.kept.Kept.{Kept}

-- the bytes behind those held do not matter
pub stored-beside : {set : Setting} {work t : List ℕ} {kept : Kept} {ms : List Motif} (work₁ : List ℕ) → length work₁ ≡ length work
    → take kept.used work₁ ≡ take kept.used work → Stored set work t kept ms → Stored set work₁ t kept ms
stored-beside {work = work} {ms = ms} work₁ l e s =
    let f : take (bytes_held ms) work₁ ≡ take (bytes_held ms) work = rw s.used at e in
    let n : bytes_held ms ≤ length work₁ = rw l s.stores.within in
    record { tables = s.tables; used = s.used; stores = record { within = n; bytes = f ∙ s.stores.bytes }; sound = s.sound }

-- a motif that becomes held takes no more than its bytes
pub held-room : (name bytes : List ℕ) (ops : List Own) (ms : List Motif) → bytes_held (kept_as name bytes (valid ops) ms) ≤ bytes_held ms + length bytes
held-room name bytes ops ms = let e = (kept-replaced name bytes ops ms).room in omega arith
