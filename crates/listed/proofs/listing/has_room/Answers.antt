-- `has_room`: bytes against whole records.
-- Assumes nothing.
use Rattle.std.proofs.Common.{◌≡◌, ◌≤◌, ◌/◌, sym, ◌∙◌, false, arith}
use borrow.Author.Tests.{leb-true, leb-false}
use Rattle.listed.specs.Listed.{room_for}
use Rattle.listed.proofs.Listed.{room-many, room-none, room-left, room-is}
use Rattle.listed.proofs.listing.has_room.Goals.{then-n-le16, else-n-le16}
use Rattle.listed.proofs.listing.has_room.Goals as goal

pub returns-then-records-bytes : goal.returns-then-records-bytes
returns-then-records-bytes c = let a = c.args in
    let h : (a.n ≤ 16) × (a.records ≤ a.bytes / 16) = elim c.if-n-le16.branch [
      | then-n-le16 w ↦ (w.if-n-le16.true, leb-true _ _ (sym w.value-is ∙ c.if-records-bytes.true))
      | else-n-le16 w ↦ absurd (let z : a.n ≤ 16 = leb-true _ _ (sym w.value-is ∙ c.if-records-bytes.true) in omega (arith, w.if-n-le16.false))
    ] in
    let v = room-left a.records a.n a.bytes h.0 h.1 in
    record { value = v; room = λ e. room-is a.records a.n a.bytes (sym v ∙ e) }

pub returns-else-records-bytes : goal.returns-else-records-bytes
returns-else-records-bytes c = let a = c.args in
    let f : room_for a.records a.n a.bytes ≡ false = elim c.if-n-le16.branch [
      | then-n-le16 w ↦ room-none a.records a.n a.bytes w.if-n-le16.true (leb-false _ _ (sym w.value-is ∙ c.if-records-bytes.false))
      | else-n-le16 w ↦ room-many a.records a.n a.bytes w.if-n-le16.false
    ] in
    let v = c.if-records-bytes.false ∙ sym f in
    record { value = v; room = λ e. room-is a.records a.n a.bytes (sym v ∙ e) }
