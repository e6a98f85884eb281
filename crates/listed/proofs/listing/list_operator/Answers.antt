-- `list_operator`: the operator's record right after its attributes'.
-- Assumes nothing.
use Rattle.std.proofs.Common.{◌≡◌, refl, sym, ◌∙◌, true, false, ◌+◌, ◌*◌, length, arith}
use Rattle.items.specs.Rows.{rows_of}
use Rattle.buffer.specs.Over.{over}
use Rattle.listed.specs.Listed.{lows, room_for, records_for}
use Rattle.listed.proofs.Listed.{operator-listed, listed-whole}
use Rattle.listed.proofs.listing.list_operator.Goals as goal

pub returns-then-not-has_room-clause-value : goal.returns-then-not-has_room-clause-value
returns-then-not-has_room-clause-value c = let a = c.args in
    let l = a.list.now in
    let e : false ≡ room_for a.records a.n (length l) = sym c.if-not-has_room.true ∙ c.has_room.ensures.value in
    listed-whole l l a.attrs.now a.records a.n a.tag a.at a.size a.first false e refl

pub returns : goal.returns
returns c = let a = c.args in
    let l = a.list.now in
    let p = c.put in
    let m = c.list_attributes in
    let o = c.operator_row-bytes in
    let h = c.has_room.ensures.room c.if-not-has_room.false in
    let e : true ≡ room_for a.records a.n (length l) = sym c.if-not-has_room.false ∙ c.has_room.ensures.value in
    let f : p.new.list ≡ over m.new.list ((a.records + a.n) * 16) o.result = p.ensures in
    let w : p.new.list ≡ over l (a.records * 16) (records_for a.tag a.at a.size a.first (lows (rows_of a.attrs.now a.n))) =
    f ∙ operator-listed l m.new.list a.attrs.now o.result a.records a.n a.tag a.at a.size a.first h.1 m.ensures o.ensures in
    record { list_len_unchanged = omega arith; value = listed-whole l p.new.list a.attrs.now a.records a.n a.tag a.at a.size a.first true e w; value_2 = e; list_after = w }
