-- `list_one`: the operator's record right after its attribute's.
-- Assumes nothing.
use Rattle.std.proofs.Common.{length, sym, ◌∙◌, arith}
use Rattle.listed.proofs.Listed.{room-few, one-listed}
use Rattle.listed.proofs.listing.list_one.Goals as goal

pub returns-then-not-has_room-clause-value : goal.returns-then-not-has_room-clause-value
returns-then-not-has_room-clause-value c = let a = c.args in
    sym c.if-not-has_room.true ∙ c.has_room.ensures.value ∙ room-few a.records 1 (length a.list.now) (omega arith)

pub returns-clause-list_after : goal.returns-clause-list_after
returns-clause-list_after c = let a = c.args in
    let h = (c.has_room.ensures.room c.if-not-has_room.false).1 in
    c.put-2.ensures
    ∙ one-listed a.list.now c.put.new.list c.row-attribute.result c.operator_row-operator.result a.records a.number a.value a.at a.count a.first a.tag a.op h
    c.put.ensures c.row-attribute.ensures c.operator_row-operator.ensures
