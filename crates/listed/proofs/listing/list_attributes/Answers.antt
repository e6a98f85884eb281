-- `list_attributes`: after i turns the list has the records of i attributes.
-- Assumes nothing.
use Rattle.std.proofs.Common.{suc, ◌+◌, ◌*◌, ◌≤◌, length, refl, sym, ◌∙◌, arith}
use Rattle.scope.specs.Verdict.{attribute_records}
use Rattle.items.specs.Rows.{rows_from, rows_of}
use Rattle.listed.specs.Listed.{lows}
use Rattle.buffer.proofs.Parts.{over-nil}
use Rattle.listed.proofs.Listed.{attribute-more}
use Rattle.listed.proofs.listing.list_attributes.Goals as goal

pub loop-i-init : goal.loop-i-init
unfolding rows_of rows_from lows attribute_records
loop-i-init c = let a = c.args in record { same_length = refl; listed = sym (over-nil a.list.now (a.records * 16)) }

pub loop-i-preserved : goal.loop-i-preserved
loop-i-preserved c = let a = c.args in
    let l = c.loop-i in
    let h : (a.records + suc l.i) * 16 ≤ length a.list.now = omega arith in record {
      same_length = omega arith;
      listed = c.put.ensures ∙ attribute-more a.list.now l.list a.attrs.now c.attribute_row.result a.records l.i h l.invariant.listed c.attribute_row.ensures;
    }
