-- `list_alone`: one record, at its place.
-- Assumes nothing.
use Rattle.std.proofs.Common.{◌*◌, ap, ◌∙◌}
use Rattle.scope.specs.Verdict.{attribute_records}
use Rattle.buffer.specs.Over.{over}
use Rattle.listed.specs.Listed.{records_for}
use Rattle.listed.proofs.listing.list_alone.Goals as goal

pub returns-clause-list_after : goal.returns-clause-list_after
unfolding records_for attribute_records
returns-clause-list_after c = let a = c.args in c.put.ensures ∙ ap (over a.list.now (a.records * 16)) c.operator_row-bytes.ensures
