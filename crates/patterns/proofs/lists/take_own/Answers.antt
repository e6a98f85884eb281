-- `take_own`: a row without numbers, or 66 cells are copied.
-- Assumes nothing.
use Rattle.std.proofs.Common.{sym, ◌∙◌, arith, rules}
use borrow.Rule.Slice.PartMut.{put_mid}
use Rattle.pattern_rows.specs.Numbers.{OfMotif}
use Rattle.patterns.proofs.Cells.{in_none}
use Rattle.patterns.proofs.Copies.{Copied, copied_over, copied_row, copied_others, copied_selecting}
use Rattle.patterns.proofs.lists.take_own.Goals as goal

pub returns-then-own-eq0-clause-patterns_after : goal.returns-then-own-eq0-clause-patterns_after
returns-then-own-eq0-clause-patterns_after c = c.empty.ensures.row_after ∙ sym (in_none c.args.own.now 0 c.if-own-eq0.true)

pub returns : goal.returns
returns c =
    let t = c.args.patterns.now in
    let o = c.args.own.now in
    let w : Copied o 0 t 4356 66 (put_mid 4356 66 t c.copy_from_slice.new.self) = copied_over o t c.copy_from_slice.new.self 4356 c.copy_from_slice.ensures.after (search rules) (search rules) in
    record { patterns_after = copied_row 0 OfMotif w; others = copied_others 0 OfMotif w (omega arith); patterns_unchanged = copied_selecting 0 OfMotif w (omega arith) }
