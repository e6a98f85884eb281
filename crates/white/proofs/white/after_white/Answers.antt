-- `after_white`: the end of the bytes, or a byte that is not white, is passed by nothing.
-- Assumes nothing.
use Rattle.std.proofs.Common.{sym, ◌∙◌}
use Rattle.white.proofs.Spaces.{after-black, after-end}
use Rattle.white.proofs.white.after_white.Goals.{else-at-s-via-then-at-s+else-is_white, else-at-s-via-else-at-s}
use Rattle.white.proofs.white.after_white.Goals as goal

pub returns : goal.returns
returns c = let a = c.args in elim c.else-at-s.branch [
  | else-at-s-via-then-at-s+else-is_white w ↦ sym (after-black a.s.now a.at w.if-at-s.true (sym w.is_white.ensures ∙ w.if-is_white.false))
  | else-at-s-via-else-at-s w ↦ sym (after-end _ _ w.if-at-s.false)
]
