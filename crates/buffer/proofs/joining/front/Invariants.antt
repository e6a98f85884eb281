-- `front`: after i turns dst is the first i bytes of the block and the rest.
use Rattle.std.proofs.Common.{◌≡◌, ◌++◌, length, take, drop}
use Rattle.buffer.proofs.joining.front.Given as goal

abbrev pub invariant-loop-i : goal.invariant-loop-i
invariant-loop-i l = (length l.dst ≡ length l.initial.dst) × (l.dst ≡ take l.i l.block ++ drop l.i l.initial.dst)
