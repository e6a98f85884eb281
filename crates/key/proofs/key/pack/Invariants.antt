-- Byte by byte, and each byte is one digit more.
use Rattle.std.proofs.Common.{◌≡◌, ◌^◌, ◌<◌}
use Rattle.key.specs.Keys.{packed}
use Rattle.key.proofs.key.pack.Given as goal

abbrev pub invariant-loop-i : goal.invariant-loop-i
invariant-loop-i l = record { value : l.v ≡ packed l.s l.from l.i; fits : l.v < 256 ^ l.i }
