-- Byte by byte, and each byte is one digit more.
-- Assumes nothing.
use Rattle.std.proofs.Common.{◌^◌, ◌≤◌, refl, arith, add-one}
use native.Mathlib.Nat.{pow-suc}
use Rattle.key.proofs.Packs.{pow_seven}
use Rattle.key.specs.Keys.{packed}
use Rattle.key.proofs.key.pack.Goals as goal

pub loop-i-init : goal.loop-i-init
unfolding packed
loop-i-init c = record { value = refl; fits = omega arith }

pub overflow_mul-v : goal.overflow_mul-v
overflow_mul-v c = let l = c.loop-i in let m : 256 ^ l.i ≤ 256 ^ 7 = pow_seven l.i (omega arith) in omega arith

pub overflow_add-v : goal.overflow_add-v
overflow_add-v c = let l = c.loop-i in let m : 256 ^ l.i ≤ 256 ^ 7 = pow_seven l.i (omega arith) in omega arith

pub loop-i-preserved : goal.loop-i-preserved
unfolding packed
loop-i-preserved c = let l = c.loop-i in record {
  value = rw (add-one l.i, ← l.invariant.value, c.from.ensures, c.byte_at.ensures) refl;
  fits = rw (add-one l.i, pow-suc) (omega arith);
}
