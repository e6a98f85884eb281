-- `item_at`: a byte from 0x41 on is not white.
-- Assumes nothing.
use Prim.Native.Nat.{ℕ, ◌≤◌}
use mathlib.Core.Path.{◌≡◌, sym}
use mathlib.Core.Bool.{false}
use native.Mathlib.Omega.{arith}
use borrow.Author.Tests.{le-leb, lt-leb, ne_eqb}
use Rattle.scope.specs.Item.{white}
use Rattle.white.proofs.Spaces.{after-black}
use Rattle.running.proofs.running.item_at.Goals as goal

black : (b : ℕ) → 0x41 ≤ b → white b ≡ false
unfolding white
black b h = rw (ne_eqb b 0x00 (λ e. omega arith), le-leb 0x09 b (omega arith), lt-leb b 0x0d (omega arith), ne_eqb b 0x20 (λ e. omega arith))

pub returns-then-job-at-ge65 : goal.returns-then-job-at-ge65
returns-then-job-at-ge65 c = (sym (after-black c.args.job.now c.args.at c.requires (black _ c.if-job-at-ge65.true)), c.requires)
