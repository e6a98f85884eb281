-- Code 0 is given exactly if no rule was seen broken.
use Prim.Native.Nat.{ℕ, ◌≤◌}
use native.Mathlib.Omega.{arith}
use mathlib.Core.Path.{◌≡◌, refl}
use mathlib.Core.Bool.{Bool, true, false, not, ◌&&◌}
use lib.Dec.{ltb}
use borrow.Author.Tests.{ltb-false, le-ltb}
use Rattle.scope.specs.Choice.{pick}
use Rattle.scope.specs.Arm.{Seen}
use Rattle.arm.specs.Codes.{code_of}

-- no rule was seen broken, and no pattern is missing
pub record Clean (opened bare : Bool) (w : Seen) : Type 0 where
  pub source : (w.source && not opened) ≡ false
  pub most : w.most ≤ 24
  pub lost : w.lost ≡ false
  pub wrong : w.wrong ≡ false
  pub there : bare ≡ false
  pub count : w.count ≤ 1_000_000

pub code-clean : (o p : Bool) (w : Seen) → Clean o p w → code_of o p w ≡ 0
unfolding code_of
code-clean o p w h = rw (h.source, le-ltb 24 w.most h.most, h.lost, h.wrong, h.there, le-ltb 1_000_000 w.count h.count)

pub clean_code : (o p : Bool) (w : Seen) → code_of o p w ≡ 0 → Clean o p w
unfolding code_of
clean_code o p w e = go (w.source && not o) (ltb 24 w.most) w.lost w.wrong p (ltb 1_000_000 w.count) refl refl refl refl refl refl e
  where
    go : (a b c d g f : Bool) → (w.source && not o) ≡ a → ltb 24 w.most ≡ b → w.lost ≡ c → w.wrong ≡ d → p ≡ g → ltb 1_000_000 w.count ≡ f
        → ◌≡◌ {A = ℕ} (pick a 17 (pick b 23 (pick c 24 (pick d 25 (pick g 34 (pick f 26 0)))))) 0 → Clean o p w
    go true b c d g f i j k l m n e = absurd (omega arith)
    go false true c d g f i j k l m n e = absurd (omega arith)
    go false false true d g f i j k l m n e = absurd (omega arith)
    go false false false true g f i j k l m n e = absurd (omega arith)
    go false false false false true f i j k l m n e = absurd (omega arith)
    go false false false false false true i j k l m n e = absurd (omega arith)
    go false false false false false false i j k l m n e =
        record { source = i; most = ltb-false 24 w.most j; lost = k; wrong = l; there = m; count = ltb-false 1_000_000 w.count n }
