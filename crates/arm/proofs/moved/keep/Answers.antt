-- `keep`: the only rules that such an operator can break are 17, 24 and 26, as it selects no pattern, and the page stays.
-- Assumes nothing.
use Prim.Native.Nat.{ℕ, suc, ◌+◌, ◌≤◌, ◌<◌}
use mathlib.Core.Path.{◌≡◌, refl, sym, ap, ◌∙◌}
use mathlib.Core.Bool.{Bool, true, false, not, ◌&&◌}
use mathlib.Core.List.{[], ◌∷◌}
use native.Mathlib.Omega.{arith}
use native.Mathlib.Numerals.{add-one}
use lib.Dec.{ltb}
use borrow.Author.Tests.{lt-ltb, le-ltb}
use Rattle.scope.specs.Choice.{pick}
use Rattle.scope.specs.Arm as scope
use Rattle.scope.specs.Arm.{walk, step, from, done, risen, Stroke}
use Rattle.page.specs.Views.{keeping}
use Rattle.arm.specs.Codes.{code_of}
use Rattle.page.specs.Holds.{PageHolds}
use Rattle.arm.specs.Holds.{Moves, moves_to, moves_no}
use Rattle.page.specs.declared.page.Page.{Page}
use Rattle.std.specs.Prelude.{Ok, Err}
use Rattle.refusal.specs.declared.code.Code.TheVariants as code_is
use Rattle.arm.proofs.moved.keep.Goals as goal

module _ (opened s k : Bool) (q : scope.Page) (n : ℕ) (x : Stroke) (e : x.act ≡ keeping s k) where
  abbrev after : scope.Seen
  after = walk (x ∷ []) (from q n)

  code : code_of opened false after ≡ pick (s && not opened) 17 (pick (k && not q.cursor) 24 (pick (ltb 1_000_000 (suc n)) 26 0))
  unfolding code_of walk step from risen
  code = rw e refl

  refused-17 : (s && not opened) ≡ true → Moves opened false (Err code_is.Source) after
  refused-17 a = moves_no (sym (code ∙ rw a refl))

  module _ (a : (s && not opened) ≡ false) where
    refused-24 : (k && not q.cursor) ≡ true → Moves opened false (Err code_is.Cursor) after
    refused-24 b = moves_no (sym (code ∙ rw (a, b) refl))

    refused-26 : (k && not q.cursor) ≡ false → 1_000_000 ≤ n → Moves opened false (Err code_is.TooMany) after
    refused-26 b m = moves_no (sym (code ∙ rw (a, b, lt-ltb 1_000_000 (suc n) (omega arith)) refl))

    page-kept : {p : Page} → (k && not q.cursor) ≡ false → n < 1_000_000 → PageHolds p q → Moves opened false (Ok (record { page = p; performed = n + 1 })) after
    unfolding walk step from done
    page-kept {p} b m h =
        moves_to (code ∙ rw (a, b, le-ltb 1_000_000 (suc n) (omega arith)) refl) (rw e h) (add-one n)

-- the cursor of the page that the code's page is read as
cursor-in : (k : Bool) {p : Page} {q : scope.Page} {b : Bool} → PageHolds p q → b ≡ (k && not p.cursor) → (k && not q.cursor) ≡ b
cursor-in k h f = ap (λ (z : scope.Page). k && not z.cursor) (sym h.same) ∙ sym f

pub returns-then-not-opened : goal.returns-then-not-opened
returns-then-not-opened c q x h e = refused-17 _ _ _ q _ x e (grind arith)

pub returns-then-not-page : goal.returns-then-not-page
returns-then-not-page c q x h e = refused-24 _ _ _ q _ x e (grind arith) (cursor-in c.args.cursor h (grind arith))

pub returns-then-performed-ge-PERFORMED_MOST : goal.returns-then-performed-ge-PERFORMED_MOST
returns-then-performed-ge-PERFORMED_MOST c q x h e = refused-26 _ _ _ q _ x e (grind arith) (cursor-in c.args.cursor h (grind arith)) c.if-performed-ge-PERFORMED_MOST.true

pub returns : goal.returns
returns c q x h e = page-kept _ _ _ q _ x e (grind arith) (cursor-in c.args.cursor h (grind arith)) (omega (arith, c.if-performed-ge-PERFORMED_MOST.false)) h
