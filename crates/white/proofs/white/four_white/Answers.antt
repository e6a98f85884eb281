-- `four_white`: four bytes whose number is that of four white ones are these.
-- Assumes nothing.
use Rattle.std.proofs.Common.{ℕ, refl, sym, ◌∙◌, ◌+◌, ◌<◌, get_or, arith}
use borrow.Author.Tests.{eqb-true}
use Rattle.scope.specs.Item.{white}
use Rattle.white.proofs.Spaces.{after-four, all-20, all-00}
use Rattle.white.proofs.white.four_white.Goals as goal

pub returns-then-word-eq538976288 : goal.returns-then-word-eq538976288
unfolding white
returns-then-word-eq538976288 c = let a = c.args in
    let p = a.p in
    let b : (i : ℕ) → get_or a.s.now i 0 < 256 = λ i. omega (arith, c.type_inv.s i) in
    λ _. record {
      within = omega arith;
      white = after-four a.s.now p 0x20 (omega arith) refl
          (all-20 _ _ _ _ (b p) (b (p + 1)) (b (p + 2)) (b (p + 3)) (sym c.from_le_bytes-word.ensures ∙ c.if-word-eq538976288.true));
    }

pub returns-else-word-eq538976288 : goal.returns-else-word-eq538976288
unfolding white
returns-else-word-eq538976288 c = let a = c.args in
    let p = a.p in
    let b : (i : ℕ) → get_or a.s.now i 0 < 256 = λ i. omega (arith, c.type_inv.s i) in
    λ e. record {
      within = omega arith;
      white = after-four a.s.now p 0x00 (omega arith) refl
          (all-00 _ _ _ _ (b p) (b (p + 1)) (b (p + 2)) (b (p + 3)) (sym c.from_le_bytes-word.ensures ∙ eqb-true _ _ e));
    }
