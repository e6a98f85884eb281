-- The byte order plays no part: a job, and a job in the other byte order whose items are the same, are judged side by side, operator by operator, at the same places.
-- Assumes nothing.
use Prim.Native.Nat.{ℕ, ◌≤◌}
use mathlib.Core.Path.{◌≡◌, refl, sym, ap, subst₂}
use mathlib.Core.List.{List, []}
use native.Mathlib.Omega.{arith}
use lib.ListN.{length}
use Rattle.scope.specs.Reading.{Operator, operator_at}
use Rattle.scope.specs.Setting.{Setting}
use Rattle.scope.specs.Judge.{State, Outcome, context_of, judged_from, starting}
use Rattle.scope.specs.Verdict.{every}
use Rattle.scope.specs.Runs.{read_at, onto, here}
use Rattle.scope.specs.Claims.{OperatorsMoved, Reached, ItemFrom, first, SameItem, SameOutcome, ByteOrder}
use Rattle.scope.proofs.Says.{Akin, same_place, session-same, phase-same}
use Rattle.scope.proofs.Moved.{pairwise_listed}
use Rattle.scope.proofs.Alike.{LikeRead}
use Rattle.scope.proofs.AlikeRead.{scanned-like}
use Rattle.scope.proofs.Beside.{LikeState}
use Rattle.scope.proofs.Twice.{TwoEnds, both_end, first_ends, second_ends, two-judged}
use Rattle.scope.proofs.Sessions.{judged-past, reached-judged}
use Rattle.scope.proofs.Turned.{On, item, scan_both}

module _ (set other : Setting) (akin : Akin set other) (s t : List ℕ) (start room : ℕ) (long : length s ≡ length t)
    (turned : (at : ℕ) → ItemFrom set.high s start at → SameItem set.high other.high s t at) where
  abbrev Place : ℕ → ℕ → Type 0
  Place x y = x ≡ y

  abbrev To : ℕ → ℕ → Type 0
  To = On set.high other.high s t start long turned

  abbrev St : State → State → Type 0
  St = LikeState every every (λ k _. refl) set other akin s t To 0 0 0 0

  reads_both : (x y : State) → St x y → LikeRead set.high other.high s t Place To (read_at every set s x) (read_at every other t y)
  unfolding context_of operator_at
  reads_both x y l =
      scanned-like (context_of every set x.place) (context_of every other y.place)
      (record { class = akin.class; phase = phase-same l.place; opened = ap (λ z. z.opened) (session-same l.place); asked = refl }) s t Place To
      (scan_both set.high other.high s t start long turned l.at)

  told_of : {os ps : List Operator} {e f : Outcome} → TwoEnds every every (λ k _. refl) set other akin s t Place To 0 0 0 0 room room os ps e f
      → e.state.past ≡ onto os [] → f.state.past ≡ onto ps [] → SameOutcome e f
  told_of (both_end k c d i m r) x y =
      record {
        code = c;
        position = d;
        inner = i;
        performed = omega arith;
        records = omega arith;
        listed = subst₂ (OperatorsMoved Place [] []) (sym x) (sym y) (pairwise_listed k OperatorsMoved.start);
      }
  told_of (first_ends c k d) x y = absurd (d (λ _. refl) refl refl refl)
  told_of (second_ends c k d) x y = absurd (d (λ _. refl) refl refl refl)

  judged-turned : SameOutcome (judged_from every set s room (starting start)) (judged_from every other t room (starting start))
  judged-turned =
      told_of
      (two-judged every every (λ k _. refl) set other akin s t Place To 0 0 0 0 room room long reads_both (starting start) (starting start)
      (record { at = item first; place = same_place; performed = refl; records = refl }))
      (judged-past every set s room (starting start)) (judged-past every other t room (starting start))

pub byte_order : ByteOrder
byte_order set other job turned work room next hw hl long class gray x y same =
    let a : Reached set job room (starting next) = record { next = next; header = x; before = []; runs = here } in
    let b : Reached other turned room (starting next) = record { next = next; header = y; before = []; runs = here } in
    let hl' : length turned ≤ 61440 = omega arith in
    subst₂ SameOutcome (sym (reached-judged set job work room (starting next) hw hl a)) (sym (reached-judged other turned work room (starting next) hw hl' b))
    (judged-turned set other (record { class = class; gray = gray }) job turned next room long same)
