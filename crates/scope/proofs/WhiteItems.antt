-- White space between items plays no part: a job, and the same job with white bytes put in at such a place, come alike to the operator that the place stands in, read it
-- alike, and from there on the same bytes.
-- Assumes nothing.
use Prim.Native.Nat.{ℕ, ◌+◌}
use mathlib.Core.Path.{◌≡◌, refl, sym, subst, subst₂}
use mathlib.Core.List.{List, [], ◌++◌}
use native.Mathlib.Omega.{arith}
use lib.ListN.{length, take, drop, length-append, take-append-drop}
use lib.Seq.{length-take-le}
use Rattle.scope.specs.Item.{Walk, spaces}
use Rattle.scope.specs.Reading.{Operator, operator_at}
use Rattle.scope.specs.Setting.{Setting}
use Rattle.scope.specs.Judge.{State, Outcome, context_of, judged_from}
use Rattle.scope.specs.Verdict.{every}
use Rattle.scope.specs.Runs.{read_at, onto}
use Rattle.scope.specs.Claims.{OperatorsMoved, put_in, moves, Gap, SameButShifted, WhiteBetweenItems}
use Rattle.scope.proofs.Says.{akin_refl, same_place, session-same, phase-same}
use Rattle.scope.proofs.Moved.{pairwise_listed}
use Rattle.scope.proofs.Alike.{LikeRead}
use Rattle.scope.proofs.Beside.{LikeState}
use Rattle.scope.proofs.Twice.{TwoEnds, both_end, first_ends, second_ends, two-judged}
use Rattle.scope.proofs.Sessions.{judged-past, reached-judged}
use Rattle.scope.proofs.White.{reached-before, reached-within, put-longer}
use Rattle.scope.proofs.Shift.{At, up-to_s}
use Rattle.scope.proofs.Gaps.{gap-place, On, at_gap, gap-read}

module _ (set : Setting) (u v blank : List ℕ) (all : spaces blank ≡ length blank) (room : ℕ) where
  abbrev s : List ℕ
  s = u ++ v

  abbrev t : List ℕ
  t = u ++ (blank ++ v)

  abbrev To : ℕ → ℕ → Type 0
  To = On u v blank all set.high

  abbrev Place : ℕ → ℕ → Type 0
  Place = At u v blank all

  abbrev St : State → State → Type 0
  St = LikeState every every (λ k _. refl) set set akin_refl s t To 0 0 0 0

  ends-shifted : Place (length s) (length t)
  ends-shifted =
      let e = length-append u v in
      let f = length-append u (blank ++ v) in
      let g = length-append blank v in
      let h : length s + length blank ≡ length t = omega arith in
      subst (Place (length s)) h (moves (up-to_s u v blank all))

  reads_both : (x y : State) → St x y → LikeRead set.high set.high s t Place To (read_at every set s x) (read_at every set t y)
  unfolding context_of
  reads_both x y l =
      subst (λ c. LikeRead set.high set.high s t Place To (read_at every set s x) (operator_at c t y.at))
      (λ i. record { set = set; phase = phase-same l.place i; opened = (session-same l.place i).opened; asked = every 17 })
      (gap-read u v blank all (context_of every set x.place) l.at)

  shifted_of : (before : List Operator) {os ps : List Operator} {e f : Outcome} → TwoEnds every every (λ k _. refl) set set akin_refl s t Place To 0 0 0 0 room room os ps e f
      → e.state.past ≡ onto os before → f.state.past ≡ onto ps before → SameButShifted (length u) (length blank) before e f
  shifted_of before (both_end k c d i m r) x y =
      record {
        code = c;
        position = d;
        inner = i;
        performed = omega arith;
        records = omega arith;
        listed = subst₂ (OperatorsMoved Place before before) (sym x) (sym y) (pairwise_listed k OperatorsMoved.start);
      }
  shifted_of before (first_ends c k d) x y = absurd (d (λ _. refl) refl refl refl)
  shifted_of before (second_ends c k d) x y = absurd (d (λ _. refl) refl refl refl)

  judged-shifted : (st : State) → Gap set.high s (length u) (record { at = st.at; attrs = [] })
      → SameButShifted (length u) (length blank) st.past (judged_from every set s room st) (judged_from every set t room st)
  judged-shifted st g =
      shifted_of st.past
      (two-judged every every (λ k _. refl) set set akin_refl s t Place To 0 0 0 0 room room ends-shifted reads_both st st
      (record { at = at_gap g; place = same_place; performed = refl; records = refl }))
      (judged-past every set s room st) (judged-past every set t room st)

pub white-between_items : WhiteBetweenItems
white-between_items set job blank work room p st hw hl all r g =
    let u = take p job in
    let v = drop p job in
    let e : u ++ v ≡ job = take-append-drop p job in
    let h = gap-place set.high job p g (reached-within set job room st r) in
    let k = put-longer p blank job in
    let lu : length u ≡ p = length-take-le p job h.1 in
    let there = reached-before set job blank room p st r h.0 h.1 in
    let w : Walk = record { at = st.at; attrs = [] } in
    let gap : Gap set.high (u ++ v) (length u) w = subst₂ (λ z n. Gap set.high z n w) (sym e) (sym lu) g in
    subst₂ (SameButShifted p (length blank) st.past) (sym (reached-judged set job work room st hw (omega arith) r)) (sym (reached-judged set (put_in p blank job) work room st hw hl there))
    (subst₂ (λ z n. SameButShifted n (length blank) st.past (judged_from every set z room st) (judged_from every set (put_in p blank job) room st)) e lu
    (judged-shifted set u v blank all room st gap))
