-- A row of operators that leave the page as it is: what the arm has seen after it. Only the count grows, and a cursor that one of them needs may be missing.
-- Assumes nothing.
use Prim.Native.Nat.{ℕ, suc, ◌+◌, min}
use native.Mathlib.Omega.{arith}
use mathlib.Core.Path.{◌≡◌, refl, sym, ap, ◌∙◌}
use mathlib.Core.Bool.{Bool, true, false, not, ◌&&◌, ◌||◌}
use mathlib.Core.List.{List, [], ◌∷◌, ◌++◌}
use lib.ListN.{length, length-append}
use Rattle.scope.specs.Arm as scope
use Rattle.scope.specs.Arm.{done, risen, step, walk, Stroke}
use Rattle.arm.specs.declared.seen.Seen.{Seen}
use Rattle.page.specs.Views.{page_as, keeping}
use Rattle.arm.specs.Holds.{Holds}
use Rattle.arm.specs.Rows.{Kept, kept_none, kept_more}
use Rattle.arm.proofs.Rows.{walk-append}
use Rattle.arm.proofs.Ways.{or_false}

-- the arm after n such operators
abbrev after : (cursor : Bool) → ℕ → scope.Seen → scope.Seen
after c n w =
    record { page = w.page; count = w.count + n; most = w.most; source = w.source; lost = w.lost || (c && not w.page.cursor); wrong = w.wrong; wants = w.wants }

lost-more : (l c d n : Bool) → ((l || (c && n)) || (d && n)) ≡ (l || ((c || d) && n))
lost-more true c d n = refl
lost-more false true d true = refl
lost-more false true true false = refl
lost-more false true false false = refl
lost-more false false d n = refl

-- one more
step_after : (c d : Bool) (n : ℕ) (w : scope.Seen) → step (keeping false d) (after c n w) ≡ after (c || d) (n + 1) w
unfolding step done risen
step_after c d n w =
    let e : suc (w.count + n) ≡ w.count + (n + 1) = omega arith in
    λ i. record {
      page = w.page;
      count = e i;
      most = w.most;
      source = or_false w.source i;
      lost = lost-more w.lost c d (not w.page.cursor) i;
      wrong = or_false w.wrong i;
      wants = w.wants;
    }

none_after : (w : scope.Seen) → w ≡ after false 0 w
none_after w =
    let e : w.count ≡ w.count + 0 = omega arith in
    λ i. record { page = w.page; count = e i; most = w.most; source = w.source; lost = sym (or_false w.lost) i; wrong = w.wrong; wants = w.wants }

kept-walk : {c : Bool} {row : List Stroke} → Kept c row → (w : scope.Seen) → walk row w ≡ after c (length row) w
unfolding walk
kept-walk kept_none w = none_after w
kept-walk (kept_more {c = c} {d = d} {row = row} x k e) w =
    let n : length row + 1 ≡ length (row ++ (x ∷ [])) = simp length-append in
    walk-append row (x ∷ []) w ∙ ap (step x.act) (kept-walk k w) ∙ ap (λ a. step a (after c (length row) w)) e ∙ step_after c d (length row) w
    ∙ ap (λ m. after (c || d) m w) n

-- what the code keeps of it
pub keep_holds : (s r : Seen) (c : Bool) (row : List Stroke) (w : scope.Seen) → Holds s w → Kept c row → r.page ≡ s.page
    → r.count ≡ min (w.count + length row) 1_000_001 → r.most ≡ s.most → r.source ≡ s.source → r.lost ≡ (s.lost || (c && not s.page.cursor))
    → r.wrong ≡ s.wrong → Holds r (walk row w)
keep_holds s r c row w h k p n m o l x =
    rw (kept-walk k w)
    (record {
      count = n;
      most = m ∙ h.most;
      source = o ∙ h.source;
      exact = λ f.
          let t = h.exact f in
          record {
            page = ap page_as p ∙ t.page;
            lost = rw (l, t.lost, ap (λ (q : scope.Page). q.cursor) t.page) refl;
            wrong = x ∙ t.wrong;
          };
    })
