-- What the code keeps of an arm, after an operator, after a call, and as a code.
use Prim.Native.Nat.{ℕ, zero, suc, ◌+◌, ◌<◌, ◌≤◌, max, min}
use native.Mathlib.Omega.{arith}
use native.Mathlib.Numerals.{add-one}
use native.Mathlib.Decide.{dec_le}
use mathlib.Core.Path.{◌≡◌, refl, sym, ap, ap₂, ◌∙◌}
use mathlib.Core.Bool.{Bool, true, false, not, ◌&&◌, ◌||◌}
use mathlib.Core.List.{List, [], ◌∷◌}
use lib.ListN.{length}
use lib.Dec.{leb, ltb}
use borrow.Author.Tests.{le-leb, lt-leb}
use Rattle.scope.specs.Choice.{pick}
use Rattle.scope.specs.Arm as scope
use Rattle.scope.specs.Arm.{Effect, push, pop, put, risen, done, clash, step, idle, Stroke, walk, from}
use Rattle.page.specs.declared.page.Act.{Act}
use Rattle.arm.specs.declared.seen.Seen.{Seen}
use Rattle.summary.specs.declared.summary.Summary.{Summary}
use Rattle.std.specs.Prelude.{Ok}
use Rattle.page.specs.Views.{page_as, act_as}
use Rattle.arm.specs.Codes.{code_of}
use Rattle.arm.specs.Holds.{Exact, Holds, Moves, moves_to}
use Rattle.summary.specs.Sums.{fresh, Ends, Sums}
use Rattle.arm.specs.Rows.{ends_at}
use Rattle.arm.proofs.Clean.{clean_code}
use Rattle.arm.proofs.Rows.{fresh-count}
use Rattle.arm.proofs.Ways.{rise, mixed, inst, or_false, walk-both, fresh-saved, none-zipped, within}
use Rattle.page.proofs.Pages.{page-eq}
use Rattle.page.proofs.Stacks.{depth-saved}

-- an effect notes at least what was noted, and the same of a page that is the same
risen-least : (e : Effect) (p : scope.Page) (m : ℕ) → m ≤ risen e p m
unfolding risen
risen-least push p m = omega arith
risen-least pop p m = omega arith
risen-least (put c g) p m = omega arith

risen-none : (e : Effect) (p : scope.Page) (m : ℕ) → risen e p 0 ≤ risen e p m
unfolding risen
risen-none push p m = omega arith
risen-none pop p m = omega arith
risen-none (put c g) p m = omega arith

-- past 24 the number saved does not matter
risen-past : (e : Effect) (p q : scope.Page) (m : ℕ) → (m ≤ 24 → p ≡ q) → min (risen e p m) 25 ≡ min (risen e q m) 25
unfolding risen
risen-past push p q m h = elim (dec_le m 24) [ yes l ↦ ap (λ (x : scope.Page). min (max m (suc (length x.saved))) 25) (h l) | no l ↦ omega arith ]
risen-past pop p q m h = refl
risen-past (put c g) p q m h = refl

-- an operator performed, as the code performs it
pub step-holds : (s r : Seen) (a : Act) (w : scope.Seen) → Holds s w
    → r.count ≡ min (w.count + 1) 1_000_001
    → r.most ≡ min (risen (act_as a).effect (page_as s.page) w.most) 25
    → r.source ≡ (s.source || a.source)
    → r.lost ≡ (s.lost || (a.cursor && not s.page.cursor))
    → r.wrong ≡ (s.wrong || clash (act_as a).space s.page.gray)
    → (risen (act_as a).effect (page_as s.page) 0 ≤ 24 → page_as r.page ≡ done (act_as a).effect (page_as s.page))
    → Holds r (step (act_as a) w)
unfolding step
step-holds s r a w h n m o l c p =
    record {
      count = rw (← add-one w.count) n;
      most = m ∙ risen-past (act_as a).effect (page_as s.page) w.page w.most (λ k. (h.exact k).page);
      source = rw (o, h.source) refl;
      exact = λ k.
          let e = (act_as a).effect in
          let x = risen-least e w.page w.most in
          let y = risen-none e w.page w.most in
          let t = h.exact (omega arith) in
          let z : risen e (page_as s.page) 0 ≤ 24 = rw t.page (omega arith) in
          record {
            page = p z ∙ ap (done e) t.page;
            lost = rw (l, t.lost, ap (λ (q : scope.Page). q.cursor) t.page) refl;
            wrong = rw (c, t.wrong, ap (λ (q : scope.Page). q.gray) t.page) refl;
          };
    }

-- the most states saved, after a call
called-most : (m d l a r : ℕ) → ((a ≡ 0 → r ≡ min m 25) × (0 < a → r ≡ min (max m (a + d)) 25)) → (m ≤ 24 → d ≡ l) → r ≡ min (max m (rise l a)) 25
called-most m d l zero r e h = let q = e.0 refl in omega arith
called-most m d l (suc a) r e h = let q = e.1 (omega arith) in elim (dec_le m 24) [ yes p ↦ (let s = h p in omega arith) | no p ↦ omega arith ]

rise-le : (l a n : ℕ) → rise l a ≤ n → a ≤ n
rise-le l zero n h = omega arith
rise-le l (suc a) n h = omega arith

-- what the code's call does, part by part
pub record Called (s : Seen) (m : Summary) (r : Seen) : Type 0 where
  pub page : r.page ≡ ends_at s.page m.a m.b
  pub source : r.source ≡ (s.source || m.source)
  pub lost : r.lost ≡ (s.lost || pick s.page.cursor m.a.lost m.b.lost)
  pub wrong : r.wrong ≡ (s.wrong || pick s.page.gray m.a.wrong m.b.wrong)

call-page : (s r : Seen) (m : Summary) (w a b : scope.Seen) → Called s m r → page_as s.page ≡ w.page → a.page.saved ≡ []
    → Ends m.a a → Ends m.b b → page_as r.page ≡ mixed a.page b.page w.page
unfolding mixed
call-page s r m w a b k t e u v =
    ap page_as k.page
    ∙ page-eq (rw (ap (λ (q : scope.Page). q.cursor) t, u.cursor, v.cursor) refl) (rw (ap (λ (q : scope.Page). q.gray) t, u.gray, v.gray) refl)
    (ap (λ (q : scope.Page). q.saved) t
    ∙ sym (none-zipped w.page.cursor w.page.gray a.page.saved b.page.saved w.page.saved e))

call-exact : (s r : Seen) (m : Summary) (w a b : scope.Seen) → Called s m r → Exact s w → a.page.saved ≡ [] → Ends m.a a → Ends m.b b → Exact r (inst a b (step idle w))
unfolding step inst
call-exact s r m w a b k t e u v =
    record {
      page = call-page s r m (step idle w) a b k (t.page ∙ unfold done in refl) e u v;
      lost = unfold done in rw (k.lost, t.lost, ap (λ (q : scope.Page). q.cursor) t.page, u.lost, v.lost, or_false w.lost) refl;
      wrong = unfold done in rw (k.wrong, t.wrong, ap (λ (q : scope.Page). q.gray) t.page, u.wrong, v.wrong, or_false w.wrong) refl;
    }

call-inst : (s r : Seen) (m : Summary) (w : scope.Seen) (row : List Stroke) → Holds s w → Sums m row
    → r.count ≡ min (w.count + 1 + length row) 1_000_001
    → (((walk row (fresh true)).most ≡ 0 → r.most ≡ min w.most 25)
    × (0 < (walk row (fresh true)).most → r.most ≡ min (max w.most ((walk row (fresh true)).most + s.page.depth)) 25))
    → Called s m r
    → Holds r (inst (walk row (fresh true)) (walk row (fresh false)) (step idle w))
unfolding step inst
call-inst s r m w row h k n o z =
    let a = walk row (fresh true) in
    let c : a.count ≡ length row = fresh-count row true in
    record {
      count = rw (c, ← add-one w.count) n;
      most = unfold done risen in called-most w.most s.page.depth (length w.page.saved) a.most r.most o (λ l. depth-saved s.page w.page (h.exact l).page);
      source = rw (z.source, h.source, k.source, or_false w.source) refl;
      exact = λ l.
          let l' : max w.most (rise (length w.page.saved) a.most) ≤ 24 = unfold done risen in l in
          let q : a.most ≤ 24 = rise-le (length w.page.saved) a.most 24 (omega arith) in
          call-exact s r m w a (walk row (fresh false)) z (h.exact (omega arith)) (fresh-saved row true k.balanced) (k.a q) (k.b q);
    }

-- a call performed, as the code performs it
pub call-holds : (s r : Seen) (m : Summary) (w : scope.Seen) (x : Stroke) (row : List Stroke) → Holds s w → x.act ≡ idle → Sums m row
    → r.count ≡ min (w.count + 1 + length row) 1_000_001
    → (((walk row (fresh true)).most ≡ 0 → r.most ≡ min w.most 25)
    × (0 < (walk row (fresh true)).most → r.most ≡ min (max w.most ((walk row (fresh true)).most + s.page.depth)) 25))
    → Called s m r
    → Holds r (walk (x ∷ row) w)
unfolding walk
call-holds s r m w x row h i k n o z = rw (i, walk-both row (step idle w) k.balanced) (call-inst s r m w row h k n o z)

-- the code, from what the code keeps
abbrev pub code_kept : (opened bare : Bool) → Seen → ℕ
code_kept o b s =
    pick (s.source && not o) 17
    (pick (leb 25 s.most) 23 (pick s.lost 24 (pick s.wrong 25 (pick b 34 (pick (leb 1_000_001 s.count) 26 0)))))

cap_same : (k m : ℕ) → leb k (min m k) ≡ leb k m
cap_same k m = elim (dec_le k m) [ yes p ↦ le-leb k (min m k) (omega arith) ∙ sym (le-leb k m p) | no p ↦ lt-leb k (min m k) (omega arith) ∙ sym (lt-leb k m (omega arith)) ]

pub code-kept : (o b : Bool) (s : Seen) (w : scope.Seen) → Holds s w → code_kept o b s ≡ code_of o b w
unfolding code_of
code-kept o b s w h = ap₂ (λ (a : Bool) (x : ℕ). pick (a && not o) 17 x) h.source rest
  where
    rest : pick {A = ℕ} (leb 25 s.most) 23 (pick s.lost 24 (pick s.wrong 25 (pick b 34 (pick (leb 1_000_001 s.count) 26 0))))
        ≡ pick {A = ℕ} (ltb 24 w.most) 23 (pick w.lost 24 (pick w.wrong 25 (pick b 34 (pick (ltb 1_000_000 w.count) 26 0))))
    rest =
        elim (dec_le w.most 24) [
          | yes p ↦ (let t = h.exact p in rw (h.most, cap_same 25 w.most, t.lost, t.wrong, h.count, cap_same 1_000_001 w.count) refl)
          | no p ↦ rw (h.most, le-leb 25 (min w.most 25) (omega arith), le-leb 25 w.most (omega arith)) refl
        ]

-- the answer where no rule was broken
pub answer-to : (o b : Bool) (s : Seen) (q : scope.Page) (n : ℕ) (row : List Stroke) → length q.saved ≤ 24 → Holds s (walk row (from q n))
    → code_of o b (walk row (from q n)) ≡ 0 → Moves o b (Ok (record { page = s.page; performed = s.count })) (walk row (from q n))
answer-to o b s q n row l h z =
    let k = clean_code o b (walk row (from q n)) z in
    let m : (walk row (from q n)).most ≤ 24 = k.most in
    let u : length (walk row (from q n)).page.saved ≤ max 24 (walk row (from q n)).most = within row (from q n) 24 (unfold from in omega arith) in
    let x : (walk row (from q n)).count ≤ 1_000_000 = k.count in
    let y : s.count ≡ min (walk row (from q n)).count 1_000_001 = h.count in
    let e : s.count ≡ (walk row (from q n)).count = omega arith in
    let f : length (walk row (from q n)).page.saved ≤ 24 = omega arith in
    moves_to z (record { same = (h.exact m).page; few = f }) e
