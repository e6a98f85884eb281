-- A run in one job is a run in another whose bytes from there on are the same: from states that are the same but for their places in the bytes and for what went
-- before, the same operators are read, and the rules say the same of them but for 26 and 28. Those two say nothing where the numbers at the end still hold.
-- Assumes nothing.
use Prim.Native.Nat.{ℕ, ◌+◌, ◌*◌, ◌≤◌}
use mathlib.Core.Path.{◌≡◌, refl, sym, ap, ◌∙◌, subst}
use mathlib.Core.List.{List, [], ◌∷◌}
use native.Mathlib.Omega.{arith}
use borrow.Author.Tests.{le-ltb}
use lib.ListN.{length, drop}
use Rattle.scope.specs.Reading.{Operator, Read}
use Rattle.scope.specs.Setting.{Setting}
use Rattle.scope.specs.Judge.{State, Case, Refusal, case_of, limits, rules, first_broken, count_over, room_over, after}
use Rattle.scope.specs.Verdict.{every}
use Rattle.scope.specs.Claims.{Further}
use Rattle.scope.specs.Runs.{read_at, case_at, next, Performs, Runs, here, then, Pairwise}
use Rattle.scope.proofs.Broken.{or_else, first-none}
use Rattle.scope.proofs.Codes.{none-layout, layout-none, none-fits, none-clean}
use Rattle.scope.proofs.Runs.{runs_grow}
use Rattle.scope.proofs.Says.{akin_refl, session-same, LikeCase, broken-is, before-like, case_like}
use Rattle.scope.proofs.Alike.{LikeOp, LikeRead}
use Rattle.scope.proofs.Beside.{next_like}
use Rattle.scope.proofs.Sessions.{F, St, reads_both}

-- what is performed keeps to 26 and 28
module _ (set : Setting) (s : List ℕ) (room : ℕ) where
  performs-hold : (st : State) (o : Operator) → Performs every set s room st o → ((next set s st o).performed ≤ 1_000_000) × ((next set s st o).records * 16 ≤ room)
  unfolding after
  performs-hold st o p =
      let c = case_at set s st o in
      let k = none-clean room c (sym (layout-none room c (none-layout room c p.kept)) ∙ p.kept) in
      (k.count, none-fits room c p.kept)

  pub runs-hold : {a b : State} {os : List Operator} → Runs every set s room a os b → a.performed ≤ 1_000_000 → a.records * 16 ≤ room
      → (b.performed ≤ 1_000_000) × (b.records * 16 ≤ room)
  runs-hold here h k = (h, k)
  runs-hold (then {a = a} {o = o} p r) h k = let l = performs-hold a o p in runs-hold r l.0 l.1

-- what the rules do not refuse in one job they do not in the other, where its numbers hold
kept-along : (room space : ℕ) {m n r q : ℕ} {c d : Case} → LikeCase m n r q c d → first_broken every c (rules room) ≡ Refusal.none → d.seen.count ≤ 1_000_000
    → d.records * 16 ≤ space → first_broken every d (rules space) ≡ Refusal.none
unfolding first_broken limits count_over room_over
kept-along room space {c = c} {d = d} h e f g =
    broken-is every space d
    ∙ ap (λ x. or_else x (first_broken every d (limits space)))
    (sym (before-like h every every (λ _ _. refl)) ∙ first-none _ _ (sym (broken-is every room c) ∙ e))
    ∙ rw (le-ltb 1_000_000 d.seen.count f, le-ltb space (d.records * 16) g) refl

-- from a in s and from b in t on the bytes are the same
module _ (s t : List ℕ) (a b : State) (hp : a.at ≤ length s) (hq : b.at ≤ length t) (same_bytes : drop a.at s ≡ drop b.at t) (set : Setting) (room space : ℕ) where
  abbrev pub Op : Operator → Operator → Type 0
  Op = LikeOp set.high set.high s t (Further a.at b.at) (F s t a b hp hq same_bytes set room space)

  abbrev pub Like : State → State → Type 0
  Like = St s t a b hp hq same_bytes set room space

  -- the run in t, operator by operator, to a state that is the same in that sense
  pub record Along (os : List Operator) (end y : State) : Type 0 where
    pub ops : List Operator
    pub last : State
    pub runs : Runs every set t space y ops last
    pub like_ops : Pairwise Op os ops
    pub like : Like end last

  record Found (y : State) (o : Operator) : Type 0 where
    other : Operator
    reads : read_at every set t y ≡ Read.operator other
    says : Op o other

  found : (y : State) (o : Operator) {r : Read}
      → LikeRead set.high set.high s t (Further a.at b.at) (F s t a b hp hq same_bytes set room space) (Read.operator o) r → read_at every set t y ≡ r → Found y o
  found y o (LikeRead.operator {b = c} h) e = record { other = c; reads = e; says = h }

  pub runs-along : {x end y : State} {os : List Operator} → Runs every set s room x os end → Like x y → end.performed + b.performed ≤ 1_000_000 + a.performed
      → (end.records + b.records) * 16 ≤ space + a.records * 16 → Along os end y
  unfolding after case_of
  runs-along {y} here l h k = record { ops = []; last = y; runs = here; like_ops = Pairwise.none; like = l }
  runs-along {end = end} {y = y} (then {a = x} {o = o} p rest) l h k =
      let f = found y o (subst (λ z. LikeRead set.high set.high s t (Further a.at b.at) (F s t a b hp hq same_bytes set room space) z (read_at every set t y)) p.reads
      (reads_both s t a b hp hq same_bytes set room space x y l)) refl in
      let z = f.says.says in
      let c = case_like set set akin_refl s t o f.other z x y (session-same l.place) in
      let g = runs_grow every set s room rest in
      let m = next_like every every (λ k _. refl) set set akin_refl s t (F s t a b hp hq same_bytes set room space) a.performed b.performed a.records b.records x y o f.other l z f.says.next in
      let u = m.performed in
      let v = m.records in
      let kept : first_broken every (case_at set t y f.other) (rules space) ≡ Refusal.none = kept-along room space c p.kept (omega (arith, g.0)) (omega (arith, g.1)) in
      let j = runs-along rest m h k in
      record { ops = f.other ∷ j.ops; last = j.last; runs = then (record { reads = f.reads; kept = kept }) j.runs; like_ops = Pairwise.more f.says j.like_ops; like = j.like }
