-- Behind the two sessions: from states of two jobs that are the same but for the operators before them, at a place from which on the bytes are the same, the same
-- operators are performed, at the same places, and judging ends the same.
-- Assumes nothing.
use Prim.Native.Nat.{ℕ, ◌*◌, ◌≤◌}
use mathlib.Core.Path.{◌≡◌, refl, sym, subst}
use mathlib.Core.List.{List, [], ◌∷◌}
use native.Mathlib.Omega.{arith}
use lib.ListN.{length, drop}
use Rattle.scope.specs.Reading.{Operator, Read}
use Rattle.scope.specs.Setting.{Setting}
use Rattle.scope.specs.Judge.{State, Outcome}
use Rattle.scope.specs.Verdict.{every, told}
use Rattle.scope.specs.Runs.{read_at, Runs, here, Ends, Pairwise}
use Rattle.scope.specs.Claims.{Further}
use Rattle.scope.proofs.Runs.{runs_of}
use Rattle.scope.proofs.Says.{akin_refl, LikePlace, same_place}
use Rattle.scope.proofs.Like.{far-start, far-end}
use Rattle.scope.proofs.Records.{same-attributes, same-data}
use Rattle.scope.proofs.Twice.{operator-moved, TwoEnds, both_end, first_ends, second_ends, two_runs}
use Rattle.scope.proofs.Sessions.{F, reads_both}
use Rattle.scope.proofs.ExchangeRuns.{Op, Like, Along, runs-along, runs-hold}

module _ (set : Setting) (s t : List ℕ) (room : ℕ) (a b : State) (hp : a.at ≤ length s) (hq : b.at ≤ length t) (same_bytes : drop a.at s ≡ drop b.at t)
    (same_at : a.at ≡ b.at) (same-session : a.place ≡ b.place) (same-performed : a.performed ≡ b.performed) (same-records : a.records ≡ b.records) where
  abbrev At : ℕ → ℕ → Type 0
  At = Further a.at b.at

  abbrev On : ℕ → ℕ → Type 0
  On = F s t a b hp hq same_bytes set room room

  stays : (x y : ℕ) → At x y → x ≡ y
  stays x y h = let e = same_at in omega arith

  -- an operator that is read at the same place is the same
  same_op : {c d : Operator} → Op s t a b hp hq same_bytes set room room c d → c ≡ d
  same_op {c} {d} h =
      let m = operator-moved set.high set.high s t At On h in
      let p = stays c.at d.at m.at in
      let l = same-attributes At stays m.attrs in
      let f = same-data At stays m c.reads refl in
      let n = stays c.next d.next h.next.far in
      λ i. record { tag = m.tag i; at = p i; attrs = l i; reads = m.reads i; length = m.length i; first = f i; next = n i }

  same-ops : {os ps : List Operator} → Pairwise (Op s t a b hp hq same_bytes set room room) os ps → os ≡ ps
  same-ops Pairwise.none = refl
  same-ops (Pairwise.more h k) = let e = same_op h in let f = same-ops k in λ i. e i ∷ f i

  pub record Rest (os : List Operator) (e : Outcome) : Type 0 where
    pub outcome : Outcome
    pub last : State
    pub runs : Runs every set t room b os last
    pub ends : Ends every set t room last outcome
    pub same_told : told e ≡ told outcome

  like-start : Like s t a b hp hq same_bytes set room room a b
  like-start =
      record {
        at = far-start s t a.at b.at hp hq same_bytes;
        place = subst (LikePlace (read_at every set s a ≡ Read.ended → ⊥) a.place) same-session same_place;
        performed = omega arith;
        records = omega arith;
      }

  module _ (os : List Operator) (end : State) (e : Outcome) (run : Runs every set s room a os end) (ends_so : Ends every set s room end e)
      (count : a.performed ≤ 1_000_000) (fits : a.records * 16 ≤ room) where
    along : Along s t a b hp hq same_bytes set room room os end b
    along =
        let h = runs-hold set s room run count fits in
        let u = same-performed in
        let v = same-records in
        runs-along s t a b hp hq same_bytes set room room run like-start (omega (arith, h.0)) (omega (arith, h.1))

    by-ends : {ps : List Operator} {z : State} {f : Outcome}
        → TwoEnds every every (λ k _. refl) set set akin_refl s t At On a.performed b.performed a.records b.records room room [] ps e f
        → Runs every set t room along.last ps z → Ends every set t room z f → Rest os e
    by-ends {f = f} (both_end Pairwise.none c p i m r) here g =
        let q = stays e.position f.position p in
        let u = same-performed in
        let v = same-records in
        let mp : e.state.performed ≡ f.state.performed = omega arith in
        let mr : e.state.records ≡ f.state.records = omega arith in
        record {
          outcome = f;
          last = along.last;
          runs = subst (λ l. Runs every set t room b l along.last) (sym (same-ops along.like_ops)) along.runs;
          ends = g;
          same_told = λ j. record { code = c j; position = q j; inner = i j; records = mr j; performed = mp j };
        }
    by-ends (first_ends c k d) x g = absurd (d (λ _. refl) same-performed same-records refl)
    by-ends (second_ends c k d) x g = absurd (d (λ _. refl) same-performed same-records refl)

    pub rest : Rest os e
    rest =
        let c = runs_of every set t room along.last in
        by-ends
        (two_runs every every (λ k _. refl) set set akin_refl s t At On a.performed b.performed a.records b.records room room
        (far-end s t a.at b.at hp hq same_bytes).far (reads_both s t a b hp hq same_bytes set room room) along.like here ends_so c.runs c.ends)
        c.runs c.ends
