-- A job in five parts, u x g y v: one session stands in x, the next in y, and between them white space g. Exchanged it is u y g x v, and the same holds of it: what
-- is performed before the two is performed as before, the second session from there on, the first one behind it, and from there on all goes on as it did.
-- Assumes nothing.
use Prim.Native.Nat.{ℕ, ◌+◌, ◌-◌, ◌*◌, ◌≤◌}
use mathlib.Core.Path.{◌≡◌, sym, ap, ◌∙◌, subst, subst⁻¹}
use mathlib.Core.Bool.{true}
use mathlib.Core.List.{List, ◌++◌, append_assoc}
use native.Mathlib.Omega.{arith}
use lib.ListN.{length, drop, length-append, length-drop}
use lib.Seq.{drop_at, drop-append-le}
use Rattle.scope.specs.Header.{header_of}
use Rattle.scope.specs.Item.{spaces, after as blackAfter}
use Rattle.scope.specs.Reading.{Operator}
use Rattle.scope.specs.Setting.{Setting, headed}
use Rattle.scope.specs.Judge.{State, Outcome, starting}
use Rattle.scope.specs.Verdict.{every, told}
use Rattle.scope.specs.Runs.{Runs, Ends, Pairwise}
use Rattle.scope.specs.Claims.{Further, OperatorMoved}
use Rattle.scope.specs.Exchange.{WholeSession, operators, starts, stops, second_moves, first_moves}
use Rattle.scope.proofs.Ends.{after-le}
use Rattle.scope.proofs.Runs.{runs_up, runs_grow}
use Rattle.scope.proofs.Moved.{operators-by}
use Rattle.scope.proofs.White.{shared_runs, shared_header}
use Rattle.scope.proofs.ExchangeEdges.{Performed, session-performed, white-of, white-over}
use Rattle.scope.proofs.ExchangeRuns.{runs-hold}
use Rattle.scope.proofs.ExchangeSession.{Carried, carried}
use Rattle.scope.proofs.ExchangeRest.{Rest, rest}

-- the five parts
module _ (u x g y v : List ℕ) where
  abbrev pub joined : List ℕ
  joined = u ++ (x ++ (g ++ (y ++ v)))

  pub up-to_second : joined ≡ ((u ++ x) ++ g) ++ (y ++ v)
  up-to_second = sym (append_assoc u x (g ++ (y ++ v))) ∙ sym (append_assoc (u ++ x) g (y ++ v))

  long-before : length ((u ++ x) ++ g) ≡ length u + length x + length g
  long-before = let e = length-append (u ++ x) g in let f = length-append u x in omega arith

  pub joined-long : length joined ≡ length u + length x + length g + length y + length v
  joined-long =
      let e = ap length up-to_second in let f = length-append ((u ++ x) ++ g) (y ++ v) in let h = length-append y v in let k = long-before in
      omega arith

  behind-first : (m : ℕ) → m ≡ length u + length x → drop m joined ≡ g ++ (y ++ v)
  behind-first m e =
      let f = length-append u x in
      ap (drop m) (sym (append_assoc u x (g ++ (y ++ v)))) ∙ drop_at (u ++ x) (g ++ (y ++ v)) m (omega arith)

  behind-second : (m : ℕ) → m ≡ length u + length x + length g + length y → drop m joined ≡ v
  behind-second m e =
      let f = length-append ((u ++ x) ++ g) y in let k = long-before in
      ap (drop m) (up-to_second ∙ sym (append_assoc ((u ++ x) ++ g) y v)) ∙ drop_at (((u ++ x) ++ g) ++ y) v m (omega arith)

-- the judging of such a job: its header, the operators before the two sessions, the two, those behind, and how it ends; and where the two stand
pub record Standing (set : Setting) (room : ℕ) (u x g y v : List ℕ) (before : List Operator) (first second : WholeSession) (later : List Operator) (e : Outcome) : Type 0 where
  pub next : ℕ
  pub header : header_of (joined u x g y v) ≡ headed set next
  pub from : State
  pub mid : State
  pub to : State
  pub last : State
  pub run_before : Runs every set (joined u x g y v) room (starting next) before from
  pub one : Runs every set (joined u x g y v) room from (operators first) mid
  pub two : Runs every set (joined u x g y v) room mid (operators second) to
  pub run_later : Runs every set (joined u x g y v) room to later last
  pub ends : Ends every set (joined u x g y v) room last e
  pub start_one : starts first ≡ length u
  pub stop_one : stops first ≡ length u + length x
  pub start_two : starts second ≡ length u + length x + length g
  pub stop_two : stops second ≡ length u + length x + length g + length y

module _ (set : Setting) (room : ℕ) (u x g y v : List ℕ) (before : List Operator) (first second : WholeSession) (later : List Operator) (e : Outcome)
    (S : Standing set room u x g y v before first second later e) where
  abbrev s : List ℕ
  s = joined u x g y v

  abbrev t : List ℕ
  t = joined u y g x v

  -- the exchanged job stands likewise
  pub record Swapped : Type 0 where
    pub second' : WholeSession
    pub first' : WholeSession
    pub outcome : Outcome
    pub standing : Standing set room u y g x v before second' first' later outcome
    pub same_told : told e ≡ told outcome
    pub second_moved : Pairwise (OperatorMoved (second_moves first second)) (operators second) (operators second')
    pub first_moved : Pairwise (OperatorMoved (first_moves first second)) (operators first) (operators first')

  one-is : Performed set s room S.from S.mid first
  one-is = session-performed set s room first S.one

  two_is : Performed set s room S.mid S.to second
  two_is = session-performed set s room second S.two

  -- 26 and 28 hold before the two, and behind them
  hold_from : (S.from.performed ≤ 1_000_000) × (S.from.records * 16 ≤ room)
  hold_from = runs-hold set s room S.run_before (omega arith) (omega arith)

  hold_to : (S.to.performed ≤ 1_000_000) × (S.to.records * 16 ≤ room)
  hold_to =
      let h = runs-hold set s room S.one hold_from.0 hold_from.1 in
      runs-hold set s room S.two h.0 h.1

  -- before the two
  from_up : S.from.at ≤ length u
  from_up = let h = after-le set.high s S.from.at in let k = one-is.from_white in let l = S.start_one in omega arith

  before-t : Runs every set t room (starting S.next) before S.from
  before-t = shared_runs u (x ++ (g ++ (y ++ v))) (y ++ (g ++ (x ++ v))) set room S.run_before from_up

  header-t : header_of t ≡ headed set S.next
  header-t =
      let h = runs_up every set s room S.run_before in
      let k = from_up in
      shared_header u (x ++ (g ++ (y ++ v))) (y ++ (g ++ (x ++ v))) set.class set.high S.next S.header (omega arith)

  -- the white space before the two, and the one between them, is passed over in both jobs
  white-before : blackAfter t S.from.at ≡ blackAfter t (length u)
  white-before =
      let m = S.from.at in
      let w = drop m u in
      let lw = length-drop m u in
      let h = from_up in
      let k = one-is.from_white in
      let l = S.start_one in
      let all = white-of s m w (x ++ (g ++ (y ++ v))) (drop-append-le m u (x ++ (g ++ (y ++ v))) h) (omega arith) in
      let to-u : m + length w ≡ length u = omega arith in
      white-over t m w (y ++ (g ++ (x ++ v))) (drop-append-le m u (y ++ (g ++ (x ++ v))) h) all ∙ ap (blackAfter t) to-u

  gap-white : spaces g ≡ length g
  gap-white =
      let m = S.mid.at in
      let a = one-is.to_place in
      let b = S.stop_one in
      let c = two_is.from_white in
      let d = S.start_two in
      white-of s m g (y ++ v) (behind-first u x g y v m (a ∙ b)) (omega arith)

  -- the second session, in the place of the first
  two-there : Runs every set (((u ++ x) ++ g) ++ (y ++ v)) room S.mid (operators second) S.to
  two-there = subst (λ z. Runs every set z room S.mid (operators second) S.to) (up-to_second u x g y v) S.two

  carry_two : Carried set room ((u ++ x) ++ g) u y v (g ++ (x ++ v)) second S.mid S.to S.from
  carry_two =
      let h = hold_to in
      let k = runs_grow every set s room S.one in
      let l = long-before u x g y v in
      let a = S.start_two in
      let b = S.stop_two in
      carried set room ((u ++ x) ++ g) u y v (g ++ (x ++ v)) second S.mid S.to S.from one-is.after_one two-there (omega arith) (omega arith) one-is.from_outside
      white-before (omega (arith, h.0, k.0)) (omega (arith, h.1, k.1))

  abbrev mid' : State
  mid' = carry_two.last

  mid-is : Performed set t room S.from mid' carry_two.other
  mid-is = session-performed set t room carry_two.other carry_two.runs

  mid_at : mid'.at ≡ length u + length y
  mid_at = mid-is.to_place ∙ carry_two.stop

  -- the first session, behind it
  abbrev t₁ : List ℕ
  t₁ = ((u ++ y) ++ g) ++ (x ++ v)

  t-is : t ≡ t₁
  t-is = up-to_second u y g x v

  white-mid : blackAfter t₁ mid'.at ≡ blackAfter t₁ (length ((u ++ y) ++ g))
  white-mid =
      let k = long-before u y g x v in
      let l = mid_at in
      let to-g : mid'.at + length g ≡ length ((u ++ y) ++ g) = omega arith in
      subst (λ z. blackAfter z mid'.at ≡ blackAfter z (length ((u ++ y) ++ g))) t-is
      (white-over t mid'.at g (x ++ v) (behind-first u y g x v mid'.at l) gap-white ∙ ap (blackAfter t) to-g)

  carry_one : Carried set room u ((u ++ y) ++ g) x (g ++ (y ++ v)) v first S.from S.mid mid'
  carry_one =
      let h = hold_to in
      let k = carry_two.performed in
      let l = carry_two.records in
      carried set room u ((u ++ y) ++ g) x (g ++ (y ++ v)) v first S.from S.mid mid' true S.one S.start_one S.stop_one mid-is.to_outside
      white-mid (omega (arith, h.0)) (omega (arith, h.1))

  abbrev to' : State
  to' = carry_one.last

  one-t : Runs every set t room mid' (operators carry_one.other) to'
  one-t = subst⁻¹ (λ z. Runs every set z room mid' (operators carry_one.other) to') t-is carry_one.runs

  to_is : Performed set t room mid' to' carry_one.other
  to_is = session-performed set t room carry_one.other one-t

  -- behind the two all is as it was
  to_at : S.to.at ≡ length u + length x + length g + length y
  to_at = two_is.to_place ∙ S.stop_two

  to-at' : to'.at ≡ length u + length y + length g + length x
  to-at' = let a = to_is.to_place in let b = carry_one.stop in let k = long-before u y g x v in omega arith

  behind : Rest set s t room S.to to'
      (let a = to_at in let l = joined-long u x g y v in omega arith) (let a = to-at' in let l = joined-long u y g x v in omega arith)
      (behind-second u x g y v S.to.at to_at ∙ sym (behind-second u y g x v to'.at to-at')) (let a = to_at in let b = to-at' in omega arith)
      (two_is.to_outside ∙ sym to_is.to_outside) (let a = carry_two.performed in let b = carry_one.performed in omega arith)
      (let a = carry_two.records in let b = carry_one.records in omega arith) later e
  behind = rest set s t room S.to to' _ _ _ _ _ _ _ later S.last e S.run_later S.ends hold_to.0 hold_to.1

  -- both have moved by the change of place
  second-there : Pairwise (OperatorMoved (second_moves first second)) (operators second) (operators carry_two.other)
  second-there =
      operators-by (Further (length ((u ++ x) ++ g)) (length u)) (second_moves first second)
      (λ m n h. let k = long-before u x g y v in let a = S.start_one in let b = S.start_two in omega arith) carry_two.moved

  first-there : Pairwise (OperatorMoved (first_moves first second)) (operators first) (operators carry_one.other)
  first-there =
      operators-by (Further (length u) (length ((u ++ y) ++ g))) (first_moves first second)
      (λ m n h. let k = long-before u y g x v in let a = S.stop_one in let b = S.stop_two in omega arith) carry_one.moved

  pub swapped : Swapped
  swapped =
      record {
        second' = carry_two.other;
        first' = carry_one.other;
        outcome = behind.outcome;
        standing = record {
          next = S.next;
          header = header-t;
          from = S.from;
          mid = mid';
          to = to';
          last = behind.last;
          run_before = before-t;
          one = carry_two.runs;
          two = one-t;
          run_later = behind.runs;
          ends = behind.ends;
          start_one = carry_two.start;
          stop_one = carry_two.stop;
          start_two = carry_one.start ∙ long-before u y g x v;
          stop_two = (let a = carry_one.stop in let k = long-before u y g x v in omega arith);
        };
        same_told = behind.same_told;
        second_moved = second-there;
        first_moved = first-there;
      }
