-- Request 14: two neighbouring whole sessions of a job change places. The job is cut into five parts, at the starts and stops of the two; what it lists is a run,
-- which has the two sessions as parts, so that ExchangeParts says the rest.
-- Assumes nothing.
use Prim.Native.Nat.{ℕ, ◌+◌, ◌-◌, ◌≤◌}
use mathlib.Core.Path.{◌≡◌, sym, ap, ◌∙◌, subst}
use mathlib.Core.Bool.{Bool}
use mathlib.Core.List.{List, [], ◌++◌}
use native.Mathlib.Omega.{arith}
use lib.ListN.{length, take, drop, length-drop, take-append-drop}
use lib.Seq.{length-take-le, drop-drop}
use Rattle.scope.specs.Reading.{Operator}
use Rattle.scope.specs.Setting.{Setting}
use Rattle.scope.specs.Judge.{Outcome, judged_from, starting}
use Rattle.scope.specs.Verdict.{every, told, outcome_of, verdict_of}
use Rattle.scope.specs.Runs.{Runs, here, Pairwise}
use Rattle.scope.specs.Claims.{OperatorMoved}
use Rattle.scope.specs.Exchange.{Lists, WholeSession, operators, starts, stops, part, second_moves, first_moves, Exchange, Exchanged}
use Rattle.scope.proofs.Runs.{comes-judged, runs_append, runs_past, ends-state}
use Rattle.scope.proofs.Sessions.{reached-judged}
use Rattle.scope.proofs.ExchangeParts.{joined, joined-long, Standing, Swapped, swapped}
use Rattle.scope.proofs.ExchangeListed.{LetIn, setting, whole, outcome-is, entered, two_runs, InOrder, in_order}

-- a job in five parts, and what comes of exchanging the second and the fourth
pub record PartsExchange (gray : Bool) (work room : ℕ) (u x g y v : List ℕ) (before : List Operator) (first second : WholeSession) (later : List Operator) : Type 0 where
  pub verdict : verdict_of gray (joined u y g x v) work room ≡ verdict_of gray (joined u x g y v) work room
  pub second' : WholeSession
  pub first' : WholeSession
  pub listed : Lists gray (joined u y g x v) work room (before ++ (operators second' ++ (operators first' ++ later)))
  pub second_moved : Pairwise (OperatorMoved (second_moves first second)) (operators second) (operators second')
  pub first_moved : Pairwise (OperatorMoved (first_moves first second)) (operators first) (operators first')
  pub start_second : starts second' ≡ length u
  pub stop_second : stops second' ≡ length u + length y
  pub start_first : starts first' ≡ length u + length y + length g
  pub stop_first : stops first' ≡ length u + length y + length g + length x

module _ (gray : Bool) (work room : ℕ) (u x g y v : List ℕ) (before : List Operator) (first second : WholeSession) (later : List Operator)
    (listed : Lists gray (joined u x g y v) work room (before ++ (operators first ++ (operators second ++ later)))) (start_one : starts first ≡ length u)
    (stop_one : stops first ≡ length u + length x) (start_two : starts second ≡ length u + length x + length g)
    (stop_two : stops second ≡ length u + length x + length g + length y) where
  abbrev s : List ℕ
  s = joined u x g y v

  abbrev t : List ℕ
  t = joined u y g x v

  abbrev inside : LetIn s work
  inside = entered gray s work room before first second later listed

  abbrev here-set : Setting
  here-set = setting gray s work room inside

  abbrev e : Outcome
  e = judged_from every here-set s room (starting inside.next)

  standing : Standing here-set room u x g y v before first second later e
  standing =
      let r = two_runs gray s work room before first second later listed in
      record {
        next = inside.next;
        header = inside.header;
        from = r.from;
        mid = r.mid;
        to = r.to;
        last = (whole gray s work room inside).last;
        run_before = r.run_before;
        one = r.one;
        two = r.two;
        run_later = r.run_later;
        ends = (whole gray s work room inside).ends;
        start_one = start_one;
        stop_one = stop_one;
        start_two = start_two;
        stop_two = stop_two;
      }

  done : Swapped here-set room u x g y v before first second later e standing
  done = swapped here-set room u x g y v before first second later e standing

  t-runs : Runs every here-set t room (starting done.standing.next) (before ++ (operators done.second' ++ (operators done.first' ++ later))) done.standing.last
  t-runs =
      let T = done.standing in
      runs_append every here-set t room T.run_before (runs_append every here-set t room T.one (runs_append every here-set t room T.two T.run_later))

  t-outcome : outcome_of gray every t work room ≡ done.outcome
  t-outcome =
      let T = done.standing in
      let a = joined-long u x g y v in
      let b = joined-long u y g x v in
      let c = inside.short in
      reached-judged here-set t work room (starting T.next) inside.enough (omega arith) (record { next = T.next; header = T.header; before = []; runs = here })
      ∙ comes-judged every here-set t room (record { ops = before ++ (operators done.second' ++ (operators done.first' ++ later)); last = T.last; runs = t-runs; ends = T.ends })

  pub parts-exchanged : PartsExchange gray work room u x g y v before first second later
  unfolding verdict_of
  parts-exchanged =
      let T = done.standing in
      record {
        verdict = ap told t-outcome ∙ sym done.same_told ∙ sym (ap told (outcome-is gray s work room inside));
        second' = done.second';
        first' = done.first';
        listed = ap (λ z. z.state.past) t-outcome ∙ ap (λ z. z.past) (ends-state every here-set t room T.ends) ∙ runs_past every here-set t room t-runs;
        second_moved = done.second_moved;
        first_moved = done.first_moved;
        start_second = T.start_one;
        stop_second = T.stop_one;
        start_first = T.start_two;
        stop_first = T.stop_two;
      }

-- a job cut at two places, one behind the other
pub cut_at : (i j : ℕ) (s : List ℕ) → i ≤ j → drop i s ≡ part i j s ++ drop j s
cut_at i j s h =
    let e : i + (j - i) ≡ j = omega arith in
    sym (take-append-drop (j - i) (drop i s)) ∙ ap (λ z. part i j s ++ z) (drop-drop (j - i) i s ∙ ap (λ n. drop n s) e)

pub part-long : (i j : ℕ) (s : List ℕ) → i ≤ j → j ≤ length s → length (part i j s) ≡ j - i
part-long i j s h k = let e = length-drop i s in length-take-le (j - i) (drop i s) (omega arith)

module _ (gray : Bool) (job : List ℕ) (work room : ℕ) (before : List Operator) (first second : WholeSession) (later : List Operator)
    (listed : Lists gray job work room (before ++ (operators first ++ (operators second ++ later)))) where
  order : InOrder gray job work room before first second later listed
  order = in_order gray job work room before first second later listed

  abbrev front : List ℕ
  front = take (starts first) job

  abbrev one : List ℕ
  one = part (starts first) (stops first) job

  abbrev gap : List ℕ
  gap = part (stops first) (starts second) job

  abbrev two : List ℕ
  two = part (starts second) (stops second) job

  abbrev back : List ℕ
  back = drop (stops second) job

  job_is : job ≡ joined front one gap two back
  job_is =
      let o = order in
      sym (take-append-drop (starts first) job)
      ∙ ap (λ z. front ++ z) (cut_at (starts first) (stops first) job o.first_runs
      ∙ ap (λ z. one ++ z) (cut_at (stops first) (starts second) job o.then_second ∙ ap (λ z. gap ++ z) (cut_at (starts second) (stops second) job o.second_runs)))

  by_parts : PartsExchange gray work room front one gap two back before first second later
  by_parts =
      let o = order in
      let a = o.first_runs in let b = o.then_second in let c = o.second_runs in let d = o.within in
      let lu : length front ≡ starts first = length-take-le (starts first) job (omega arith) in
      let lx = part-long (starts first) (stops first) job a (omega arith) in
      let lg = part-long (stops first) (starts second) job b (omega arith) in
      let ly = part-long (starts second) (stops second) job c d in
      parts-exchanged gray work room front one gap two back before first second later
      (subst (λ z. Lists gray z work room (before ++ (operators first ++ (operators second ++ later)))) job_is listed) (sym lu) (omega arith) (omega arith) (omega arith)

  exchange : Exchange gray job work room before first second later
  exchange =
      let p = by_parts in
      let a = joined-long front one gap two back in
      let b = joined-long front two gap one back in
      let c = ap length job_is in
      record {
        long = omega arith;
        verdict = p.verdict ∙ ap (λ z. verdict_of gray z work room) (sym job_is);
        second' = p.second';
        first' = p.first';
        listed = p.listed;
        second_moved = p.second_moved;
        first_moved = p.first_moved;
      }

pub sessions-exchanged : Exchanged
sessions-exchanged gray job work room before first second rest listed = exchange gray job work room before first second rest listed
