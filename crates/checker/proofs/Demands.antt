-- The demands, of every answer that meets the promise of `check`: what the definitions say of a job carried to that answer.
-- Assumes nothing.
use Prim.Native.Nat.{ℕ, ◌+◌, ◌*◌, ◌≤◌}
use mathlib.Core.Path.{◌≡◌, sym, ap, ◌∙◌, subst, subst₂, subst⁻¹}
use mathlib.Core.Bool.{Bool}
use mathlib.Core.List.{List, [], ◌++◌, append_assoc}
use lib.ListN.{length, take, drop}
use native.Mathlib.Omega.{arith}
use lib.Seq.{take_at, take_all}
use Rattle.scope.specs.Judge.{Outcome}
use Rattle.scope.specs.Verdict.{every, told, records_before, verdict_of, list_of, list_after, entry_of, cleared_by, work_after}
use Rattle.scope.specs.Before.{list_before}
use Rattle.scope.specs.Claims.{limit, Further, Shifted, records_from, RecordsMoved, move_by, put_in}
use Rattle.scope.specs.Exchange.{records_of, operators, exchanged}
use Rattle.scope.proofs.Demand.{demand_3}
use Rattle.scope.proofs.Whole.{verdict-placed, passes-exactly}
use Rattle.scope.proofs.Sessions.{isolated, alike_same}
use Rattle.scope.proofs.Records.{list_long, reached-long, lists_moved, outcome-list, first-front, second-front, same-list}
use Rattle.scope.proofs.White.{white-between}
use Rattle.scope.proofs.WhiteItems.{white-between_items}
use Rattle.scope.proofs.ByteOrder.{byte_order}
use Rattle.scope.proofs.OneAsBefore.{one-as_before}
use Rattle.scope.proofs.Exchange.{sessions-exchanged}
use Rattle.scope.proofs.ExchangeList.{lists_exchanged}
use Rattle.scope.proofs.ExchangeOrder.{any_order}
use Rattle.scope.proofs.Buffers.{no-motif_left, zeroed}
use Rattle.state.specs.Views.{verdict_as}
use Rattle.state.specs.declared.verdict.Verdict.{Verdict}
use Rattle.checker.specs.Claims.{Answer, Promised, OneAnswer, PlaceInJob, OldContents, NoMotifBehind, WorkCarriesNothing, SessionsIsolated, WhiteIgnored, WhiteIgnoredInside, OrderIgnored, AnsweredAsBefore, SessionsExchanged, OrderOfPupils, PassesAsDrawn, PassesOnly}

-- two verdicts whose five numbers agree are one
same-verdict : (v w : Verdict) → verdict_as v ≡ verdict_as w → v ≡ w
same-verdict v w e =
    λ i. record { code = (e i).code; position = (e i).position; inner = (e i).inner; records = (e i).records; performed = (e i).performed }

pub one_answer : OneAnswer
one_answer gray job work list a b p q =
    let v = same-verdict a.verdict b.verdict (p.verdict ∙ sym q.verdict) in
    let w = p.worked ∙ sym q.worked in
    let l = p.listed ∙ sym q.listed in
    λ i. record { verdict = v i; work = w i; list = l i }

pub place-of_check : PlaceInJob
place-of_check gray job work list a p = subst⁻¹ (λ n. n ≤ length job) (ap (λ x. x.position) p.verdict) (verdict-placed gray job (length work) (length list))

pub old-contents : OldContents
old-contents gray job work list work' list' a b e f p q =
    same-verdict a.verdict b.verdict (p.verdict ∙ (λ i. verdict_of gray job (e i) (f i)) ∙ sym q.verdict)

pub no-motif_behind : NoMotifBehind
no-motif_behind gray job work list a p h k = p.worked ∙ zeroed job work h k

pub work-carries_nothing : WorkCarriesNothing
work-carries_nothing gray job other work list a b p q h k = p.worked ∙ no-motif_left job other work h k ∙ sym q.worked

-- the records in the list of an answer are the list's bytes
records-in : (gray : Bool) (job work list : List ℕ) (a : Answer) (m : ℕ) → Promised gray job work list a
    → records_from m a.verdict.records a.list ≡ records_from m (verdict_of gray job (length work) (length list)).records (list_of gray job (length work) (length list))
unfolding list_after
records-in gray job work list a m p =
    let n = (verdict_of gray job (length work) (length list)).records in
    let l = list_of gray job (length work) (length list) in
    let e = list_long gray job (length work) (length list) in
    (λ i. records_from m (p.verdict i).records (p.listed i)) ∙ ap (drop (m * 16)) (take_at l (drop (length l) list) (n * 16) e ∙ sym (take_all (n * 16) l (omega arith)))

pub isolated-of_check : SessionsIsolated
unfolding verdict_of
isolated-of_check set job other work work' list list' a b p q x y hj ho hw hx f g same goes cv cw =
    let v = x.verdict in
    let w = y.verdict in
    let i = alike_same (isolated set job other (length work) (length work') (length list) (length list') p q hw hx hj ho f g same goes)
    (ap (λ z. limit z.code) (sym v) ∙ cv) (ap (λ z. limit z.code) (sym w) ∙ cw) in
    record {
      code = ap (λ z. z.code) v ∙ i.code ∙ sym (ap (λ z. z.code) w);
      position = ap (λ z. z.position + q.at) v ∙ i.position ∙ sym (ap (λ z. z.position + p.at) w);
      inner = ap (λ z. z.inner) v ∙ i.inner ∙ sym (ap (λ z. z.inner) w);
      records = ap (λ z. z.records + q.records) v ∙ i.records ∙ sym (ap (λ z. z.records + p.records) w);
      performed = ap (λ z. z.performed + q.performed) v ∙ i.performed ∙ sym (ap (λ z. z.performed + p.performed) w);
      listed = subst₂ (RecordsMoved (Further p.at q.at)) (sym (records-in set.gray job work list a p.records x)) (sym (records-in set.gray other work' list' b q.records y))
          (same-list set job other (length work) (length work') (length list) (length list') p q f g i);
    }

pub white-of_check : WhiteIgnored
unfolding verdict_of
white-of_check set job blank work list a b st x y hw hl all r =
    let v = x.verdict in
    let w = y.verdict in
    let on = move_by (length blank) st in
    let i = white-between set job blank (length work) (length list) st hw hl all r in
    let long = reached-long set job (length list) st r in
    record {
      code = ap (λ z. z.code) v ∙ i.code ∙ sym (ap (λ z. z.code) w);
      position = ap (λ z. z.position + on.at) v ∙ i.position ∙ sym (ap (λ z. z.position + st.at) w);
      inner = ap (λ z. z.inner) v ∙ i.inner ∙ sym (ap (λ z. z.inner) w);
      records = ap (λ z. z.records + on.records) v ∙ i.records ∙ sym (ap (λ z. z.records + st.records) w);
      performed = ap (λ z. z.performed + on.performed) v ∙ i.performed ∙ sym (ap (λ z. z.performed + st.performed) w);
      listed = subst₂ (RecordsMoved (Further st.at on.at)) (sym (records-in set.gray job work list a st.records x))
          (sym (records-in set.gray (put_in st.at blank job) work list b st.records y))
          (lists_moved (Further st.at on.at) set.gray job (put_in st.at blank job) (length work) (length work) (length list) (length list) st on i.listed long long);
    }

pub white-inside_of_check : WhiteIgnoredInside
unfolding verdict_of list_after
white-inside_of_check set job blank work list a b p st x y hw hl all r g =
    let v = x.verdict in
    let w = y.verdict in
    let i = white-between_items set job blank (length work) (length list) p st hw hl all r g in
    let long = reached-long set job (length list) st r in
    record {
      code = ap (λ z. z.code) v ∙ i.code ∙ sym (ap (λ z. z.code) w);
      position = subst₂ (Shifted p (length blank)) (sym (ap (λ z. z.position) v)) (sym (ap (λ z. z.position) w)) i.position;
      inner = ap (λ z. z.inner) v ∙ i.inner ∙ sym (ap (λ z. z.inner) w);
      records = ap (λ z. z.records) v ∙ i.records ∙ sym (ap (λ z. z.records) w);
      performed = ap (λ z. z.performed) v ∙ i.performed ∙ sym (ap (λ z. z.performed) w);
      front = ap (take (st.records * 16)) x.listed ∙ first-front (Shifted p (length blank)) set.gray job (put_in p blank job) (length work) (length work) (length list) (length list) st st i.listed long _ ∙ sym (second-front (Shifted p (length blank)) set.gray job (put_in p blank job) (length work) (length work) (length list) (length list) st st i.listed long _) ∙ sym (ap (take (st.records * 16)) y.listed);
      listed = subst₂ (RecordsMoved (Shifted p (length blank))) (sym (records-in set.gray job work list a st.records x))
          (sym (records-in set.gray (put_in p blank job) work list b st.records y))
          (lists_moved (Shifted p (length blank)) set.gray job (put_in p blank job) (length work) (length work) (length list) (length list) st st i.listed long long);
    }

pub order-of_check : OrderIgnored
unfolding verdict_of list_after
order-of_check set other job turned work list next a b p q hw hl long class gray x y same =
    let i = byte_order set other job turned (length work) (length list) next hw hl long class gray x y same in
    let m = outcome-list set.gray other.gray job turned (length work) (length list) i in
    let v = same-verdict a.verdict b.verdict
    (p.verdict ∙ (λ j. record { code = i.code j; position = i.position j; inner = i.inner j; records = i.records j; performed = i.performed j }) ∙ sym q.verdict) in
    let w = p.worked ∙ no-motif_left job turned work hl (omega arith) ∙ sym q.worked in
    let l = p.listed ∙ (λ j. m j ++ drop (length (m j)) list) ∙ sym q.listed in
    λ j. record { verdict = v j; work = w j; list = l j }

-- a list in four parts, and what stands behind it
behind-four : (k l m n rest : List ℕ) → (k ++ (l ++ (m ++ n))) ++ rest ≡ k ++ (l ++ (m ++ (n ++ rest)))
behind-four k l m n rest =
    append_assoc k (l ++ (m ++ n)) rest ∙ ap (λ z. k ++ z) (append_assoc l (m ++ n) rest ∙ ap (λ z. l ++ z) (append_assoc m n rest))

pub exchanged-of_check : SessionsExchanged
unfolding list_after work_after
exchanged-of_check gray job work list before first second rest a b p q e =
    let n = length work in
    let m = length list in
    let other = exchanged first second job in
    let x = sessions-exchanged gray job n m before first second rest e in
    let y = lists_exchanged gray job n m before first second rest e in
    let same-long : length (list_of gray other n m) ≡ length (list_of gray job n m) =
    list_long gray other n m ∙ ap (λ z. z.records * 16) x.verdict ∙ sym (list_long gray job n m) in
    record {
      verdict = same-verdict b.verdict a.verdict (q.verdict ∙ x.verdict ∙ sym p.verdict);
      work = q.worked ∙ ap (λ k. cleared_by (entry_of k n) work) x.long ∙ sym p.worked;
      second' = y.second';
      first' = y.first';
      behind = records_of rest ++ drop (length (list_of gray job n m)) list;
      was = p.listed ∙ ap (λ l. l ++ drop (length (list_of gray job n m)) list) y.was
          ∙ behind-four (records_of before) (records_of (operators first)) (records_of (operators second)) (records_of rest) (drop (length (list_of gray job n m)) list);
      is = q.listed ∙ (λ i. y.is i ++ drop (same-long i) list)
          ∙ behind-four (records_of before) y.second' y.first' (records_of rest) (drop (length (list_of gray job n m)) list);
      second_moved = y.second_moved;
      first_moved = y.first_moved;
    }

pub order-of_pupils : OrderOfPupils
order-of_pupils gray job work list sessions order a b p q e r =
    same-verdict b.verdict a.verdict (q.verdict ∙ any_order gray job (length work) (length list) sessions order e r ∙ sym p.verdict)

pub answered_as_before : AnsweredAsBefore
unfolding verdict_of list_after list_of list_before
answered_as_before gray job work list a high next p e =
    let x = one-as_before gray every job (length work) (length list) high next e in
    (p.verdict ∙ ap told x, p.listed ∙ ap (λ (o : Outcome). records_before o.state.past [] ++ drop (length (records_before o.state.past [])) list) x)

pub demand_3_of_check : PassesAsDrawn
demand_3_of_check gray job work list a p h k r =
    let d = demand_3 gray job (length work) (length list) h k r in
    let c : a.verdict.code ≡ (verdict_of gray job (length work) (length list)).code = ap (λ x. x.code) p.verdict in
    let n : a.verdict.performed ≡ (verdict_of gray job (length work) (length list)).performed = ap (λ x. x.performed) p.verdict in
    ((λ e. d.0.0 (sym c ∙ e), λ e. c ∙ d.0.1 e), λ e. n ∙ d.1 (sym c ∙ e))

pub passes-of_check : PassesOnly
passes-of_check gray job work list a p h =
    let c : a.verdict.code ≡ (verdict_of gray job (length work) (length list)).code = ap (λ x. x.code) p.verdict in
    let d = passes-exactly gray job (length work) (length list) h in
    (λ e. d.0 (sym c ∙ e), λ k. c ∙ d.1 k)
