-- A run of operators that begin and end sessions and open and close their sources: the definition goes as far as the code.
-- Assumes nothing.
use Prim.Native.Nat.{ℕ, suc, ◌+◌, ◌*◌, ◌<◌}
use mathlib.Core.Path.{◌≡◌, refl, sym, ap, ◌∙◌, subst⁻¹}
use mathlib.Core.Bool.{true, false}
use mathlib.Core.List.{List, []}
use native.Mathlib.Omega.{arith}
use lib.ListN.{length}
use lib.Dec.{leb}
use Rattle.scope.specs.Reading.{Operator}
use Rattle.scope.specs.Setting.{Setting}
use Rattle.scope.specs.Session.{session_of}
use Rattle.scope.specs.Judge as scope
use Rattle.scope.specs.Judge.{case_of, judged_from}
use Rattle.scope.specs.Verdict.{every}
use Rattle.buffer.specs.Over.{over}
use Rattle.listed.specs.Listed.{records_for}
use Rattle.pattern_rows.specs.Numbers.{OfSession, numbers_in}
use Rattle.state.specs.Standing.{Lent, Stands}
use Rattle.state.specs.declared.state.State.{State}
use Rattle.running.specs.Running.{Reaches}
use Rattle.ruling.proofs.Turns.{turned-go, listed-go, steps-read}
use Rattle.ruling.proofs.Judgements.{judged-rules, judged-count}
use Rattle.opening.specs.Opening.{Edge, Rests, Past, Reads, Opens}
use Rattle.opening.proofs.Edges.{judged-edge}

-- no operator, and one run after another
pub opens-none : {job list : List ℕ} {set : Setting} {st : State} → Opens job set list list st st
opens-none =
    record {
      long = refl;
      on = omega arith;
      within = omega arith;
      counted = λ h. h;
      leads = λ list₀ table patterns work d n e h. record { there = d; stands = h; judged = refl };
    }

pub opens_still : {job list list₁ : List ℕ} {set : Setting} {st : State} → list₁ ≡ list → Opens job set list list₁ st st
opens_still {job} {list} {set = set} {st = st} e = subst⁻¹ (λ x. Opens job set list x st st) e opens-none

pub opens-then : {job a b c : List ℕ} {set : Setting} {r s t : State} → Opens job set a b r s → Opens job set b c s t → Opens job set a c r t
opens-then f g =
    record {
      long = g.long ∙ f.long;
      on = omega arith;
      within = omega arith;
      counted = λ h. g.counted (f.counted h);
      leads = λ list₀ table patterns work d n e h.
          let x = f.leads list₀ table patterns work d n e h in
          let y = g.leads list₀ table patterns work x.there n (e ∙ sym f.long) x.stands in
          record { there = y.there; stands = y.stands; judged = y.judged ∙ x.judged };
    }

-- one operator more, from st to t
module _ (job list list₁ : List ℕ) (set : Setting) (st t : State) (o : Operator) (n : ℕ) (many : n ≡ length o.attrs) (edge : Edge o.tag) (dry : o.reads ≡ false)
    (few : st.performed < 1_000_000) (rests : Rests st.place) (read : Reads job set st o) (past : Past st.place o.tag t.place) (next : t.at ≡ o.next)
    (count : t.performed ≡ st.performed + 1) (more : t.records ≡ st.records + n + 1) (room : true ≡ leb ((st.records + suc n) * 16) (length list))
    (listed : list₁ ≡ over list (st.records * 16) (records_for o.tag o.at o.length o.first o.attrs)) where
  pub one_more : (list₀ table patterns work : List ℕ) (d : scope.State) → numbers_in patterns OfSession ≡ [] → length list₀ ≡ length list
      → Stands set job list₀ (record { table = table; patterns = patterns; work = work; list = list }) st d
      → Reaches job list₀ table patterns work list₁ set t d
  one_more list₀ table patterns work d none same s =
      let l : Lent = record { table = table; patterns = patterns; work = work; list = list } in
      let l₁ : Lent = record { table = table; patterns = patterns; work = work; list = list₁ } in
      let k : d.performed < 1_000_000 = let p = s.performed in omega arith in
      let j = judged-edge set d o edge dry k rests s.place in
      let c = case_of set job d (session_of d.place) o in
      let place = past.keeps set job work table patterns o c.seen.page d.place refl none s.table_long s.place in
      let performed : t.performed ≡ c.seen.count = count ∙ ap (λ x. x + 1) s.performed ∙ judged-count j in
      let z = turned-go job list₀ set (judged_from every set job (length list₀) d) l₁ t d refl
      (steps-read set d o (read list₀ l d s)
      (listed-go job list₀ l st d set o n s many same (judged-rules j (length list₀)) l₁ t room next place performed more listed refl)) in
      record { there = z.0; stands = z.1.0; judged = z.1.1 }
