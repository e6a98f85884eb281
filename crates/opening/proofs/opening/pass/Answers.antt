-- `pass`: where nothing is done the job stands still, else it is one operator more.
-- Assumes nothing.
use Prim.Native.Nat.{suc, ◌+◌, ◌*◌, ◌≤◌}
use mathlib.Core.Path.{◌≡◌, refl, sym, ◌∙◌}
use mathlib.Core.Bool.{true}
use native.Mathlib.Omega.{arith}
use lib.ListN.{length}
use Rattle.scope.specs.Judge.{context_of}
use Rattle.scope.specs.Verdict.{every}
use Rattle.items.proofs.Rows.{length-rows}
use Rattle.listed.proofs.Listed.{room-is}
use Rattle.reader.specs.Reads.{operator_as}
use Rattle.ruling.proofs.Turns.{read-bytes}
use Rattle.opening.proofs.Opens.{one_more}
use Rattle.opening.proofs.opening.pass.Goals.{Else-not-list_operator}
use Rattle.opening.proofs.opening.pass.Goals as goal

-- past the test there is room for its records
room : (c : Else-not-list_operator)
    → let a = c.args in
    (a.o.count ≤ 16) × ((a.st.records + suc a.o.count) * 16 ≤ length a.list.now)
room c =
    room-is _ _ _ (sym c.list_operator.ensures.value_2 ∙ c.if-not-list_operator.false)

pub overflow_add-result-2 : goal.overflow_add-result-2
overflow_add-result-2 c = let h = room (goal.at.overflow_add-result-2 c).Else-not-list_operator in omega (arith, h)

pub overflow_add-result-3 : goal.overflow_add-result-3
overflow_add-result-3 c = let h = room (goal.at.overflow_add-result-3 c).Else-not-list_operator in omega (arith, h)

pub returns : goal.returns
returns c = let a = c.args in
    let f : c.list_operator.result ≡ true = c.if-not-list_operator.false in
    let edge = c.is_edge.ensures (c.if-not-is_edge.false) in
    λ job set r z w h.
    let o = operator_as a.o a.attrs.now in
    record {
      long = c.list_operator.ensures.list_len_unchanged;
      on = omega (arith, w);
      within = omega (arith, w);
      counted = λ m. omega (arith, w, m);
      leads = λ list₀ table patterns work d none same s.
          let y = c.list_operator.ensures.value z (read-bytes (context_of every set d.place) job d.at o (h list₀ _ d s)) in
          one_more job a.list.now c.list_operator.new.list set a.st _ o a.o.count (sym (length-rows a.attrs.now a.o.count)) edge c.if-o.false
          c.requires r h (c.place_past.ensures edge r) refl refl refl (sym f ∙ y.0) (rw f at y.1) list₀ table patterns work d none same s;
    }
