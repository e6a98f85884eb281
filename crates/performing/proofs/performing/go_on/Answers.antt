-- `go_on` meets its contract.
-- Assumes nothing.
use Rattle.setting.specs.Views.{setting_as}
use Rattle.scope.specs.Setting.{Setting}
use mathlib.Core.Bool.{true, false}
use mathlib.Core.Path.{refl, sym, ◌∙◌, ◌≡◌}
use native.Mathlib.Omega.{arith}
use borrow.Author.Tests.{not-true, not-false}
use Rattle.reader.specs.Reads.{operator_as}
use Rattle.items.proofs.Rows.{length-rows}
use Rattle.ruling.proofs.Turns.{listed-no, listed-go, comes-in, comes-bytes}
use Rattle.performing.proofs.performing.go_on.Goals as goal

pub returns-then-not-list_operator : goal.returns-then-not-list_operator
returns-then-not-list_operator c = let a = c.args in
    let f : c.list_operator.result ≡ false = not-true _ c.if-not-list_operator.true-raw in record {
      lasts = record { work_long = refl; list_long = c.list_operator.ensures.list_len_unchanged; rest = refl };
      goes = tt;
      steps_on = λ d list₀ l h x.
          let z = x.0 in
          let w = x.1 in
          let m = x.2 in
          let o = operator_as a.allowed.o a.attrs.now in
          let y = c.list_operator.ensures.value z (comes-bytes a.motifs.now a.patterns.now a.job.now list₀ (setting_as a.set) d o a.allowed.passed.early a.allowed.passed.page a.allowed.performed m) in
          listed-no a.job.now list₀ _ a.st d (setting_as a.set) o a.allowed.o.count h (sym (length-rows a.attrs.now a.allowed.o.count)) l m.rules _ c.stop.result
          (rw f at y.1) (sym f ∙ y.0)
          (c.stop.ensures d (omega (arith, c.requires)) (omega (arith, c.requires)) h.records h.performed);
    }

pub returns : goal.returns
returns c = let a = c.args in
    let f : c.list_operator.result ≡ true = not-false _ c.if-not-list_operator.false-raw in
    record {
      lasts = record { work_long = c.place_after-next.ensures.work_len_unchanged; list_long = c.list_operator.ensures.list_len_unchanged; rest = c.place_after-next.ensures.work_unchanged };
      goes = (omega (arith, c.requires), omega (arith, c.requires), omega (arith, c.requires));
      steps_on = λ d list₀ l h x.
          let z = x.0 in
          let w = x.1 in
          let m = x.2 in
          let o = operator_as a.allowed.o a.attrs.now in
          let set : Setting = setting_as a.set in
          let y = c.list_operator.ensures.value z (comes-bytes a.motifs.now a.patterns.now a.job.now list₀ set d o a.allowed.passed.early a.allowed.passed.page a.allowed.performed m) in
          listed-go a.job.now list₀ _ a.st d set o a.allowed.o.count h (sym (length-rows a.attrs.now a.allowed.o.count)) l m.rules _ _
          (sym f ∙ y.0) refl
          (c.place_after-next.ensures.after.keeps d.place d (comes-in a.job.now a.attrs.now _ _ _ list₀ set d a.allowed.o a.allowed.passed.early a.allowed.passed.page a.allowed.performed a.st.place h.place z h.table_long c.requires.1 w m))
          m.counts refl (rw f at y.1) c.place_after-next.ensures.motifs_len_unchanged;
    }
