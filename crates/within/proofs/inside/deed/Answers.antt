-- `deed` meets its contract.
-- Assumes nothing.
use Rattle.setting.specs.Views.{setting_as}
use Rattle.scope.specs.Order.{rows_fit}
use Rattle.within.proofs.Turning.{saved-most}
use mathlib.Core.Bool.{true}
use mathlib.Core.Path.{refl, sym, ap, ◌∙◌, subst⁻¹, ◌≡◌}
use Rattle.reader.specs.Reads.{operator_as}
use Rattle.order.specs.Pictures.{image_in, picture_for}
use Rattle.act.proofs.Operators.{act-is}
use Rattle.order.proofs.Pictures.{picture-is}
use Rattle.pattern_rows.specs.Numbers.{numbers_in}
use Rattle.within.specs.Judging.{noted_by}
use Rattle.within.proofs.Turning.{deed-on}
use Rattle.within.proofs.Noting.{deed-notes}
use Rattle.within.proofs.inside.deed.Goals as goal

pub returns : goal.returns
returns c = let a = c.args in record {
  own_len_unchanged = c.note_select.ensures.own_len_unchanged;
  notes = λ ops z n h.
      let o = operator_as a.o a.attrs.now in
      let e = c.act_of-act.ensures z ∙ act-is (setting_as a.set) a.s.now o in
      deed-notes (setting_as a.set) a.s.now o a.own.now _ ops n
      (c.note_select.ensures.own_after ∙ ap (λ x. noted_by x.select (numbers_in a.own.now 0)) e) h;
  at_value = (refl, saved-most a.o.tag a.inside.saved _ c.saved_after-saved.ensures);
  by_index = λ t ms w z n f fit pop.
      let o = operator_as a.o a.attrs.now in
      let g = subst⁻¹ (λ i. rows_fit a.set.high a.s.now (image_in i) o.tag o.attrs ≡ true) f.picture fit in
      let v = c.picture_after-after.ensures z g ∙ ap (λ i. picture_for a.set.high a.s.now o.tag o.attrs i) f.picture ∙ picture-is a.set.high a.s.now o w.picture in
      deed-on t ms (setting_as a.set) a.s.now o w a.inside _ f refl c.saved_after-saved.ensures v refl refl
      (λ row x r i. c.step-next.ensures row x r (i ∙ sym (act-is (setting_as a.set) a.s.now o) ∙ sym (c.act_of-act.ensures z))) n pop;
}
