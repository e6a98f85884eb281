-- `advance` meets its contract.
-- Assumes nothing.
use lib.ListN.{length}
use mathlib.Core.List.{List}
use mathlib.Core.Path.{refl, sym, ◌∙◌, ◌≡◌}
use native.Mathlib.Omega.{arith}
use Rattle.setting.specs.Views.{setting_as}
use Rattle.scope.specs.Reading.{operator_at}
use Rattle.scope.specs.Motif as scope
use Rattle.scope.specs.Motif.{Motif, context_in}
use Rattle.order.specs.Views.{phase_as}
use Rattle.reader.specs.Reads.{read_as}
use Rattle.within.specs.Judging.{Follows}
use Rattle.within.proofs.Stepping.{context_is, rows-read, pop-read, step-no, step-ended, step-on, notes-no, notes-ended, notes-on, ahead}
use Rattle.within.proofs.Noting.{call-notes}
use Rattle.within.proofs.inside.advance.Goals.{After-operator_at}
use Rattle.within.proofs.inside.advance.Goals as goal

-- what was read is what the definition reads where it stands
read_is : (c : After-operator_at) (ms : List Motif) (w : scope.Inside) → length c.args.attrs.now ≡ 80
    → Follows c.args.motifs.now ms c.args.inside w
    → operator_at (context_in (setting_as c.args.set) w) c.args.s.now w.at ≡ read_as c.operator_at.result c.operator_at.new.attrs
read_is c ms w l g =
    let a = c.args in
    sym (context_is a.motifs.now ms (setting_as a.set) a.s.now a.inside w (phase_as c.phase_in.result) g c.phase_in.ensures) ∙ sym (c.operator_at.ensures.attrs_after l)

pub returns-then-o-eq-EXEC_STREAM : goal.returns-then-o-eq-EXEC_STREAM
returns-then-o-eq-EXEC_STREAM c = let a = c.args in
    let v = rw (c.in-Ok-Some.is, c.in-Ok-Some.field-0-is) at c.operator_at.ensures.within in record {
      attrs_len_unchanged = c.operator_at.ensures.attrs_len_unchanged;
      ahead = ahead (length a.s.now) a.inside.at c.in-Ok-Some.o.next a.inside.saved c.call.result (omega arith) v.2 c.requires.1 c.call.ensures.at_value;
      turns = λ ms w l k g. step-on a.motifs.now ms (setting_as a.set) a.s.now w _ _ (read_is (goal.at.returns-then-o-eq-EXEC_STREAM c).After-operator_at ms w l g ∙ rw (c.in-Ok-Some.is, c.in-Ok-Some.field-0-is))
          (c.call.ensures.follows (setting_as a.set) ms w (record { long = c.operator_at.ensures.attrs_len_unchanged ∙ l; few = v.4 }) k c.if-o-eq-EXEC_STREAM.true g);
      own_len_unchanged = refl;
      notes_on = λ ms w l g. notes-on (setting_as a.set) a.s.now w a.own.now a.own.now _ (rw (c.in-Ok-Some.is, c.in-Ok-Some.field-0-is) at (read_is (goal.at.returns-then-o-eq-EXEC_STREAM c).After-operator_at ms w l g))
          (call-notes (setting_as a.set) a.s.now _ a.own.now w.ops c.if-o-eq-EXEC_STREAM.true);
    }

pub returns-in-Err : goal.returns-in-Err
returns-in-Err c = let a = c.args in
    record { attrs_len_unchanged = c.operator_at.ensures.attrs_len_unchanged; ahead = tt; turns = λ ms w l k g. step-no a.motifs.now ms (setting_as a.set) a.s.now w _ (read_is (goal.at.returns-in-Err c).After-operator_at ms w l g ∙ rw c.in-Err.is); own_len_unchanged = refl; notes_on = λ ms w l g. notes-no (setting_as a.set) a.s.now w a.own.now a.own.now _ _ (rw c.in-Err.is at (read_is (goal.at.returns-in-Err c).After-operator_at ms w l g)) }

pub returns-in-Ok-None : goal.returns-in-Ok-None
returns-in-Ok-None c = let a = c.args in record {
  attrs_len_unchanged = c.operator_at.ensures.attrs_len_unchanged;
  ahead = tt;
  turns = λ ms w l k g. step-ended a.motifs.now ms (setting_as a.set) a.s.now w _ (read_is (goal.at.returns-in-Ok-None c).After-operator_at ms w l g ∙ rw (c.in-Ok-None.is, c.in-Ok-None.field-0-is))
      (c.ended.ensures a.motifs.now ms w a.s.now refl g);
  own_len_unchanged = refl;
  notes_on = λ ms w l g. notes-ended (setting_as a.set) a.s.now w a.own.now (read_is (goal.at.returns-in-Ok-None c).After-operator_at ms w l g ∙ rw (c.in-Ok-None.is, c.in-Ok-None.field-0-is));
}

pub returns-else-o-eq-EXEC_STREAM : goal.returns-else-o-eq-EXEC_STREAM
returns-else-o-eq-EXEC_STREAM c = let a = c.args in
    let n = c.if-o-eq-EXEC_STREAM.false in
    let v = rw (c.in-Ok-Some.is, c.in-Ok-Some.field-0-is) at c.operator_at.ensures.within in record {
      attrs_len_unchanged = c.operator_at.ensures.attrs_len_unchanged;
      ahead = ahead (length a.s.now) a.inside.at c.in-Ok-Some.o.next a.inside.saved c.deed.result (omega arith) v.2 c.requires.1 c.deed.ensures.at_value;
      turns = λ ms w l k g.
          let q = rw (c.in-Ok-Some.is, c.in-Ok-Some.field-0-is) at (read_is (goal.at.returns-else-o-eq-EXEC_STREAM c).After-operator_at ms w l g) in
          step-on a.motifs.now ms (setting_as a.set) a.s.now w _ _ q
          (c.deed.ensures.by_index a.motifs.now ms w (record { long = c.operator_at.ensures.attrs_len_unchanged ∙ l; few = v.4 }) n g
          (rows-read (setting_as a.set) a.s.now w _ q) (pop-read (setting_as a.set) a.s.now w _ q));
      own_len_unchanged = c.deed.ensures.own_len_unchanged;
      notes_on = λ ms w l g. notes-on (setting_as a.set) a.s.now w a.own.now _ _ (rw (c.in-Ok-Some.is, c.in-Ok-Some.field-0-is) at (read_is (goal.at.returns-else-o-eq-EXEC_STREAM c).After-operator_at ms w l g))
          (c.deed.ensures.notes w.ops (record { long = c.operator_at.ensures.attrs_len_unchanged ∙ l; few = v.4 }) n);
    }
