-- The invariant: the definition stands somewhere that the code follows, judging from there is judging from the start, and what was selected since is noted.
-- Assumes nothing.
use mathlib.Core.Path.{refl, ◌∙◌}
use native.Mathlib.Omega.{arith}
use Rattle.setting.specs.Views.{setting_as}
use Rattle.stream.proofs.Walking.{starting, starts, none-noted, same_noted, turned-go, turned-stop, turned-notes}
use Rattle.stream.proofs.judging.operators.Goals as goal

pub loop-on-init : goal.loop-on-init
loop-on-init c = (
  refl,
  c.requires,
  omega arith,
  refl,
  λ ms l k. record { stands = starting _; follows = starts _ ms _ refl refl refl refl c.fresh.ensures; judged = refl; notes = none-noted _ },
)

pub loop-on-preserved : goal.loop-on-preserved
loop-on-preserved c = let l = c.loop-on in
    let a = c.args in
    let p = rw c.in-Continue.is at c.advance.ensures.ahead in (
      c.advance.ensures.attrs_len_unchanged ∙ l.invariant.0,
      p.1,
      p.2,
      c.advance.ensures.own_len_unchanged ∙ l.invariant.3,
      λ ms z k.
          let w = l.invariant.4 ms z k in
          let v = c.past_run-from.ensures.by_index a.motifs.now ms w.stands w.follows in
          turned-go a.motifs.now ms (setting_as a.set) a.s.now _ a.own.now l.own _ _ v.stands (v.judged ∙ w.judged)
          (rw c.in-Continue.is at (c.advance.ensures.turns ms v.stands (l.invariant.0 ∙ z) k v.follows))
          (λ h. same_noted l.own w.stands.ops v.stands.ops v.selects (w.notes h)) (c.advance.ensures.notes_on ms v.stands (l.invariant.0 ∙ z) v.follows),
    )

pub returns-in-Break : goal.returns-in-Break
returns-in-Break c = let l = c.loop-on in
    let a = c.args in
    record {
      attrs_len_unchanged = c.advance.ensures.attrs_len_unchanged ∙ l.invariant.0;
      judges = λ ms z k.
          let w = l.invariant.4 ms z k in
          let v = c.past_run-from.ensures.by_index a.motifs.now ms w.stands w.follows in
          turned-stop a.motifs.now ms (setting_as a.set) a.s.now _ _ v.stands (v.judged ∙ w.judged)
          (rw c.in-Break.is at (c.advance.ensures.turns ms v.stands (l.invariant.0 ∙ z) k v.follows));
      own_len_unchanged = c.advance.ensures.own_len_unchanged ∙ l.invariant.3;
      notes = λ ms ops z k h q.
          let w = l.invariant.4 ms z k in
          let v = c.past_run-from.ensures.by_index a.motifs.now ms w.stands w.follows in
          turned-notes a.motifs.now ms (setting_as a.set) a.s.now l.own _ _ ops v.stands (v.judged ∙ w.judged ∙ q)
          (rw c.in-Break.is at (c.advance.ensures.turns ms v.stands (l.invariant.0 ∙ z) k v.follows))
          (same_noted l.own w.stands.ops v.stands.ops v.selects (w.notes h)) (c.advance.ensures.notes_on ms v.stands (l.invariant.0 ∙ z) v.follows);
    }
