-- The invariant: from where the code stood first, the definition comes to somewhere that the code stands too, and judging from there is judging from the first.
-- Assumes nothing.
use Prim.Native.Nat.{◌-◌, ◌*◌, ◌≤◌}
use mathlib.Core.Path.{refl, sym, ◌∙◌}
use native.Mathlib.Omega.{arith}
use lib.ListN.{length}
use Rattle.setting.specs.Views.{setting_as}
use Rattle.scope.specs.Setting.{Setting}
use Rattle.scope.specs.Verdict.{zeros}
use Rattle.ruling.proofs.Turns.{turned-go, turned-stop}
use borrow.Author.Rules.{rules}
use Rattle.advancing.proofs.advancing.with_tables.Goals.{After-run_on-next}
use Rattle.advancing.proofs.advancing.with_tables.Goals as goal

pub loop-on-init : goal.loop-on-init
unfolding zeros
loop-on-init c = (refl, refl, refl, c.requires.2, c.requires.3, refl, λ d first s h. (d, (h, refl)))

-- past a run the bounds that `advance` asks for hold still
past : (c : After-run_on-next)
    → let r = c.run_on-next.result in
    (r.at ≤ length c.args.job.now) × (r.records ≤ r.at * 17)
past c =
    let i = c.loop-on.invariant in
    (c.run_on-next.ensures.within i.3, let x = c.run_on-next.ensures.counted in let y = c.run_on-next.ensures.on in omega arith)

pub advance-requires : goal.advance-requires
advance-requires c = let p = past (goal.at.advance-requires c).After-run_on-next in
    (search rules, search rules, p.0, p.1)

pub loop-on-smaller : goal.loop-on-smaller
loop-on-smaller c = let p = rw c.in-Continue.is at c.advance.ensures.goes in
    let y = c.run_on-next.ensures.on in
    omega (arith, p)

pub loop-on-preserved : goal.loop-on-preserved
loop-on-preserved c = let i = c.loop-on.invariant in
    let a = c.args in
    let p = rw c.in-Continue.is at c.advance.ensures.goes in
    let set : Setting = setting_as a.set in
    let l = c.run_on-next.ensures.long ∙ i.1 in (
      c.advance.ensures.lasts.work_long ∙ i.0,
      c.advance.ensures.lasts.list_long ∙ l,
      c.advance.ensures.attrs_len_unchanged ∙ i.2,
      p.1,
      p.2,
      c.advance.ensures.lasts.rest ∙ i.5,
      λ d first s h.
          let j = i.6 d first s h in
          let g = c.run_on-next.ensures.leads first _ _ _ set j.0 refl (s ∙ sym i.1) j.1.0 in
          turned-go a.job.now first set _ _ _ g.there (g.judged ∙ j.1.1) (rw c.in-Continue.is at (c.advance.ensures.steps_on g.there first (s ∙ sym l) g.stands i.2)),
    )

pub returns-in-Break : goal.returns-in-Break
returns-in-Break c = let i = c.loop-on.invariant in
    let a = c.args in
    let set : Setting = setting_as a.set in
    let l = c.run_on-next.ensures.long ∙ i.1 in record {
      lasts = record { work_long = c.advance.ensures.lasts.work_long ∙ i.0; list_long = c.advance.ensures.lasts.list_long ∙ l; rest = c.advance.ensures.lasts.rest ∙ i.5 };
      judged_to = λ d first s h.
          let j = i.6 d first s h in
          let g = c.run_on-next.ensures.leads first _ _ _ set j.0 refl (s ∙ sym i.1) j.1.0 in
          turned-stop a.job.now first set _ _ _ g.there (g.judged ∙ j.1.1) (rw c.in-Break.is at (c.advance.ensures.steps_on g.there first (s ∙ sym l) g.stands i.2));
    }
