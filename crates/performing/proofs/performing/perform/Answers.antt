-- `perform` meets its contract.
-- Assumes nothing.
use lib.ListN.{length}
use mathlib.Core.Path.{ap, ◌∙◌}
use native.Mathlib.Omega.{arith}
use Rattle.setting.specs.Views.{setting_as}
use Rattle.scope.specs.Verdict.{every, told}
use Rattle.scope.specs.Reading.{operator}
use Rattle.scope.specs.Judge.{context_of, refused_at, outer, on_read}
use Rattle.scope.specs.Setting.{Setting}
use Rattle.reader.specs.Reads.{operator_as}
use Rattle.ruling.proofs.Ruling.{early-refused}
use Rattle.ruling.proofs.Turns.{read-may, stopped, step-refused, stands-kept}
use Rattle.ruling.proofs.Judgements.{judged-refused, judged-rules, judged-page, judged-count}
use Rattle.performing.proofs.performing.perform.Goals as goal

pub returns-in-Err-clause-steps_on : goal.returns-in-Err-clause-steps_on
unfolding context_of
returns-in-Err-clause-steps_on c = let a = c.args in
    λ d list₀ l h x.
    let q = x.2 in
    let o = operator_as a.o a.attrs.now in
    let set : Setting = setting_as a.set in
    let m = read-may (context_of every set d.place) a.job.now d.at o q in
    let r = c.in-Err.ensures.earlies d.place d h.place x.0 c.requires.1 m in
    stopped c.stop.result (on_read every set a.job.now (length list₀) d (operator o)) _ a.o.at _ h.listed
    (step-refused set a.job.now (length list₀) d o _ _ (early-refused r (length list₀)))
    (c.stop.ensures d (omega (arith, c.requires)) (omega (arith, c.requires)) h.records h.performed
    ∙ ap (λ i. told (refused_at c.number.result a.o.at i d)) (c.inner_of.ensures.value _ _ _ r)
    ∙ ap (λ k. told (refused_at k a.o.at c.in-Err.refusal.place d)) c.number.ensures)

pub returns-in-Err-judge-clause-steps_on : goal.returns-in-Err-judge-clause-steps_on
unfolding context_of
returns-in-Err-judge-clause-steps_on c = let a = c.args in
    λ d list₀ l h x.
    let q = x.2 in
    let o = operator_as a.o a.attrs.now in
    let set : Setting = setting_as a.set in
    let m = read-may (context_of every set d.place) a.job.now d.at o q in
    let k = stands-kept c.early_of.ensures.place_holds h in
    let r = c.in-Ok.ensures.earlies d.place d h.place x.0 c.requires.1 m in
    let n = c.in-Err-judge.ensures d.place d _ _ k.place x.0 h.performed m r in
    stopped c.stop-in-Err-judge.result (on_read every set a.job.now (length list₀) d (operator o)) _ a.o.at _ h.listed
    (step-refused set a.job.now (length list₀) d o _ _ (judged-refused n (length list₀)))
    (c.stop-in-Err-judge.ensures d (omega (arith, c.requires)) (omega (arith, c.requires)) h.records h.performed
    ∙ ap (λ i. told (refused_at i a.o.at outer d)) c.number-in-Err-judge.ensures)

pub returns-in-Ok-judge-clause-steps_on : goal.returns-in-Ok-judge-clause-steps_on
unfolding context_of
returns-in-Ok-judge-clause-steps_on c = let a = c.args in
    λ d list₀ l h x.
    let q = x.2 in
    let o = operator_as a.o a.attrs.now in
    let m = read-may (context_of every (setting_as a.set) d.place) a.job.now d.at o q in
    let k = stands-kept c.early_of.ensures.place_holds h in
    let r = c.in-Ok.ensures.earlies d.place d h.place x.0 c.requires.1 m in
    let n = c.in-Ok-judge.ensures d.place d _ _ k.place x.0 h.performed m r in
    c.go_on.ensures.steps_on d list₀ l k
    (x.0, x.1, record { read = q; earlier = r; drawn = judged-page n; counts = judged-count n; rules = judged-rules n (length list₀) })
