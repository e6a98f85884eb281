-- `level_of`: up to this round the motif has no level; the first that it gets stays.
-- Assumes nothing.
use Rattle.std.proofs.Common.{suc, ◌+◌, ◌-◌, ◌<◌, ◌≡◌, false, List, eqb, refl, sym, ap, ◌∙◌, arith}
use borrow.Author.Tests.{ne_eqb}
use Rattle.scope.specs.Motif.{Motif}
use Rattle.motif.specs.Search.{few}
use Rattle.motif.specs.Held.{Keeps, InRow, level_in}
use Rattle.motif.specs.Tables.{calls_row, Noted, level_of}
use Rattle.rounds.specs.Rounds.{next_of, LevelsBut}
use Rattle.rounds.proofs.Rounded.{next-alone, level-stays}
use Rattle.rounds.proofs.rounds.level_of.Goals.{After-next-level}
use Rattle.rounds.proofs.rounds.level_of.Goals as goal

pub loop-t-init : goal.loop-t-init
unfolding level_of
loop-t-init c = λ ms m k q r z o w. refl

-- what the round gives
given : (c : After-next-level) → let a = c.args in
    (ms : List Motif) (m : Motif) → Keeps a.motifs.now a.held ms → Noted a.motifs.now a.held ms → InRow ms a.i m → level_in a.motifs.now a.i ≡ 0
    → LevelsBut a.motifs.now ms a.i → calls_row ms m.ops a.i ≡ false → c.next-level.result ≡ level_of ms c.loop-t.t m.name
given c ms m k q r z o w =
    let a = c.args in
    let l = c.loop-t in
    let e : l.t ≡ suc (l.t - 1) = omega arith in
    let h : l.t - 1 < 32 = omega arith in
    let f = next-alone a.motifs.now a.held ms k q a.i m r (l.t - 1) h z o w (l.invariant ms m k q r z o w) in
    c.next-level.ensures ∙ ap (next_of a.motifs.now (few a.held) a.i) e ∙ f ∙ ap (λ y. level_of ms y m.name) (sym e)

pub returns-then-level-ne0 : goal.returns-then-level-ne0
returns-then-level-ne0 c = λ ms m k q r z o w.
    let t = c.loop-t.t in
    let g = given (goal.at.returns-then-level-ne0 c).After-next-level ms m k q r z o w in
    let h : t + (32 - t) ≡ 32 = omega arith in
    let e : eqb (level_of ms t m.name) 0 ≡ false = ne_eqb (level_of ms t m.name) 0 (λ y. c.if-level-ne0.true (g ∙ y)) in
    g ∙ sym (level-stays ms t (32 - t) m.name e) ∙ ap (λ y. level_of ms y m.name) h

pub loop-t-preserved : goal.loop-t-preserved
loop-t-preserved c = λ ms m k q r z o w.
    let t = c.loop-t.t in
    let e : t + 1 - 1 ≡ t = omega arith in
    ap (λ y. level_of ms y m.name) e ∙ sym (given (goal.at.loop-t-preserved c).After-next-level ms m k q r z o w) ∙ c.if-level-ne0.false
