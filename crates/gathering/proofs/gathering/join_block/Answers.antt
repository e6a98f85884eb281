-- `gathering::join_block` meets its contract: the block stands behind the bytes joined before.
-- Assumes nothing.
use Rattle.std.proofs.Common.{◌≡◌, ◌+◌, ◌-◌, ◌≤◌, refl, sym, ◌∙◌, length, arith, true≢false}
use borrow.Author.Tests.{not-true, not-false}
use Rattle.gathering.proofs.Joined.{block_out, work-is, work-joined, work-held}
use Rattle.gathering.proofs.gathering.join_block.Goals as goal

pub returns-then-not-fits-clause-work_after : goal.returns-then-not-fits-clause-work_after
returns-then-not-fits-clause-work_after c = let a = c.args in
    let no : a.o.first + a.o.length ≤ length a.job.now → a.used + a.joined + a.o.length ≤ 16384 → ⊥ =
    λ h k. true≢false (sym (c.fits.ensures.value h k) ∙ not-true _ c.if-not-fits.true-raw) in
    sym (block_out a.job.now a.work.now a.o.first a.o.length (a.used + a.joined) no)

pub returns-clause-work_after : goal.returns-clause-work_after
returns-clause-work_after c = let a = c.args in
    let f = c.fits.ensures.count_bound (not-false _ c.if-not-fits.false-raw) in
    let l : a.o.first + a.o.length - a.o.first ≡ a.o.length = omega arith in
    work-is a.job.now a.work.now c.join.new.work a.o.first a.o.length a.used a.joined (a.o.first + a.o.length - a.o.first) c.join.result l f.0 f.1
    c.join.ensures.value c.join.ensures.work_after

pub returns-clause-joins : goal.returns-clause-joins
returns-clause-joins c = let a = c.args in
    let f = c.fits.ensures.count_bound (not-false _ c.if-not-fits.false-raw) in
    let l : a.o.first + a.o.length - a.o.first ≡ a.o.length = omega arith in
    let W = c.join.new.work in
    let n = a.o.first + a.o.length - a.o.first in
    λ h w k. record {
      more = refl;
      bytes = work-joined a.job.now a.work.now W a.o.first a.o.length a.used a.joined n c.join.result l f.0 f.1 c.join.ensures.value c.join.ensures.work_after h;
      held = work-held a.job.now a.work.now W a.o.first a.o.length a.used a.joined n c.join.result l f.0 f.1 c.join.ensures.value c.join.ensures.work_after h;
    }
