-- `gathering::reading_after` meets its contract: ReadStream, else EndStream.
-- Assumes nothing.
use Rattle.std.proofs.Common.{◌≡◌, ◌+◌, ◌-◌, refl, sym, ◌∙◌, length, arith, true≢false}
use borrow.Author.Tests.{not-true}
use Rattle.setting.specs.Views.{setting_as}
use Rattle.early.proofs.Parts.{part_same}
use Rattle.gathering.proofs.Blocks.{block-after, nameless_after}
use Rattle.gathering.proofs.Joined.{block-long, block-past}
use Rattle.gathering.proofs.gathering.reading_after.Goals as goal

pub returns-then-o-eq-READ_STREAM-clause-stays : goal.returns-then-o-eq-READ_STREAM-clause-stays
returns-then-o-eq-READ_STREAM-clause-stays c = let a = c.args in record {
  work_long = rw c.join_block-more.ensures.work_after (block-long a.job.now a.work.now a.o.first a.o.length (a.stream.kept.used + a.stream.joined));
  table_long = refl;
  patterns_long = refl;
  rest = rw c.join_block-more.ensures.work_after (block-past a.job.now a.work.now a.o.first a.o.length (a.stream.kept.used + a.stream.joined));
}

pub returns-then-o-eq-READ_STREAM-clause-by_index : goal.returns-then-o-eq-READ_STREAM-clause-by_index
returns-then-o-eq-READ_STREAM-clause-by_index c = let a = c.args in
    let b = c.join_block-more in
    let l : length b.new.work ≡ length a.work.now =
    rw b.ensures.work_after (block-long a.job.now a.work.now a.o.first a.o.length (a.stream.kept.used + a.stream.joined)) in
    λ attrs page. block-after a.job.now attrs (setting_as a.set) a.o a.work.now a.motifs.now a.patterns.now b.new.work b.result
    l c.if-o-eq-READ_STREAM.true b.ensures.joins

pub returns-then-not-lies-clause-by_index : goal.returns-then-not-lies-clause-by_index
returns-then-not-lies-clause-by_index c = let a = c.args in
    λ attrs page. nameless_after a.job.now attrs (setting_as a.set) a.o a.work.now a.motifs.now a.patterns.now
    (λ h. true≢false (sym (c.lies.ensures.value h) ∙ not-true _ c.if-not-lies.true-raw))

pub returns-clause-by_index : goal.returns-clause-by_index
returns-clause-by_index c = let a = c.args in
    let s = a.stream in
    let l : s.first + s.count - s.first ≡ s.count = omega arith in
    λ attrs page. c.ended.ensures.by_index a.job.now attrs a.o page s.first s.count (sym (part_same a.job.now s.first l)) c.if-o-eq-READ_STREAM.false
