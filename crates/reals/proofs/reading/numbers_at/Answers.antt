-- `numbers_at`: two reals, or two whole numbers, by the tag.
-- Assumes nothing.
use borrow.Author.Tests.{eq-eqb, ne_eqb}
use Rattle.scope.specs.Attributes.{two_at}
use Rattle.reals.specs.Reals.{reads_whole}
use Rattle.reals.proofs.reading.numbers_at.Goals as goal

pub returns-then-tag-eq213-clause-reads : goal.returns-then-tag-eq213-clause-reads
unfolding two_at
returns-then-tag-eq213-clause-reads c = rw (eq-eqb _ _ c.if-tag-eq213.true, ← c.number_at-x.ensures.value, ← c.behind-y.ensures) c.reals_of.ensures.reads

pub returns-clause-reads : goal.returns-clause-reads
unfolding two_at
returns-clause-reads c = rw (ne_eqb _ _ c.if-tag-eq213.false, ← c.first_of-x.ensures.value, ← c.behind-y-2.ensures) reads_whole
