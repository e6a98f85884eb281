-- `early::resting_early` meets its contract: BeginStream, else nothing to judge.
-- Assumes nothing.
use Rattle.early.proofs.Tags.{not-tag, rest-not_read, rest-not_end, rest-not_exec, rest-not_pattern}
use Rattle.early.proofs.Breaking.{fine-in}
use Rattle.scope.specs.Order.{in_session}
use Rattle.early.proofs.early.resting_early.Goals as goal

pub returns : goal.returns
returns c = let a = c.args in
    λ set p x k z m. let n = not-tag in_session x.opened a.o.tag in
    fine-in set a.motifs.now p a.job.now a.attrs.now x a.o c.if-o-eq-BEGIN_STREAM.false (n 0x5c (rest-not_read x.opened) m)
    (n 0x5d (rest-not_end x.opened) m) (n 0x5e (rest-not_exec x.opened) m) (n 0xb3 (rest-not_pattern x.opened) m)
