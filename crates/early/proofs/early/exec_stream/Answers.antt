-- `early::exec_stream` meets its contract: what the call comes to.
-- Assumes nothing.
use Rattle.early.proofs.Breaking.{exec_sum, exec_no}
use Rattle.early.proofs.early.exec_stream.Goals as goal

pub returns-in-Ok-clause-earlies_in : goal.returns-in-Ok-clause-earlies_in
returns-in-Ok-clause-earlies_in c = λ set p job attrs x o k s h e t.
    exec_sum set c.args.motifs.now p job attrs x o t h e (c.in-Ok.ensures.calls x.held k s h.few)

pub returns-in-Err-clause-earlies_in : goal.returns-in-Err-clause-earlies_in
returns-in-Err-clause-earlies_in c = λ set p job attrs x o k s h e t.
    exec_no set c.args.motifs.now p job attrs x o t e (c.in-Err.ensures.calls x.held k s h.few)
