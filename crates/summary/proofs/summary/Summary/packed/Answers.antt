-- `Summary::packed` meets its contract.
-- Assumes nothing.
use Rattle.std.proofs.Common.{◌≡◌, refl, rules}
use Rattle.summary.specs.Sums.{bit_of}
use Rattle.summary.proofs.Packs.{packs}
use Rattle.summary.proofs.summary.Summary.packed.Goals as goal

pub returns : goal.returns
returns c row h = let s : c.from.result ≡ bit_of c.args.self.source = search rules in
    packs c.args.self _ row (rw (c.packed.ensures.value, c.packed-2.ensures.value, s) refl) h
