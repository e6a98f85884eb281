-- `reals_of`: bits that are finite are a number's and come back from the real that is made of them.
-- Assumes nothing.
use Rattle.std.proofs.Common.{◌≡◌, ◌<◌, refl, sym, ◌∙◌, false, ◌&&◌, arith}
use Rattle.scope.specs.Attributes.{finite}
use Rattle.reals.specs.Reals.{reads_real, reads_neither}
use Rattle.reals.proofs.Halves.{not-nan_bits, not-nan, bits_back}
use Rattle.reals.proofs.reading.reals_of.Goals.{else-is_finite-via-then-is_finite+else-is_finite-2, else-is_finite-via-else-is_finite}
use Rattle.reals.proofs.reading.reals_of.Goals as goal

pub float_from_bits-result : goal.float_from_bits-result
float_from_bits-result c = not-nan_bits _ (sym c.is_finite.ensures ∙ c.if-is_finite.true)

pub float_from_bits-result-then-is_finite-2 : goal.float_from_bits-result-then-is_finite-2
float_from_bits-result-then-is_finite-2 c = not-nan_bits _ (sym c.is_finite-then-is_finite.ensures ∙ c.if-is_finite-2.true)

pub returns-then-is_finite-2 : goal.returns-then-is_finite-2
returns-then-is_finite-2 c = let a = c.args in
    let p = sym c.is_finite.ensures ∙ c.if-is_finite.true in
    let q = sym c.is_finite-then-is_finite.ensures ∙ c.if-is_finite-2.true in
    let h : a.x < 4294967296 = omega arith in
    let k : a.y < 4294967296 = omega arith in
    record { reads = reads_real (bits_back a.x h p) (bits_back a.y k q) p q; made = (not-nan a.x p, not-nan a.y q) }

pub returns-else-is_finite-clause-reads : goal.returns-else-is_finite-clause-reads
returns-else-is_finite-clause-reads c = let a = c.args in
    let e : (finite a.x && finite a.y) ≡ false = elim c.else-is_finite.branch [
      | else-is_finite-via-then-is_finite+else-is_finite-2 w ↦
          rw (← c.is_finite.ensures, w.if-is_finite.true, ← w.is_finite-then-is_finite.ensures, w.if-is_finite-2.false) refl
      | else-is_finite-via-else-is_finite w ↦ rw (← c.is_finite.ensures, w.if-is_finite.false) refl
    ] in
    reads_neither e
