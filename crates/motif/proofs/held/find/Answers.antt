-- `find` meets its contract: the first place whose name is not before the asked one, and a test whether it is that name.
-- Assumes nothing.
use mathlib.Core.Path.{◌≡◌, ap, ◌∙◌}
use native.Mathlib.Omega.{arith}
use Rattle.key.specs.Keys.{key_of}
use Rattle.motif.specs.Search.{place_of, find_in}
use Rattle.motif.proofs.Finding.{find_over, find_here, found_row, found_finds}
use Rattle.motif.proofs.held.find.Goals as goal

pub returns-then-n-place : goal.returns-then-n-place
returns-then-n-place c =
    let a = c.args in
    let n = c.in_use-n in
    let e : c.place_of-place.result ≡ place_of a.motifs.now (key_of a.name.now) n.result = rw c.key_of-key.ensures at c.place_of-place.ensures.value in
    let f = find_over a.motifs.now (key_of a.name.now) n.result c.place_of-place.result e c.if-n-place.true in
    record {
      row = tt;
      value = f ∙ ap (find_in a.motifs.now (key_of a.name.now)) n.ensures.value;
      finds = found_finds a.motifs.now a.name.now a.held n.result _ f (λ i. omega (arith, c.type_inv.name i)) n.ensures.value_2;
    }

pub returns : goal.returns
returns c =
    let a = c.args in
    let n = c.in_use-n in
    let p = c.place_of-place.result in
    let e : p ≡ place_of a.motifs.now (key_of a.name.now) n.result = rw c.key_of-key.ensures at c.place_of-place.ensures.value in
    let s = rw (c.is_name.ensures, c.key_of-key.ensures) at c.then_some.ensures in
    let f = s ∙ find_here a.motifs.now (key_of a.name.now) n.result p e c.if-n-place.false in
    record {
      row = found_row a.motifs.now a.name.now a.held n.result _ f;
      value = f ∙ ap (find_in a.motifs.now (key_of a.name.now)) n.ensures.value;
      finds = found_finds a.motifs.now a.name.now a.held n.result _ f (λ i. omega (arith, c.type_inv.name i)) n.ensures.value_2;
    }
