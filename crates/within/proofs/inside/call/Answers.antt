-- `call`: the search finds the row of the name, which the table sums up; or none, and then the name performs nothing.
-- Assumes nothing.
use Prim.Native.Nat.{ℕ, ◌+◌, ◌-◌}
use mathlib.Core.Path.{◌≡◌}
use mathlib.Core.List.{List}
use lib.ListN.{take, drop}
use native.Mathlib.Omega.{arith}
use Rattle.reader.specs.Reads.{operator_as}
use Rattle.within.proofs.Turning.{call_none, call_at}
use Rattle.within.proofs.inside.call.Goals as goal

-- the part from `first` to its end
part : (s : List ℕ) (first count : ℕ) {name : List ℕ} → take count (drop first s) ≡ name → take (first + count - first) (drop first s) ≡ name
part s first count e = let z : first + count - first ≡ count = omega arith in rw z e

pub returns-in-None-clause-follows : goal.returns-in-None-clause-follows
returns-in-None-clause-follows c = λ set ms w z k t g.
    let a = c.args in
    let p = c.name_in-name.result in
    call_none a.motifs.now ms set a.s.now (operator_as a.o a.attrs.now) w t _ (part a.s.now p.first p.count (c.name_in-name.ensures.s_value z)) a.inside _ g
    (c.in-None.ensures.finds ms k) c.called.ensures

pub returns-in-Some-clause-follows : goal.returns-in-Some-clause-follows
returns-in-Some-clause-follows c = λ set ms w z k t g.
    let a = c.args in
    let p = c.name_in-name.result in
    call_at a.motifs.now ms set a.s.now (operator_as a.o a.attrs.now) w t _ (part a.s.now p.first p.count (c.name_in-name.ensures.s_value z)) a.inside _ g
    _ _ (c.in-Some.ensures.finds ms k) (c.with_mark.ensures c.in-Some.ensures.row) c.called-in-Some.ensures
