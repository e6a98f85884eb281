-- The invariant: the form from place i on is the header's form.
use Rattle.std.proofs.Common.{◌≡◌, drop}
use Rattle.scope.specs.Header.{form_from}
use Rattle.header.proofs.header.past_title.Given as goal

abbrev pub invariant-loop-i : goal.invariant-loop-i
invariant-loop-i l = form_from l.i (drop l.i l.s) ≡ form_from 0 l.s
