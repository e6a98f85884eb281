-- `remake`: after t - 1 rounds.
-- Assumes nothing.
use Rattle.std.proofs.Common.{◌-◌, ◌≡◌, arith}
use Rattle.setting.specs.Views.{setting_as}
use Rattle.settling.specs.Making.{InStore}
use Rattle.settling.proofs.Noting.{noted-all}
use Rattle.settling.proofs.Turning.{made}
use Rattle.settling.proofs.settling.remake.Goals as goal

pub returns-clause-tables : goal.returns-clause-tables
returns-clause-tables c = λ ms k s o.
    let l = c.loop-t in
    let a = c.args in
    let u = c.in_use-n in
    let z : l.t - 1 ≡ 32 = omega arith in
    let e : u.result ≡ a.held = u.ensures.value_2 k.most in
    let y : InStore (setting_as a.set) a.work.now ms = record { stores = s; sound = o } in
    made (rw (z, e) at (l.invariant.1 ms y (noted-all _ _ ms (c.note_all.ensures.noted_to ms y (rw e k)))))
