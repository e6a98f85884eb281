-- `call` meets its contract.
-- Assumes nothing.
use mathlib.Core.Path.{refl}
use Rattle.scope.specs.Session.{session_of}
use Rattle.ruling.proofs.Ruling.{call-judged}
use Rattle.ruling.proofs.judging.call.Goals as goal

pub returns : goal.returns
returns c = let a = c.args in
    λ q st by job work t p o h e f.
    call-judged by job st (session_of q) o c.opened_in-opened.result a.performed c.call.result
    (c.opened_in-opened.ensures q by job work t p h) e t p a.sum a.bare f
    (λ row k. c.call.ensures _ _ row (c.page_in-page.ensures q by job work t p h) refl (c.unpacked.ensures row k))
