-- The rules of motifs and patterns between sessions, and in one.
-- Assumes nothing.
use Rattle.std.specs.Prelude.{Result, Ok}
use Prim.Native.Nat.{ℕ, ◌≤◌}
use mathlib.Core.Path.{◌≡◌, refl}
use mathlib.Core.Bool.{Bool, true, false}
use mathlib.Core.List.{List}
use lib.ListN.{length}
use lib.Dec.{eqb}
use Rattle.scope.specs.Setting.{Setting}
use Rattle.scope.specs.Order.{may_come}
use Rattle.scope.specs.Session as scope
use Rattle.scope.specs.Session.{Session, session_of, phase_busy, phase_of}
use Rattle.scope.specs.Judge.{State, case_of}
use Rattle.items.specs.Rows.{Sized}
use Rattle.reader.specs.Reads.{operator_as}
use Rattle.reader.specs.declared.reading.Operator.{Operator}
use Rattle.motif.specs.Stored.{Stored}
use Rattle.motif.specs.declared.kept.Kept.{Kept}
use Rattle.place.specs.Places.{Hatches, BusyHolds, PlaceHolds, outside_holds, inside_holds}
use Rattle.place.specs.declared.place.Busy.{Busy}
use Rattle.place.specs.declared.place.Place.TheVariants.{Outside, Inside}
use Rattle.early.proofs.Tags as tags
use Rattle.early.specs.Earlier.{Earlies, EarliesIn}
use Rattle.early.specs.declared.early.Early.TheVariants.{Fine}
use Rattle.early.specs.declared.early.Early.{Early}
use Rattle.refusal.specs.declared.refusal.Refusal.{Refusal}
use Rattle.early.proofs.Breaking.{fine-in}

-- an operator between sessions
pub outer-fine : (set : Setting) {job work t p : List ℕ} {b : Bool} (attrs : List ℕ) (q : scope.Place) (o : Operator) (st : State)
    → PlaceHolds set job work t p (Outside b) q → may_come (phase_of q) (session_of q).opened o.tag ≡ true → Earlies t p (case_of set job st (session_of q) (operator_as o attrs)) (Ok Fine)
unfolding phase_of EarliesIn
outer-fine set {job} {t = t} {p = p} attrs q o st (outside_holds k) m =
    let n : (k : ℕ) → eqb k 0x41 ≡ false → o.tag ≡ k → ⊥ = λ k e. tags.first-not false o.tag k e m in
    fine-in set t p job attrs scope.opening o (n 0x5b refl) (n 0x5c refl) (n 0x5d refl) (n 0x5e refl) (n 0xb3 refl) st

-- an operator in a session
pub inner-early : (set : Setting) {job work t p r attrs : List ℕ} {i : Bool} {kept : Kept} {y : Busy} (q : scope.Place) (o : Operator) (st : State) (e : Result Early Refusal)
    → ((x : Session) → Stored set work t kept x.held → Hatches p x.held x.patterns → BusyHolds job work p kept x.held y x.busy
    → Sized attrs o.count → 16384 ≤ length work → may_come (phase_busy x.busy) x.opened o.tag ≡ true → EarliesIn set t r job attrs x o e)
    → PlaceHolds set job work t p (Inside i kept y) q → Sized attrs o.count → 16384 ≤ length work
    → may_come (phase_of q) (session_of q).opened o.tag ≡ true → Earlies t r (case_of set job st (session_of q) (operator_as o attrs)) e
unfolding phase_of EarliesIn
inner-early set q o st e f (inside_holds {x = x} v u k h y) z l m = f x k h y z l m st
