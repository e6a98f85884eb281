-- One operator of a motif as it is read: what is read is what the definition reads, and what the code makes of it is one step of the definition.
-- Assumes nothing.
use Prim.Native.Nat.{ℕ, ◌+◌, ◌≤◌, ◌<◌}
use mathlib.Core.Path.{◌≡◌, refl, sym, ap, ◌∙◌, subst}
use mathlib.Core.Bool.{Bool, true, false}
use mathlib.Core.List.{List, [], ◌∷◌, ◌++◌}
use native.Mathlib.Omega.{arith}
use lib.ListN.{length}
use lib.Dec.{eqb}
use Rattle.scope.specs.Setting.{Setting}
use Rattle.scope.specs.Iterate.{stop}
use Rattle.scope.specs.Order.{Phase, may_come, image_of, rows_fit}
use Rattle.scope.specs.Reading.{Context, Operator, Read, operator_at}
use Rattle.scope.specs.Motif as scope
use Rattle.scope.specs.Motif.{Motif, phase_in, context_in, own_by, on_end, on_read, motif_step}
use Rattle.scope.proofs.Ends.{GoodRead, read-good}
use Rattle.scope.proofs.Taken.{Taken, read_taken}
use Rattle.both.proofs.Levels.{drawn-pop}
use Rattle.order.specs.Pictures.{picture_as, image_in}
use Rattle.within.specs.Judging.{Follows, Judges, judges_faulty, Turns, turns_go, turns_stop, after_in, Ahead, Notes, NotesOn}
use Rattle.within.specs.declared.inside.Inside.{Inside}
use Rattle.within.specs.declared.inside.Made.{Made}
use Rattle.refusal.specs.declared.refusal.Refusal.{Refusal}
use Rattle.refusal.specs.Codes.{number_of}
use Rattle.std.specs.Prelude.{Result, Err}
use Rattle.std.specs.declared.ops.ControlFlow.TheVariants.{Continue, Break}

-- what reading knows where the definition stands
pub context_is : (t : List ℕ) (ms : List Motif) (set : Setting) (s : List ℕ) (i : Inside) (w : scope.Inside) (p : Phase) → Follows t ms i w
    → p ≡ phase_in i.saved (picture_as i.picture)
    → operator_at (record { set = set; phase = p; opened = true; asked = false }) s i.at ≡ operator_at (context_in set w) s w.at
unfolding context_in
context_is t ms set s i w p f e =
    λ x. operator_at (record { set = set; phase = (e ∙ (λ u. phase_in (f.saved u) (f.picture u))) x; opened = true; asked = false }) s (f.at x)

image-is : (n : ℕ) (p : scope.Picture) → image_of (phase_in n p) ≡ image_in p
unfolding phase_in
image-is n scope.Picture.none = refl
image-is n (scope.being i) = refl
image-is n (scope.hatching h i) = refl

taken-rows : {c : Context} {s : List ℕ} {o : Operator} → Taken c s (Read.operator o) → rows_fit c.set.high s (image_of c.phase) o.tag o.attrs ≡ true
taken-rows (Taken.operator a b e) = e

-- an operator that was read fits the image that is open
pub rows-read : (set : Setting) (s : List ℕ) (w : scope.Inside) (o : Operator) → operator_at (context_in set w) s w.at ≡ Read.operator o
    → rows_fit set.high s (image_in w.picture) o.tag o.attrs ≡ true
unfolding context_in
rows-read set s w o e =
    ap (λ i. rows_fit set.high s i o.tag o.attrs) (sym (image-is w.saved w.picture))
    ∙ taken-rows (subst (λ r. Taken (context_in set w) s r) e (read_taken (context_in set w) s w.at))

good-may : {len at : ℕ} {may : ℕ → Bool} {o : Operator} → GoodRead len at may (Read.operator o) → may o.tag ≡ true
good-may (GoodRead.operator a b c) = c

pub false_true : {A : Type 0} → false ≡ true → A
false_true e = absurd (let z : ◌≡◌ {A = ℕ} 0 1 = cc in omega arith)

pop-may : (n tag : ℕ) (p : scope.Picture) → may_come (phase_in n p) true tag ≡ true → tag ≡ 0x60 → 0 < n
unfolding phase_in may_come
pop-may n tag scope.Picture.none h e = drawn-pop n tag h e
pop-may n tag (scope.being i) h e = false_true (rw e at h)
pop-may n tag (scope.hatching p i) h e = false_true (rw e at h)

-- a PopGS that was read finds something saved
pub pop-read : (set : Setting) (s : List ℕ) (w : scope.Inside) (o : Operator) → operator_at (context_in set w) s w.at ≡ Read.operator o → o.tag ≡ 0x60 → 0 < w.saved
unfolding context_in
pop-read set s w o e t =
    pop-may w.saved o.tag w.picture
    (good-may (subst (λ r. GoodRead (length s) w.at (may_come (phase_in w.saved w.picture) true) r) e (read-good (context_in set w) s w.at))) t

module _ (t : List ℕ) (ms : List Motif) (set : Setting) (s : List ℕ) (w : scope.Inside) where
  pub step-no : (r : Refusal) → operator_at (context_in set w) s w.at ≡ Read.no (number_of r.code) r.place → Turns t ms (Break (Err r)) (motif_step set s w)
  unfolding motif_step on_read
  step-no r e = rw e (turns_stop judges_faulty)

  pub step-ended : (j : Result Made Refusal) → operator_at (context_in set w) s w.at ≡ Read.ended → Judges t ms j (on_end s w w.picture) → Turns t ms (Break j) (motif_step set s w)
  unfolding motif_step on_read
  step-ended j e h = rw e (turns_stop h)

  pub step-on : (i : Inside) (o : Operator) → operator_at (context_in set w) s w.at ≡ Read.operator o → Follows t ms i (after_in set s o w) → Turns t ms (Continue i) (motif_step set s w)
  unfolding motif_step on_read after_in
  step-on i o e h = rw e (turns_go h)

-- what is noted where nothing more is read, where the bytes end, and behind an operator
module _ (set : Setting) (s : List ℕ) (w : scope.Inside) (was own : List ℕ) where
  pub notes-no : (code place : ℕ) → operator_at (context_in set w) s w.at ≡ Read.no code place → NotesOn was own w.ops (motif_step set s w)
  unfolding motif_step on_read
  notes-no code place e = rw e tt

  pub notes-on : (o : Operator) → operator_at (context_in set w) s w.at ≡ Read.operator o → (Notes was w.ops → Notes own (w.ops ++ (own_by set s o ∷ [])))
      → NotesOn was own w.ops (motif_step set s w)
  unfolding motif_step on_read
  notes-on o e h = rw e h

pub notes-ended : (set : Setting) (s : List ℕ) (w : scope.Inside) (own : List ℕ) → operator_at (context_in set w) s w.at ≡ Read.ended
    → NotesOn own own w.ops (motif_step set s w)
unfolding motif_step on_read on_end
notes-ended set s w own e = rw e (by w.picture (eqb w.saved 0) refl)
  where
    by : (p : scope.Picture) (b : Bool) → eqb w.saved 0 ≡ b → NotesOn own own w.ops (stop (on_end s w p))
    by (scope.being i) b z = tt
    by (scope.hatching h i) b z = tt
    by scope.Picture.none true z = rw z (λ h. h)
    by scope.Picture.none false z = rw z tt

-- an operator that ends further on leaves the judging there
pub ahead : (len at next saved : ℕ) (i : Inside) → at < next → next ≤ len → saved ≤ at → (i.at ≡ next) × (i.saved ≤ saved + 1) → Ahead len at (Continue i)
ahead len at next saved i a b c (d, e) = (omega arith, omega arith, omega arith)
