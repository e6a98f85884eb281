-- The walk over the operators of a motif: where it starts, that it goes on from where the code goes on, and what is noted on the way.
-- Assumes nothing.
use Prim.Native.Nat.{ℕ}
use mathlib.Core.Path.{◌≡◌, refl, sym, ap, ◌∙◌, subst}
use mathlib.Core.Bool.{Bool, true, false}
use mathlib.Core.List.{List, []}
use Rattle.scope.specs.Setting.{Setting}
use Rattle.scope.specs.Iterate.{Next, go, stop, onward}
use Rattle.scope.specs.Motif as scope
use Rattle.scope.specs.Motif.{Own, Motif, motif_step, judged_inside}
use Rattle.scope.proofs.Falls.{motif-step}
use Rattle.order.specs.Pictures.{picture_as}
use Rattle.pattern_rows.specs.Numbers.{numbers_in, collected}
use Rattle.within.specs.Judging.{Follows, Judges, Turns, turns_go, turns_stop, Notes, NotesOn}
use Rattle.within.specs.declared.inside.Inside.{Inside}
use Rattle.within.specs.declared.inside.Made.{Made}
use Rattle.refusal.specs.declared.refusal.Refusal.{Refusal}
use Rattle.std.specs.Prelude.{Result}
use Rattle.std.specs.declared.ops.ControlFlow.TheVariants.{Continue, Break}
use native.Mathlib.Nat.{zero-div}
use Rattle.scope.specs.Calls.{flat}
use Rattle.scope.specs.Reach.{any, names_in}
use Rattle.both.specs.Runs.{Runs}
use Rattle.summary.specs.Balance.{OwnLevel}
use Rattle.key.specs.Mark.{mark}
use Rattle.motif.specs.Tables.{calls_row, lacks_one}
use Rattle.patterns.specs.Selects.{selects_from, selects_in}
use Rattle.within.proofs.Stepping.{false_true}

-- where the judging of a motif starts
abbrev pub starting : ℕ → scope.Inside
starting next = record { at = next; saved = 0; picture = scope.Picture.none; ops = [] }

no-marks : (j : ℕ) → mark 0 j ≡ false
unfolding mark
no-marks j = rw zero-div

pub starts : (t : List ℕ) (ms : List Motif) (i : Inside) → i.saved ≡ 0 → picture_as i.picture ≡ scope.Picture.none → i.calls ≡ 0 → i.missing ≡ false
    → Runs i.both [] → Follows t ms i (starting i.at)
unfolding flat OwnLevel calls_row lacks_one any names_in
starts t ms i a b c d r =
    record { at = refl; saved = a; picture = b; whom = λ j l. ap (λ m. mark m j) c ∙ no-marks j; lacks = d; runs = λ g u k. r; level = refl }

-- nothing is noted of no operator
pub none-noted : (own : List ℕ) → numbers_in own 0 ≡ [] → Notes own []
unfolding collected selects_from
none-noted own e = record { are = e }

-- operators that select the same
pub same_noted : (own : List ℕ) (os qs : List Own) → selects_in qs ≡ selects_in os → Notes own os → Notes own qs
same_noted own os qs e h = record { are = h.are ∙ ap collected (sym e) }

-- what is faulty is not valid
is_valid : scope.Judged → Bool
is_valid (scope.valid ops) = true
is_valid (scope.faulty code place) = false

pub faulty-valid : {A : Type 0} {code place : ℕ} {ops : List Own} → scope.faulty code place ≡ scope.valid ops → A
unfolding is_valid
faulty-valid e = false_true (ap is_valid e)

-- the definition stands somewhere that the code follows, judging from there ends so, and where nothing was noted at first, what was selected since is noted
pub record Stands (t : List ℕ) (ms : List Motif) (set : Setting) (s : List ℕ) (end : scope.Judged) (first own : List ℕ) (i : Inside) : Type 0 where
  pub stands : scope.Inside
  pub follows : Follows t ms i stands
  pub judged : judged_inside set s stands ≡ end
  pub notes : numbers_in first 0 ≡ [] → Notes own stands.ops

-- the walk goes on from where the code goes on, and stops with what the code stops with
module _ (t : List ℕ) (ms : List Motif) (set : Setting) (s : List ℕ) (end : scope.Judged) where
  goes : (first was own : List ℕ) (i : Inside) (ops : List Own) (n : Next scope.Inside scope.Judged) → Turns t ms (Continue i) n → onward (judged_inside set s) n ≡ end
      → (numbers_in first 0 ≡ [] → Notes was ops) → NotesOn was own ops n → Stands t ms set s end first own i
  goes first was own i ops (stop _) x5 e p q = elim x5 [ ]
  goes first was own i ops (go w) (turns_go f) e p q = record { stands = w; follows = f; judged = e; notes = λ z. q (p z) }

  stops : (j : Result Made Refusal) (n : Next scope.Inside scope.Judged) → Turns t ms (Break j) n → onward (judged_inside set s) n ≡ end → Judges t ms j end
  stops j (go _) x3 e = elim x3 [ ]
  stops j (stop r) (turns_stop h) e = subst (λ x. Judges t ms j x) e h

  pub turned-go : (first was own : List ℕ) (i : Inside) (w : scope.Inside) → judged_inside set s w ≡ end → Turns t ms (Continue i) (motif_step set s w)
      → (numbers_in first 0 ≡ [] → Notes was w.ops) → NotesOn was own w.ops (motif_step set s w) → Stands t ms set s end first own i
  turned-go first was own i w e k = goes first was own i w.ops (motif_step set s w) k (sym (motif-step set s w) ∙ e)

  pub turned-stop : (j : Result Made Refusal) (w : scope.Inside) → judged_inside set s w ≡ end → Turns t ms (Break j) (motif_step set s w) → Judges t ms j end
  turned-stop j w e k = stops j (motif_step set s w) k (sym (motif-step set s w) ∙ e)

-- where the walk stops with a valid motif, what its operators select is noted
module _ (t : List ℕ) (ms : List Motif) (set : Setting) (s : List ℕ) (was own : List ℕ) (j : Result Made Refusal) (ops : List Own) where
  stop-notes : (before : List Own) (n : Next scope.Inside scope.Judged) → Turns t ms (Break j) n → onward (judged_inside set s) n ≡ scope.valid ops
      → Notes was before → NotesOn was own before n → Notes own ops
  stop-notes before (go _) x5 e p q = elim x5 [ ]
  stop-notes before (stop r) (turns_stop h) e p q = subst (λ x. NotesOn was own before (stop x)) e q p

  pub turned-notes : (w : scope.Inside) → judged_inside set s w ≡ scope.valid ops → Turns t ms (Break j) (motif_step set s w) → Notes was w.ops
      → NotesOn was own w.ops (motif_step set s w) → Notes own ops
  turned-notes w e k = stop-notes w.ops (motif_step set s w) k (sym (motif-step set s w) ∙ e)
