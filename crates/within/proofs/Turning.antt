-- One operator of a motif: where the code stands after it, the definition stands.
-- Assumes nothing.
use Prim.Native.Nat.{ℕ, suc, ◌+◌, ◌-◌, ◌*◌, ◌≤◌, ◌<◌}
use mathlib.Core.Path.{◌≡◌, refl, sym, ap, ◌∙◌, subst, subst⁻¹}
use mathlib.Core.Bool.{Bool, true, false}
use mathlib.Core.List.{List, [], ◌∷◌, ◌++◌}
use native.Mathlib.Omega.{arith}
use borrow.Author.Tests.{eq-eqb, ne_eqb}
use lib.ListN.{length, get_or}
use lib.Dec.{eqb}
use Rattle.scope.specs.Setting.{Setting}
use Rattle.scope.specs.Choice.{pick}
use Rattle.scope.specs.Attributes.{bytes_in}
use Rattle.scope.specs.Data.{reads_rows}
use Rattle.scope.specs.Reading.{Operator}
use Rattle.scope.specs.Arm.{Stroke, act_of}
use Rattle.scope.specs.Motif as scope
use Rattle.scope.specs.Motif.{Motif, saved_after, picture_after, own_by, on_end}
use Rattle.scope.specs.Calls.{flat}
use Rattle.scope.specs.Reach.{Name}
use Rattle.summary.specs.Sums.{SumsAs}
use Rattle.both.specs.Runs.{Runs}
use Rattle.summary.proofs.Empty.{empty-sums}
use Rattle.summary.specs.Balance.{Level, Balanced, OwnLevel}
use Rattle.arm.proofs.Rows.{flat-does, flat-calls}
use Rattle.both.proofs.Levels.{own-does, own-calls, own-level, saved-depth, may-saved}
use Rattle.order.specs.Pictures.{picture_as}
use Rattle.order.specs.declared.picture.Picture.{Picture as CodePicture}
use Rattle.order.specs.declared.picture.Picture.TheVariants as picture_is
use Rattle.key.specs.Mark.{mark}
use Rattle.motif.specs.Held.{Finds, finds_at, finds_none}
use Rattle.motif.specs.Tables.{calls_row, lacks_one, SumFor, SumsUp}
use Rattle.std.specs.Prelude.{Some, None, Result, Ok, Err}
use Rattle.within.proofs.Naming.{deed-row, deed-lacks, held-row, held-lacks, none_row, none-lacks}
use Rattle.within.specs.Judging.{Follows, Judges, judges_valid, judges_faulty, after_in, Called}
use Rattle.within.specs.declared.inside.Inside.{Inside}
use Rattle.within.specs.declared.inside.Made.{Made}
use Rattle.refusal.specs.declared.refusal.Refusal.{Refusal}
use Rattle.refusal.specs.declared.code.Code.TheVariants.{NotEnded}

-- an operator that is no call
module _ (t : List ℕ) (ms : List Motif) (set : Setting) (s : List ℕ) (o : Operator) (w : scope.Inside) where
  pub deed-on : (old new : Inside) → Follows t ms old w → new.at ≡ o.next → new.saved ≡ saved_after o.tag old.saved
      → picture_as new.picture ≡ picture_after set.high s o w.picture → new.calls ≡ old.calls → new.missing ≡ old.missing
      → ((row : List Stroke) (x : Stroke) → Runs old.both row → x.act ≡ act_of set s o → Runs new.both (row ++ (x ∷ [])))
      → (o.tag ≡ 0x5e → ⊥) → (o.tag ≡ 0x60 → 0 < w.saved) → Follows t ms new (after_in set s o w)
  unfolding after_in own_by act_of
  deed-on old new f a b c d e r n p =
      rw (ne_eqb o.tag 0x5e n)
      (record {
        at = a;
        saved = b ∙ ap (saved_after o.tag) f.saved;
        picture = c;
        whom = λ j l. ap (λ m. mark m j) d ∙ f.whom j l ∙ sym (deed-row ms w.ops o (act_of set s o) j);
        lacks = e ∙ f.lacks ∙ sym (deed-lacks ms w.ops o (act_of set s o));
        runs = λ g u k. subst⁻¹ (λ l. Runs new.both l) (flat-does g k w.ops o (act_of set s o)) (r (flat g k w.ops) _ (f.runs g u k) refl);
        level = subst (λ n. OwnLevel 0 (w.ops ++ (scope.does o (act_of set s o) ∷ [])) n) (saved-depth set s o.tag o.attrs w.saved)
            (own-does w.ops o (act_of set s o) 0 w.saved f.level (may-saved set s o.tag o.attrs w.saved p));
      })

-- a call leaves what is saved and the image
call-saved : (n : ℕ) → saved_after 0x5e n ≡ n
unfolding saved_after
call-saved n = refl

call-picture : (high : Bool) (s : List ℕ) (o : Operator) (p : scope.Picture) → o.tag ≡ 0x5e → picture_after high s o p ≡ p
unfolding reads_rows picture_after
call-picture high s o p e = rw e

-- what the table sums up for a name
module _ (t : List ℕ) (ms : List Motif) (f : Name → List Stroke) (name : Name) (summed : SumsUp t ms f) where
  is-summed : (m : Motif) → scope.held_as name ms ≡ scope.Held.is m → SumsAs (get_or t ((m.number - 1) * 10 + 6) 0) (f name)
  unfolding SumsUp
  is-summed m e = subst (λ h. SumFor t h (f name)) e (summed name)

  none-summed : scope.held_as name ms ≡ scope.Held.none → SumsAs 48 (f name)
  unfolding SumsUp
  none-summed e = let z : f name ≡ [] = subst (λ h. SumFor t h (f name)) e (summed name) in subst⁻¹ (λ l. SumsAs 48 l) z empty-sums

-- a call by a name, from what is noted of the name
module _ (t : List ℕ) (ms : List Motif) (set : Setting) (s : List ℕ) (o : Operator) (w : scope.Inside) (tag : o.tag ≡ 0x5e) (name : Name)
    (named : name ≡ bytes_in s o.attrs 139) (old new : Inside) (follows : Follows t ms old w) where
  on_call : {marks sum : ℕ} {lacks : Bool} → Called old o.next marks lacks sum new
      → ((j : ℕ) → j < 64 → mark marks j ≡ calls_row ms (w.ops ++ (scope.calls o name ∷ [])) j) → lacks ≡ lacks_one ms (w.ops ++ (scope.calls o name ∷ []))
      → ((f : Name → List Stroke) → SumsUp t ms f → SumsAs sum (f name)) → Follows t ms new (after_in set s o w)
  unfolding after_in own_by
  on_call {marks} {sum} c whom lacks summed =
      let saves : saved_after o.tag w.saved ≡ w.saved = ap (λ x. saved_after x w.saved) tag ∙ call-saved w.saved in
      rw (eq-eqb o.tag 0x5e tag, ← named)
      (record {
        at = c.at;
        saved = c.saved ∙ follows.saved ∙ sym saves;
        picture = ap picture_as c.picture ∙ follows.picture ∙ sym (call-picture set.high s o w.picture tag);
        whom = λ j l. ap (λ m. mark m j) c.calls ∙ whom j l;
        lacks = c.missing ∙ lacks;
        runs = λ f u k. subst⁻¹ (λ l. Runs new.both l) (flat-calls f k w.ops o name)
            (c.runs (flat f k w.ops) (f name) _ (follows.runs f u k) refl (summed f u));
        level = subst⁻¹ (λ n. OwnLevel 0 (w.ops ++ (scope.calls o name ∷ [])) n) saves (own-calls w.ops o name 0 w.saved follows.level);
      })

  -- a name that is not held: that is noted, and it performs nothing besides
  pub call_none : Finds ms name None → Called old o.next old.calls true 48 new → Follows t ms new (after_in set s o w)
  call_none (finds_none e) c =
      on_call c (λ j l. follows.whom j l ∙ sym (none_row ms w.ops o name e j l)) (sym (none-lacks ms w.ops o name e)) (λ f u. none-summed t ms f name u e)

  -- a held one: its row is marked, and it performs what the table sums up for it
  pub call_at : (i marks : ℕ) → Finds ms name (Some i) → ((j : ℕ) → mark marks j ≡ pick (eqb i j) true (mark old.calls j))
      → Called old o.next marks old.missing (get_or t (i * 10 + 6) 0) new → Follows t ms new (after_in set s o w)
  call_at i marks (finds_at {m = m} e n) k c =
      let row : m.number - 1 ≡ i = let z = n.row in omega arith in
      on_call c (λ j l. k j ∙ ap (λ b. pick (eqb i j) true b) (follows.whom j l) ∙ sym (held-row ms w.ops o name i m e n j))
      (follows.lacks ∙ sym (held-lacks ms w.ops o name m e)) (λ f u. rw row at (is-summed t ms f name u m e))

-- what the table sums up is balanced
nothing-balanced : Balanced []
unfolding Balanced Level
nothing-balanced = refl

held-balanced : (t : List ℕ) (row : List Stroke) (h : scope.Held) → SumFor t h row → Balanced row
unfolding SumsAs
held-balanced t row (scope.Held.is m) u = u.balanced
held-balanced t row scope.Held.none u = rw u nothing-balanced

-- the end, with nothing saved: the runs of a balanced row are summed up
pub ended-even : (t : List ℕ) (ms : List Motif) (i : Inside) (w : scope.Inside) (v : ℕ) → Follows t ms i w → w.saved ≡ 0
    → ((row : List Stroke) → Runs i.both row → Balanced row → SumsAs v row)
    → Judges t ms (Ok (record { sum = v; calls = i.calls; missing = i.missing })) (scope.valid w.ops)
unfolding Balanced SumsUp
ended-even t ms i w v f e r =
    judges_valid
    (record {
      whom = f.whom;
      lacks = f.lacks;
      summed = λ g u k. r (flat g k w.ops) (f.runs g u k) (own-level g k (λ n. held-balanced t (g n) (scope.held_as n ms) (u n)) w.ops 0 0 (rw e at f.level));
    })

-- the end with an image or a pattern open, and with neither
module _ (t : List ℕ) (ms : List Motif) (s : List ℕ) (w : scope.Inside) (len : ℕ) (long : length s ≡ len) where
  pub ended-open : (p : CodePicture) → (p ≡ picture_is.Nothing → ⊥) → picture_as p ≡ w.picture
      → Judges t ms (Err (record { code = NotEnded; place = len })) (on_end s w w.picture)
  unfolding on_end
  ended-open picture_is.Nothing n e = absurd (n refl)
  ended-open (picture_is.Being i) n e = rw (← e, long) judges_faulty
  ended-open (picture_is.Hatching i h) n e = rw (← e, long) judges_faulty

  pub ended-closed : (j : Result Made Refusal) → w.picture ≡ scope.Picture.none → Judges t ms j (pick (eqb w.saved 0) (scope.valid w.ops) (scope.faulty 27 len))
      → Judges t ms j (on_end s w w.picture)
  unfolding on_end
  ended-closed j e h = rw (e, long) h

-- an operator saves at most one state more
pub saved-most : (tag n r : ℕ) → r ≡ saved_after tag n → r ≤ n + 1
unfolding saved_after
saved-most tag n r e = subst⁻¹ (λ x. x ≤ n + 1) e (by (eqb tag 0x61) (eqb tag 0x60))
  where
    by : (a b : Bool) → pick a (suc n) (pick b (n - 1) n) ≤ n + 1
    by true b = omega arith
    by false true = omega arith
    by false false = omega arith
