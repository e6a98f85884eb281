-- A motif that is judged valid has balanced operators of its own.
use Prim.Native.Nat.{ℕ, zero, suc, ◌<◌}
use mathlib.Core.Path.{◌≡◌, refl, sym, subst⁻¹}
use mathlib.Core.Bool.{true, true≢false}
use mathlib.Core.List.{List, [], ◌∷◌, ◌++◌}
use lib.Dec.{eqb}
use lib.ListN.{length}
use borrow.Author.Tests.{eqb-true}
use Rattle.scope.specs.Iterate.{Next, go, stop, onward, run, iterate}
use Rattle.scope.specs.Header.{Header, header_of}
use Rattle.scope.specs.Setting.{Setting, of_motif, same_class}
use Rattle.scope.specs.Order.{may_come}
use Rattle.scope.specs.Attributes.{bytes_in}
use Rattle.scope.specs.Reading.{Operator, Read}
use Rattle.scope.specs.Arm.{act_of}
use Rattle.scope.specs.Motif.{Own, calls, Picture, phase_in, saved_after, Inside, Judged, valid, faulty, context_in, own_by, on_end, on_read, motif_step, judged_inside, motif_from, motif_of}
use Rattle.scope.proofs.Ends.{pick_all, GoodRead, read-good}
use Rattle.summary.specs.Balance.{OwnLevel}
use Rattle.both.proofs.Levels.{own-does, own-calls, saved-depth, may-saved, drawn-pop}

-- a judgement that, where it is valid, has balanced operators
pub data Even : Judged → Type 0 where
  even_valid : {os : List Own} → OwnLevel 0 os 0 → Even (valid os)
  even_faulty : {code inner : ℕ} → Even (faulty code inner)

-- a step that goes on with as many saved as the operators so far leave, or stops with such a judgement
data EvenNext : Next Inside Judged → Type 0 where
  even_go : {w : Inside} → OwnLevel 0 w.ops w.saved → EvenNext (go w)
  even_stop : {r : Judged} → Even r → EvenNext (stop r)

-- a PopGS finds something saved
pop-finds : (p : Picture) (n tag : ℕ) → may_come (phase_in n p) true tag ≡ true → tag ≡ 0x60 → 0 < n
unfolding may_come phase_in
pop-finds Picture.none n tag h e = drawn-pop n tag h e
pop-finds (Picture.being i) n tag h e = absurd (true≢false (sym (rw e at h)))
pop-finds (Picture.hatching k i) n tag h e = absurd (true≢false (sym (rw e at h)))

call-saves : (n : ℕ) → saved_after 0x5e n ≡ n
unfolding saved_after
call-saves n = refl

-- one more of its own operators
own-even : (set : Setting) (s : List ℕ) (o : Operator) (os : List Own) (n : ℕ) → OwnLevel 0 os n → (o.tag ≡ 0x60 → 0 < n)
    → OwnLevel 0 (os ++ (own_by set s o ∷ [])) (saved_after o.tag n)
unfolding own_by act_of
own-even set s o os n h p =
    pick_all (λ x. OwnLevel 0 (os ++ (x ∷ [])) (saved_after o.tag n)) (eqb o.tag 0x5e)
    (λ t. let e : saved_after o.tag n ≡ n = quiet (eqb-true o.tag 0x5e t) in subst⁻¹ (λ k. OwnLevel 0 (os ++ (calls o (bytes_in s o.attrs 139) ∷ [])) k) e (own-calls os o (bytes_in s o.attrs 139) 0 n h))
    (λ _. rw (saved-depth set s o.tag o.attrs n) at (own-does os o (act_of set s o) 0 n h (may-saved set s o.tag o.attrs n p)))
  where
    quiet : o.tag ≡ 0x5e → saved_after o.tag n ≡ n
    quiet e = rw e (call-saves n)

end-even : (s : List ℕ) (w : Inside) (p : Picture) → OwnLevel 0 w.ops w.saved → Even (on_end s w p)
unfolding on_end
end-even s w (Picture.being i) h = even_faulty
end-even s w (Picture.hatching k i) h = even_faulty
end-even s w Picture.none h = pick_all Even (eqb w.saved 0) (λ t. even_valid (rw (eqb-true w.saved 0 t) at h)) (λ _. even_faulty)

read-even : (set : Setting) (s : List ℕ) (w : Inside) {r : Read} → OwnLevel 0 w.ops w.saved
    → GoodRead (length s) w.at (may_come (phase_in w.saved w.picture) true) r → EvenNext (on_read set s w r)
unfolding on_read
read-even set s w h (GoodRead.operator {o = o} k l m) =
    even_go (own-even set s o w.ops w.saved h (pop-finds w.picture w.saved o.tag m))
read-even set s w h GoodRead.ended = even_stop (end-even s w w.picture h)
read-even set s w h (GoodRead.no k) = even_stop even_faulty

step-even : (set : Setting) (s : List ℕ) (w : Inside) → OwnLevel 0 w.ops w.saved → EvenNext (motif_step set s w)
unfolding motif_step context_in
step-even set s w h = read-even set s w h (read-good (context_in set w) s w.at)

onward-even : (k : Inside → Judged) → ((w : Inside) → OwnLevel 0 w.ops w.saved → Even (k w)) → {x : Next Inside Judged} → EvenNext x → Even (onward k x)
onward-even k f (even_go h) = f _ h
onward-even k f (even_stop e) = e

run-even : (set : Setting) (s : List ℕ) (f : ℕ) (w : Inside) → OwnLevel 0 w.ops w.saved → Even (run (motif_step set s) (faulty 5 0) f w)
unfolding run
run-even set s zero w h = even_faulty
run-even set s (suc f) w h = onward-even (run (motif_step set s) (faulty 5 0) f) (run-even set s f) (step-even set s w h)

from-even : (set : Setting) (s : List ℕ) (x : Header) → Even (motif_from set s x)
unfolding motif_from judged_inside iterate OwnLevel
from-even set s (Header.no code place) = even_faulty
from-even set s (Header.is class high next) =
    pick_all Even (same_class class set.class) (λ _. run-even (of_motif set high) s _ _ refl) (λ _. even_faulty)

-- a motif judged at EndStream
pub motif-even : (set : Setting) (s : List ℕ) → Even (motif_of set s)
unfolding motif_of
motif-even set s = from-even set s (header_of s)

pub valid-balanced : (set : Setting) (s : List ℕ) (os : List Own) → motif_of set s ≡ valid os → OwnLevel 0 os 0
valid-balanced set s os e = found (rw e at (motif-even set s))
  where
    found : Even (valid os) → OwnLevel 0 os 0
    found (even_valid h) = h
