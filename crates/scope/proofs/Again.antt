-- Reading the bytes of a held motif again gives the operators that the judge found in it: what `unfolded` says of a name is what the plain arm reads at a call.
-- Assumes nothing.
use Prim.Native.Nat.{ℕ, zero, suc, ◌+◌, ◌-◌, ◌<◌}
use mathlib.Core.Path.{◌≡◌, refl, sym, ap, ◌∙◌}
use mathlib.Core.Bool.{Bool, true, false}
use mathlib.Core.List.{List, [], ◌∷◌, ◌++◌, append-nil, append_assoc}
use native.Mathlib.Omega.{arith}
use lib.ListN.{length}
use lib.Dec.{eqb}
use Rattle.scope.specs.Choice.{pick}
use Rattle.scope.specs.Iterate.{onward}
use Rattle.scope.specs.Header.{Header, header_of}
use Rattle.scope.specs.Attributes.{bytes_in}
use Rattle.scope.specs.Setting.{Setting, of_motif, same_class}
use Rattle.scope.specs.Reading.{Operator, Read}
use Rattle.scope.specs.Arm.{idle, act_of, Stroke}
use Rattle.scope.specs.Motif.{Own, does, calls, Picture, picture_after, saved_after, Judged, valid, faulty, Inside, context_in, own_by, on_end, on_read, motif_step, judged_inside, motif_from, motif_of}
use Rattle.scope.specs.Calls.{flat}
use Rattle.scope.specs.Plain.{Found, strokes_of, Going, on_own, own_step, own_from, own_after, own_of}
use Rattle.scope.proofs.Ends.{GoodRead, read-good}
use Rattle.scope.proofs.Apart.{not_valid}
use Rattle.scope.proofs.Falls.{motif-step, own-step}

ops_of : Judged → List Own
ops_of (valid ops) = ops
ops_of (faulty code inner) = []

ops-same : {xs ys : List Own} → valid xs ≡ valid ys → xs ≡ ys
unfolding ops_of
ops-same e = ap ops_of e

module _ (call : List ℕ → List Stroke) (k : ℕ) where
  flat_append : (xs ys : List Own) → flat call k (xs ++ ys) ≡ flat call k xs ++ flat call k ys
  unfolding flat
  flat_append [] ys = refl
  flat_append (does o a ∷ xs) ys = ap (λ l. record { motif = k; op = o; act = a } ∷ l) (flat_append xs ys)
  flat_append (calls o n ∷ xs) ys =
      ap (λ l. record { motif = k; op = o; act = idle } ∷ l)
      (ap (λ l. call n ++ l) (flat_append xs ys) ∙ sym (append_assoc (call n) (flat call k xs) (flat call k ys)))

  module _ (set : Setting) (s : List ℕ) where
    -- one operator
    flat-one : (o : Operator) → strokes_of call k set s o ≡ flat call k (own_by set s o ∷ [])
    unfolding strokes_of flat own_by
    flat-one o = by (eqb o.tag 0x5e)
      where
        by : (b : Bool)
            → pick b (record { motif = k; op = o; act = idle } ∷ call (bytes_in s o.attrs 139)) (record { motif = k; op = o; act = act_of set s o } ∷ [])
            ≡ flat call k (pick b (calls o (bytes_in s o.attrs 139)) (does o (act_of set s o)) ∷ [])
        by true = ap (λ l. record { motif = k; op = o; act = idle } ∷ l) (sym (append-nil (call (bytes_in s o.attrs 139))))
        by false = refl

    -- the arm where the judging stands
    abbrev going : Inside → Going
    going w = record { at = w.at; saved = w.saved; picture = w.picture; row = flat call k w.ops }

    module _ {ops : List Own} where
      ended-again : (w : Inside) (p : Picture) → on_end s w p ≡ valid ops → flat call k w.ops ≡ flat call k ops
      unfolding on_end
      ended-again w (Picture.being i) e = not_valid e
      ended-again w (Picture.hatching h i) e = not_valid e
      ended-again w Picture.none e = by (eqb w.saved 0) e
        where
          by : (b : Bool) → pick b (valid w.ops) (faulty 27 (length s)) ≡ valid ops → flat call k w.ops ≡ flat call k ops
          by true f = ap (flat call k) (ops-same f)
          by false f = not_valid f

      module _ (n : ℕ) (ih : (w : Inside) → length s - w.at < n → judged_inside set s w ≡ valid ops → own_from call k set s (going w) ≡ flat call k ops) where
        on-again : (w : Inside) → length s - w.at < suc n → {may : ℕ → Bool} {r : Read} → GoodRead (length s) w.at may r
            → onward (judged_inside set s) (on_read set s w r) ≡ valid ops
            → onward (own_from call k set s) (on_own call k set s (going w) r) ≡ flat call k ops
        unfolding on_read on_own
        on-again w h (GoodRead.operator {o = o} p q m) e =
            let l : length s - o.next < n = omega arith in
            let saved = saved_after o.tag w.saved in
            let picture = picture_after set.high s o w.picture in
            let row = ap (λ r. flat call k w.ops ++ r) (flat-one o) ∙ sym (flat_append w.ops (own_by set s o ∷ [])) in
            ap (λ r. own_from call k set s (record { at = o.next; saved = saved; picture = picture; row = r })) row
            ∙ ih (record { at = o.next; saved = saved; picture = picture; ops = w.ops ++ (own_by set s o ∷ []) }) l e
        on-again w h GoodRead.ended e = ended-again w w.picture e
        on-again w h (GoodRead.no c) e = not_valid e

      again : (n : ℕ) (w : Inside) → length s - w.at < n → judged_inside set s w ≡ valid ops → own_from call k set s (going w) ≡ flat call k ops
      unfolding motif_step own_step context_in
      again zero w h e = absurd (omega arith)
      again (suc n) w h e =
          own-step call k set s (going w) ∙ on-again n (again n) w h (read-good (context_in set w) s w.at) (sym (motif-step set s w) ∙ e)

  again-after : (set : Setting) (s : List ℕ) (h : Header) {ops : List Own} → motif_from set s h ≡ valid ops → own_after call k set s h ≡ flat call k ops
  unfolding motif_from own_after flat
  again-after set s (Header.no code place) e = not_valid e
  again-after set s (Header.is class high next) {ops} e = by (same_class class set.class) e
    where
      start : Inside
      start = record { at = next; saved = 0; picture = Picture.none; ops = [] }

      by : (b : Bool) → pick b (judged_inside (of_motif set high) s start) (faulty 4 12) ≡ valid ops → own_from call k (of_motif set high) s (going (of_motif set high) s start) ≡ flat call k ops
      by true f = again (of_motif set high) s (suc (length s - next)) start (omega arith) f
      by false f = not_valid f

  -- the operators of a motif that was found valid, read again
  pub read_again : (set : Setting) (s : List ℕ) {ops : List Own} → motif_of set s ≡ valid ops → own_of call set (Found.is k s) ≡ flat call k ops
  unfolding motif_of own_of
  read_again set s e = again-after set s (header_of s) e
