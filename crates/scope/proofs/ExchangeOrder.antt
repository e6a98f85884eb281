-- Request 14, any order: a job is its sessions with other bytes around them. Two neighbours exchanged give such a job again, with the sessions in the new order, so
-- that two others may be exchanged in it.
-- Assumes nothing.
use Prim.Native.Nat.{ℕ, ◌+◌, ◌-◌, ◌≤◌}
use mathlib.Core.Path.{◌≡◌, refl, sym, ap, ◌∙◌, subst, subst₂, subst⁻¹}
use mathlib.Core.Bool.{Bool}
use mathlib.Core.List.{List, [], ◌∷◌, ◌++◌, append_assoc}
use native.Mathlib.Omega.{arith}
use lib.ListN.{length, drop, length-append}
use Rattle.scope.specs.Setting.{Setting}
use Rattle.scope.specs.Judge.{State}
use Rattle.scope.specs.Verdict.{every, verdict_of}
use Rattle.scope.specs.Runs.{Runs}
use Rattle.scope.specs.Exchange.{Lists, WholeSession, operators, starts, stops, part, all_operators, bytes_of, around, woven, Reordered, AnyOrder}
use Rattle.scope.proofs.Runs.{runs-split}
use Rattle.scope.proofs.ExchangeEdges.{session-performed, session-within}
use Rattle.scope.proofs.ExchangeParts.{joined}
use Rattle.scope.proofs.ExchangeListed.{let_in, setting, run_of, from-header}
use Rattle.scope.proofs.Exchange.{parts-exchanged, cut_at, part-long}

all_append : (l bs : List WholeSession) → all_operators (l ++ bs) ≡ all_operators l ++ all_operators bs
unfolding all_operators
all_append [] bs = refl
all_append (a ∷ l) bs = ap (λ l. operators a ++ l) (all_append l bs) ∙ sym (append_assoc (operators a) (all_operators l) (all_operators bs))

-- sessions stand in stretches, from a place on, each behind one of the gaps
data Fits : ℕ → List (List ℕ) → List (List ℕ) → List WholeSession → Type 0 where
  none : {at : ℕ} {g : List ℕ} → Fits at (g ∷ []) [] []
  more : {at : ℕ} {g x : List ℕ} {gs xs : List (List ℕ)} {a : WholeSession} {l : List WholeSession} → starts a ≡ at + length g → stops a ≡ at + length g + length x
      → Fits (at + length g + length x) gs xs l → Fits at (g ∷ gs) (x ∷ xs) (a ∷ l)

-- two of them, next to each other: the bytes in five parts, whatever stands in the two stretches; and two others that stand there in the other order
record Focus (at : ℕ) (gs before : List (List ℕ)) (x y : List ℕ) (rest : List (List ℕ)) (sessions : List WholeSession) : Type 0 where
  front : List ℕ
  gap : List ℕ
  back : List ℕ
  earlier : List WholeSession
  one : WholeSession
  two : WholeSession
  later : List WholeSession
  all : sessions ≡ earlier ++ (one ∷ two ∷ later)
  bytes : (p q : List ℕ) → woven gs (before ++ (p ∷ q ∷ rest)) ≡ joined front p gap q back
  start_one : starts one ≡ at + length front
  stop_one : stops one ≡ at + length front + length x
  start_two : starts two ≡ at + length front + length x + length gap
  stop_two : stops two ≡ at + length front + length x + length gap + length y
  refit : (a b : WholeSession) → starts a ≡ at + length front → stops a ≡ at + length front + length y → starts b ≡ at + length front + length y + length gap
      → stops b ≡ at + length front + length y + length gap + length x → Fits at gs (before ++ (y ∷ x ∷ rest)) (earlier ++ (a ∷ b ∷ later))

focus : {at : ℕ} {gs : List (List ℕ)} (before : List (List ℕ)) {x y : List ℕ} {rest : List (List ℕ)} {sessions : List WholeSession}
    → Fits at gs (before ++ (x ∷ y ∷ rest)) sessions → Focus at gs before x y rest sessions
unfolding woven
focus {at} [] {x} {y} {rest} (more {g = g} {a = one} s t (more {g = h} {gs = gs} {a = two} {l = later} u v k)) =
    record {
      front = g;
      gap = h;
      back = woven gs rest;
      earlier = [];
      one = one;
      two = two;
      later = later;
      all = refl;
      bytes = λ p q. refl;
      start_one = s;
      stop_one = t;
      start_two = u;
      stop_two = v;
      refit = λ a b sa ta sb tb.
          let e : at + length g + length x + length h + length y ≡ at + length g + length y + length h + length x = omega arith in
          more sa ta (more sb tb (subst (λ n. Fits n gs rest later) e k));
    }
focus {at} (z ∷ before) {x} {y} {rest} (more {g = g} {gs = gs} {a = a} s t k) =
    let f = focus {at = at + length g + length z} before k in
    let l : length (g ++ (z ++ f.front)) ≡ length g + length z + length f.front = let m = length-append g (z ++ f.front) in let n = length-append z f.front in omega arith in
    let i = f.start_one in
    let j = f.stop_one in
    let m = f.start_two in
    let n = f.stop_two in
    record {
      front = g ++ (z ++ f.front);
      gap = f.gap;
      back = f.back;
      earlier = a ∷ f.earlier;
      one = f.one;
      two = f.two;
      later = f.later;
      all = ap (λ r. a ∷ r) f.all;
      bytes = λ p q.
          let r = p ++ (f.gap ++ (q ++ f.back)) in
          ap (λ w. g ++ (z ++ w)) (f.bytes p q) ∙ ap (λ w. g ++ w) (sym (append_assoc z f.front r)) ∙ sym (append_assoc g (z ++ f.front) r);
      start_one = omega arith;
      stop_one = omega arith;
      start_two = omega arith;
      stop_two = omega arith;
      refit = λ b c sb tb sc tc. more s t (f.refit b c (omega arith) (omega arith) (omega arith) (omega arith));
    }

-- a job of sessions with gaps around them
module _ (gray : Bool) (work room : ℕ) (gaps : List (List ℕ)) where
  record Laid (order : List (List ℕ)) : Type 0 where
    sessions : List WholeSession
    listed : Lists gray (woven gaps order) work room (all_operators sessions)
    fits : Fits 0 gaps order sessions

  record Again (old order : List (List ℕ)) : Type 0 where
    laid : Laid order
    verdict : verdict_of gray (woven gaps order) work room ≡ verdict_of gray (woven gaps old) work room

  -- two neighbours exchanged
  exchanged-again : (before : List (List ℕ)) (x y : List ℕ) (rest : List (List ℕ)) → Laid (before ++ (x ∷ y ∷ rest))
      → Again (before ++ (x ∷ y ∷ rest)) (before ++ (y ∷ x ∷ rest))
  unfolding all_operators
  exchanged-again before x y rest l =
      let f = focus before l.fits in
      let s : woven gaps (before ++ (x ∷ y ∷ rest)) ≡ joined f.front x f.gap y f.back = f.bytes x y in
      let t : woven gaps (before ++ (y ∷ x ∷ rest)) ≡ joined f.front y f.gap x f.back = f.bytes y x in
      let ops : all_operators l.sessions ≡ all_operators f.earlier ++ (operators f.one ++ (operators f.two ++ all_operators f.later)) =
      ap all_operators f.all ∙ all_append f.earlier (f.one ∷ f.two ∷ f.later) in
      let i = f.start_one in
      let j = f.stop_one in
      let m = f.start_two in
      let n = f.stop_two in
      let p = parts-exchanged gray work room f.front x f.gap y f.back (all_operators f.earlier) f.one f.two (all_operators f.later)
      (subst (λ z. Lists gray z work room (all_operators f.earlier ++ (operators f.one ++ (operators f.two ++ all_operators f.later)))) s
      (subst (Lists gray (woven gaps (before ++ (x ∷ y ∷ rest))) work room) ops l.listed)) (omega arith) (omega arith) (omega arith) (omega arith) in
      let a = p.start_second in
      let b = p.stop_second in
      let c = p.start_first in
      let d = p.stop_first in
      record {
        laid = record {
          sessions = f.earlier ++ (p.second' ∷ p.first' ∷ f.later);
          listed = subst⁻¹ (λ z. Lists gray z work room (all_operators (f.earlier ++ (p.second' ∷ p.first' ∷ f.later)))) t
              (subst⁻¹ (Lists gray (joined f.front y f.gap x f.back) work room) (all_append f.earlier (p.second' ∷ p.first' ∷ f.later)) p.listed);
          fits = f.refit p.second' p.first' (omega arith) (omega arith) (omega arith) (omega arith);
        };
        verdict = ap (λ z. verdict_of gray z work room) t ∙ p.verdict ∙ sym (ap (λ z. verdict_of gray z work room) s);
      }

  -- and again, behind some that stay
  reordered : (before : List (List ℕ)) {l m : List (List ℕ)} → Reordered l m → Laid (before ++ l) → Again (before ++ l) (before ++ m)
  reordered before Reordered.none k = record { laid = k; verdict = refl }
  reordered before (Reordered.behind {x = x} {l = l} {m = m} r) k =
      subst₂ Again (append_assoc before (x ∷ []) l) (append_assoc before (x ∷ []) m)
      (reordered (before ++ (x ∷ [])) r (subst⁻¹ Laid (append_assoc before (x ∷ []) l) k))
  reordered before (Reordered.exchange {x = x} {y = y} {l = l}) k = exchanged-again before x y l k
  reordered before (Reordered.again r q) k =
      let a = reordered before r k in
      let b = reordered before q a.laid in
      record { laid = b.laid; verdict = b.verdict ∙ a.verdict }

-- the sessions of a job stand one behind the other
data Ascending (long : ℕ) : ℕ → List WholeSession → Type 0 where
  none : {at : ℕ} → Ascending long at []
  more : {at : ℕ} {a : WholeSession} {l : List WholeSession} → at ≤ starts a → starts a ≤ stops a → stops a ≤ long → Ascending long (stops a) l → Ascending long at (a ∷ l)

module _ (set : Setting) (job : List ℕ) (room : ℕ) where
  ascending : (sessions : List WholeSession) {st end : State} → Runs every set job room st (all_operators sessions) end → st.at ≤ length job → Ascending (length job) st.at sessions
  unfolding all_operators
  ascending [] r h = none
  ascending (a ∷ l) r h =
      let p = runs-split every set job room (operators a) (all_operators l) r in
      let w = session-within set job room a p.first h in
      let e = (session-performed set job room a p.first).to_place in
      let k = w.2 in
      more w.0 w.1 w.2 (subst (λ n. Ascending (length job) n l) e (ascending l p.second (omega arith)))

-- so the job is their bytes, and what stands around them
module _ (job : List ℕ) where
  woven_back : {at : ℕ} {sessions : List WholeSession} → Ascending (length job) at sessions → woven (around job at sessions) (bytes_of job sessions) ≡ drop at job
  unfolding woven around bytes_of
  woven_back none = refl
  woven_back {at} (more {a = a} p q r k) =
      ap (λ z. part at (starts a) job ++ (part (starts a) (stops a) job ++ z)) (woven_back k)
      ∙ ap (λ z. part at (starts a) job ++ z) (sym (cut_at (starts a) (stops a) job q)) ∙ sym (cut_at at (starts a) job p)

  fits-there : {at : ℕ} {sessions : List WholeSession} → Ascending (length job) at sessions → Fits at (around job at sessions) (bytes_of job sessions) sessions
  unfolding around bytes_of
  fits-there none = none
  fits-there {at} (more {a = a} {l = l} p q r k) =
      let u = part-long at (starts a) job p (omega arith) in
      let v = part-long (starts a) (stops a) job q r in
      let d : starts a ≡ at + length (part at (starts a) job) = omega arith in
      let e : stops a ≡ at + length (part at (starts a) job) + length (part (starts a) (stops a) job) = omega arith in
      more d e (subst (λ n. Fits n (around job (stops a) l) (bytes_of job l) l) e (fits-there k))

module _ (gray : Bool) (job : List ℕ) (work room : ℕ) where
  from_front : {at : ℕ} (sessions : List WholeSession) → Ascending (length job) at sessions → Ascending (length job) 0 sessions
  from_front [] none = none
  from_front (a ∷ l) (more p q r k) = let z : 0 ≤ starts a = omega arith in more z q r k

  in_place : (sessions : List WholeSession) → Lists gray job work room (all_operators sessions) → Ascending (length job) 0 sessions
  unfolding all_operators
  in_place [] e = none
  in_place (a ∷ l) e =
      let i = let_in gray job work room a.begin [] ((a.middle ++ (a.end ∷ [])) ++ all_operators l) e in
      from_front (a ∷ l)
      (ascending (setting gray job work room i) job room (a ∷ l) (run_of gray job work room i (all_operators (a ∷ l)) e) (from-header gray job work room i))

pub any_order : AnyOrder
any_order gray job work room sessions order e r =
    let p = in_place gray job work room sessions e in
    let b : woven (around job 0 sessions) (bytes_of job sessions) ≡ job = woven_back job p in
    let l : Laid gray work room (around job 0 sessions) (bytes_of job sessions) =
    record { sessions = sessions; listed = subst⁻¹ (λ z. Lists gray z work room (all_operators sessions)) b e; fits = fits-there job p } in
    (reordered gray work room (around job 0 sessions) [] r l).verdict ∙ ap (λ z. verdict_of gray z work room) b
