-- A whole session stands in the bytes y of two jobs, behind other bytes and before others. Performed in one of them it is performed in the other, from outside a
-- session, where white space comes up to it and 26 and 28 hold by their numbers at its end: nothing looks at what stands behind y, and nothing at what stands before
-- it. Its operators are the same but for their places, which move with y.
-- Assumes nothing.
use Prim.Native.Nat.{ℕ, ◌+◌, ◌*◌, ◌≤◌}
use mathlib.Core.Path.{◌≡◌, refl, sym, ap, ◌∙◌, subst, subst₂, subst⁻¹}
use mathlib.Core.Bool.{Bool, true, false}
use mathlib.Core.List.{List, [], ◌∷◌, ◌++◌, append_assoc}
use native.Mathlib.Omega.{arith}
use lib.ListN.{length, drop, length-append}
use lib.Seq.{drop-append_seam}
use lib.Dec.{eqb}
use Rattle.scope.specs.Item.{Attribute, after as blackAfter}
use Rattle.scope.specs.Reading.{Operator, Read}
use Rattle.scope.specs.Setting.{Setting}
use Rattle.scope.specs.Session.{outside}
use Rattle.scope.specs.Judge.{State}
use Rattle.scope.specs.Verdict.{every}
use Rattle.scope.specs.Runs.{read_at, Runs, then, Pairwise}
use Rattle.scope.specs.Claims.{Further, AttributesMoved, OperatorMoved}
use Rattle.scope.specs.Exchange.{no_end, WholeSession, operators, first_at, starts, stops}
use Rattle.scope.proofs.Says.{LikePlace, outsides}
use Rattle.scope.proofs.Like.{far-start}
use Rattle.scope.proofs.Twice.{operator-moved}
use Rattle.scope.proofs.Sessions.{F}
use Rattle.scope.proofs.White.{shared_runs}
use Rattle.scope.proofs.ExchangeEdges.{session-performed, move_to, skip, from_start}
use Rattle.scope.proofs.ExchangeRuns.{Op, Like, Along, runs-along}

-- of two lists of operators, one by one, two parts
record Parted (Op : Operator → Operator → Type 0) (os ps qs : List Operator) : Type 0 where
  front : List Operator
  back : List Operator
  whole : qs ≡ front ++ back
  like_front : Pairwise Op os front
  like_back : Pairwise Op ps back

parted : {Op : Operator → Operator → Type 0} (os ps : List Operator) {qs : List Operator} → Pairwise Op (os ++ ps) qs → Parted Op os ps qs
parted [] ps {qs} k = record { front = []; back = qs; whole = refl; like_front = Pairwise.none; like_back = k }
parted (o ∷ os) ps (Pairwise.more {b = b} h k) =
    let r = parted os ps k in
    record { front = b ∷ r.front; back = r.back; whole = ap (λ l. b ∷ l) r.whole; like_front = Pairwise.more h r.like_front; like_back = r.like_back }

pairwise_map : {P Q : Operator → Operator → Type 0} → ((a b : Operator) → P a b → Q a b) → {os ps : List Operator} → Pairwise P os ps → Pairwise Q os ps
pairwise_map f Pairwise.none = Pairwise.none
pairwise_map f (Pairwise.more h k) = Pairwise.more (f _ _ h) (pairwise_map f k)

-- a session whose operators have moved
module _ (At : ℕ → ℕ → Type 0) where
  no-end_moved : {os ps : List Operator} → Pairwise (OperatorMoved At) os ps → no_end os ≡ no_end ps
  unfolding no_end
  no-end_moved Pairwise.none = refl
  no-end_moved (Pairwise.more h k) = λ i. elim (eqb (h.tag i) 0x42) as (λ _. Bool) [ true ↦ false | false ↦ no-end_moved k i ]

  first_moved : (a b : ℕ) {l m : List Attribute} → At a b → AttributesMoved At l m → At (first_at a l) (first_at b m)
  first_moved a b h AttributesMoved.none = h
  first_moved a b h (AttributesMoved.more k r) = k.at

  -- it is a whole session again, which starts and ends where the first one does but for the change of place
  pub record MovedSession (w : WholeSession) (ops : List Operator) : Type 0 where
    pub other : WholeSession
    pub is : operators other ≡ ops
    pub started : At (starts w) (starts other)
    pub ended : At w.end.at other.end.at

  one_more : (w : WholeSession) {b : Operator} {qs : List Operator} → OperatorMoved At w.begin b → Parted (OperatorMoved At) w.middle (w.end ∷ []) qs
      → MovedSession w (b ∷ qs)
  one_more w {b} {qs} h r = by r.back r.like_back r.whole
    where
      by : (l : List Operator) → Pairwise (OperatorMoved At) (w.end ∷ []) l → qs ≡ r.front ++ l → MovedSession w (b ∷ qs)
      by l (Pairwise.more {b = e} x Pairwise.none) f =
          record {
            other = record {
              begin = b;
              middle = r.front;
              end = e;
              begins = sym h.tag ∙ w.begins;
              goes_on = sym (no-end_moved r.like_front) ∙ w.goes_on;
              ends = sym x.tag ∙ w.ends;
            };
            is = ap (λ z. b ∷ z) (sym f);
            started = first_moved w.begin.at b.at h.at h.attrs;
            ended = x.at;
          }

  pub session-moved : (w : WholeSession) {ops : List Operator} → Pairwise (OperatorMoved At) (operators w) ops → MovedSession w ops
  session-moved w (Pairwise.more h k) = one_more w h (parted w.middle (w.end ∷ []) k)

-- the session in the other job
module _ (set : Setting) (room : ℕ) (p q y v w : List ℕ) where
  abbrev s : List ℕ
  s = p ++ (y ++ v)

  abbrev t : List ℕ
  t = q ++ (y ++ w)

  pub record Carried (one : WholeSession) (a end b : State) : Type 0 where
    pub other : WholeSession
    pub last : State
    pub runs : Runs every set t room b (operators other) last
    pub moved : Pairwise (OperatorMoved (Further (length p) (length q))) (operators one) (operators other)
    pub start : starts other ≡ length q
    pub stop : stops other ≡ length q + length y
    pub performed : end.performed + b.performed ≡ last.performed + a.performed
    pub records : end.records + b.records ≡ last.records + a.records

  abbrev cut : List ℕ
  cut = p ++ (y ++ w)

  -- nothing looks at what stands behind y
  cut-runs : {a end : State} {os : List Operator} → Runs every set s room a os end → end.at ≤ length p + length y → Runs every set cut room a os end
  cut-runs {a} {end} {os} r h =
      let k = length-append p y in
      subst (λ z. Runs every set z room a os end) (append_assoc p y w)
      (shared_runs (p ++ y) v w set room (subst⁻¹ (λ z. Runs every set z room a os end) (append_assoc p y v) r) (omega arith))

  up-to_p : length p ≤ length cut
  up-to_p = let e = length-append p (y ++ w) in omega arith

  up-to_q : length q ≤ length t
  up-to_q = let e = length-append q (y ++ w) in omega arith

  same_bytes : drop (length p) cut ≡ drop (length q) t
  same_bytes = drop-append_seam p (y ++ w) ∙ sym (drop-append_seam q (y ++ w))

  not-ended : {a b : State} {o : Operator} {os : List Operator} → Runs every set cut room a (o ∷ os) b → read_at every set cut a ≡ Read.ended → ⊥
  not-ended (then k r) e = subst IsOp (sym k.reads ∙ e) tt
    where
      IsOp : Read → Type 0
      IsOp (Read.operator o) = Unit {0}
      IsOp Read.ended = ⊥
      IsOp (Read.no code place) = ⊥

  module _ (one : WholeSession) (a end b : State) (after_one : Bool) (run : Runs every set s room a (operators one) end) (start : starts one ≡ length p)
      (stop : stops one ≡ length p + length y) (b-outside : b.place ≡ outside after_one) (b-white : blackAfter t b.at ≡ blackAfter t (length q))
      (count : end.performed + b.performed ≤ 1_000_000 + a.performed) (fits : (end.records + b.records) * 16 ≤ room + a.records * 16) where
    abbrev x : State
    x = move_to (length p) a

    abbrev z : State
    z = move_to (length q) b

    run-x : Runs every set cut room x (operators one) end
    run-x =
        let e = (session-performed set s room one run).to_place in
        subst (λ m. Runs every set cut room (move_to m a) (operators one) end) start (from_start set cut room one (cut-runs run (omega arith)))

    like-start : Like cut t x z up-to_p up-to_q same_bytes set room room x z
    like-start =
        record {
          at = far-start cut t (length p) (length q) up-to_p up-to_q same_bytes;
          place = subst₂ (LikePlace (read_at every set cut x ≡ Read.ended → ⊥)) (sym (session-performed set cut room one run-x).from_outside) (sym b-outside) (outsides (not-ended run-x));
          performed = omega arith;
          records = omega arith;
        }

    along : Along cut t x z up-to_p up-to_q same_bytes set room room (operators one) end z
    along = runs-along cut t x z up-to_p up-to_q same_bytes set room room run-x like-start count fits

    all_moved : Pairwise (OperatorMoved (Further (length p) (length q))) (operators one) along.ops
    all_moved =
        pairwise_map (λ c d h. operator-moved set.high set.high cut t (Further (length p) (length q)) (F cut t x z up-to_p up-to_q same_bytes set room room) h) along.like_ops

    the_session : MovedSession (Further (length p) (length q)) one along.ops
    the_session = session-moved (Further (length p) (length q)) one all_moved

    pub carried : Carried one a end b
    carried =
        let m = the_session in
        let i = m.started in
        let j = m.ended in
        record {
          other = m.other;
          last = along.last;
          runs = skip set t room b.at (subst⁻¹ (λ l. Runs every set t room z l along.last) m.is along.runs) (sym b-white);
          moved = subst⁻¹ (Pairwise (OperatorMoved (Further (length p) (length q))) (operators one)) m.is all_moved;
          start = omega arith;
          stop = omega arith;
          performed = along.like.performed;
          records = along.like.records;
        }
