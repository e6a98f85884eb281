-- Two judgings side by side, of two jobs in which the same is read, place by place: they go along together, operator by operator, until both end the same way or 26
-- or 28 ends one of them.
-- Assumes nothing.
use Prim.Native.Nat.{ℕ, ◌+◌, ◌-◌}
use mathlib.Core.Path.{◌≡◌, refl, sym, ap, ◌∙◌, subst₂}
use mathlib.Core.Bool.{Bool, true, false}
use mathlib.Core.List.{List, [], ◌∷◌}
use native.Mathlib.Omega.{arith}
use lib.ListN.{length}
use Rattle.scope.specs.Item.{Attribute}
use Rattle.scope.specs.Reading.{Operator, Read}
use Rattle.scope.specs.Setting.{Setting}
use Rattle.scope.specs.Session.{Place, outside, inside}
use Rattle.scope.specs.Judge.{State, Refusal, Outcome, rules, first_broken, refused_at, end_at, judged_from}
use Rattle.scope.specs.Runs.{read_at, case_at, next, Performs, Runs, here, then, Ends, ended, unread, refused, Pairwise}
use Rattle.scope.specs.Claims.{limit, AttributeMoved, AttributesMoved, OperatorMoved}
use Rattle.scope.proofs.Runs.{runs_of}
use Rattle.scope.proofs.Says.{Akin, LikePlace, same_place, outsides, session-same, LikeCase, AlikeGiven, case_like}
use Rattle.scope.proofs.Apart.{clash-of}
use Rattle.scope.proofs.Beside.{equal_broken, Starts, Both, agree, left_over, right_over, both, LikeState, next_like}
use Rattle.scope.proofs.Alike.{LikeAttr, LikeAttrs, nil, cons, LikeData, nowhere, read_from, LikeOp, LikeRead}

-- which of the three a reading gives
abbrev shape : Read → ℕ
shape (Read.operator o) = 0
shape Read.ended = 1
shape (Read.no code place) = 2

-- two jobs, each in its byte order, whose places belong together by `At`, and reading goes on alike by `On`
module _ (high turned : Bool) (s t : List ℕ) (At On : ℕ → ℕ → Type 0) where
  abbrev Op : Operator → Operator → Type 0
  Op = LikeOp high turned s t At On

  abbrev R : Read → Read → Type 0
  R = LikeRead high turned s t At On

  attribute-moved : {a b : Attribute} → LikeAttr high turned s t At On a b → AttributeMoved At a b
  attribute-moved h = record { number = h.number; tag = h.tag; at = h.at; count = h.count; first = h.first }

  attributes_moved : {l m : List Attribute} → LikeAttrs high turned s t At On l m → AttributesMoved At l m
  attributes_moved nil = AttributesMoved.none
  attributes_moved (cons h k) = AttributesMoved.more (attribute-moved h) (attributes_moved k)

  reading-moved : {b : Bool} {x y : ℕ} → LikeData high turned s t At On b x y → b ≡ true → At x y
  reading-moved nowhere e = clash-of (sym e)
  reading-moved (read_from h) e = h

  quiet-moved : {b : Bool} {x y : ℕ} → LikeData high turned s t At On b x y → b ≡ false → (x ≡ 0) × (y ≡ 0)
  quiet-moved nowhere e = (refl, refl)
  quiet-moved (read_from h) e = clash-of e

  pub operator-moved : {a b : Operator} → Op a b → OperatorMoved At a b
  operator-moved h =
      record {
        tag = h.says.tag;
        at = h.at;
        attrs = attributes_moved h.attrs;
        length = h.says.size;
        reads = h.says.reads;
        reading = reading-moved h.where_data;
        quiet = quiet-moved h.where_data;
      }

  alike-shape : {u v : Read} → R u v → shape u ≡ shape v
  alike-shape (LikeRead.operator h) = refl
  alike-shape LikeRead.ended = refl
  alike-shape (LikeRead.no h) = refl

  operators-like : {a b : Operator} → R (Read.operator a) (Read.operator b) → Op a b
  operators-like (LikeRead.operator h) = h

  no-like : {k l x y : ℕ} → R (Read.no k x) (Read.no l y) → (k ≡ l) × At x y
  no-like (LikeRead.no h) = (refl, h)

-- two judgings; m and n performed before, r and o listed
module _ (given other : ℕ → Bool) (alike : AlikeGiven given other) (set turned : Setting) (akin : Akin set turned) (s t : List ℕ)
    (At On : ℕ → ℕ → Type 0) (m n r o room space : ℕ) where
  abbrev Ops : Operator → Operator → Type 0
  Ops = Op set.high turned.high s t At On

  abbrev Reads : Read → Read → Type 0
  Reads = R set.high turned.high s t At On

  abbrev St : State → State → Type 0
  St = LikeState given other alike set turned akin s t On m n r o

  -- what has not been the same before, where 26 or 28 makes a difference
  abbrev Differs : Type 0
  Differs = ((k : ℕ) → given k ≡ other k) → m ≡ n → r ≡ o → room ≡ space → ⊥

  -- how two judgings end
  pub data TwoEnds (os ps : List Operator) (e f : Outcome) : Type 0 where
    both_end : Pairwise (OperatorMoved At) os ps → e.code ≡ f.code → At e.position f.position → e.inner ≡ f.inner
        → e.state.performed + n ≡ f.state.performed + m → e.state.records + o ≡ f.state.records + r → TwoEnds os ps e f
    first_ends : limit e.code ≡ true → Starts (OperatorMoved At) os ps → Differs → TwoEnds os ps e f
    second_ends : limit f.code ≡ true → Starts (λ b a. OperatorMoved At a b) ps os → Differs → TwoEnds os ps e f

  -- of states that are alike, the same is read
  module _ (end : At (length s) (length t)) (reads_both : (x y : State) → St x y → Reads (read_at given set s x) (read_at other turned t y)) where
    shapes_clash : {A : Type 0} {x y : State} {u v : Read} → St x y → read_at given set s x ≡ u → read_at other turned t y ≡ v → (shape u ≡ shape v → ⊥) → A
    shapes_clash {x = x} {y = y} l e f h = absurd (h (sym (ap shape e) ∙ alike-shape set.high turned.high s t At On (reads_both x y l) ∙ ap shape f))

    the_ops : (x y : State) (a b : Operator) → St x y → read_at given set s x ≡ Read.operator a → read_at other turned t y ≡ Read.operator b → Ops a b
    the_ops x y a b l e f = operators-like set.high turned.high s t At On (subst₂ Reads e f (reads_both x y l))

    the_cases : (x y : State) (a b : Operator) → St x y → Ops a b → LikeCase m n r o (case_at set s x a) (case_at turned t y b)
    the_cases x y a b l h =
        let c = case_like set turned akin s t a b h.says x y (session-same l.place) in
        let u = l.performed in
        let v = l.records in
        let cu = c.count in
        let cr = c.records in
        record { session = c.session; tag = c.tag; size = c.size; name = c.name; hatch = c.hatch; seen = c.seen; made = c.made; met = c.met; count = omega arith; records = omega arith }

    end-both : (x y : State) → St x y → read_at given set s x ≡ Read.ended → {w v : Place} → LikePlace (read_at given set s x ≡ Read.ended → ⊥) w v
        → TwoEnds [] [] (end_at s x w) (end_at t y v)
    unfolding end_at
    end-both x y l e (same_place {w = outside true}) = both_end Pairwise.none refl end refl l.performed l.records
    end-both x y l e (same_place {w = outside false}) = both_end Pairwise.none refl end refl l.performed l.records
    end-both x y l e (same_place {w = inside z}) = both_end Pairwise.none refl end refl l.performed l.records
    end-both x y l e (outsides k) = absurd (k e)

    -- the rules say the same of both operators, or the numbers before were not the same
    rules-both : (x y : State) (a b : Operator) → St x y → Ops a b → (f g : Refusal) → first_broken given (case_at set s x a) (rules room) ≡ f
        → first_broken other (case_at turned t y b) (rules space) ≡ g → Both f g
    rules-both x y a b l h f g e k = subst₂ Both e k (both given other alike room space (the_cases x y a b l h))

    numbers-differ : (x y : State) (a b : Operator) → St x y → Ops a b → {f g : Refusal} → first_broken given (case_at set s x a) (rules room) ≡ f
        → first_broken other (case_at turned t y b) (rules space) ≡ g → (f ≡ g → ⊥) → Differs
    numbers-differ x y a b l h e k d eg en eo er = d (sym e ∙ equal_broken given other alike room space (the_cases x y a b l h) eg en eo er ∙ k)

    refused-both : (x y : State) (a b : Operator) (l : St x y) → Ops a b → {k i j c : ℕ} → Both (Refusal.refused k i) (Refusal.refused j c)
        → ((Refusal.refused k i ≡ Refusal.refused j c → ⊥) → Differs) → TwoEnds [] [] (refused_at k a.at i x) (refused_at j b.at c y)
    refused-both x y a b l h agree d = both_end Pairwise.none refl h.at refl l.performed l.records
    refused-both x y a b l h (left_over u v) d = first_ends u Starts.none (d v)
    refused-both x y a b l h (right_over u v) d = second_ends u Starts.none (d v)

    ends-two : {x y : State} {e f : Outcome} → St x y → Ends given set s room x e → Ends other turned t space y f → TwoEnds [] [] e f
    ends-two {x} {y} l (ended u) (ended v) = end-both x y l u l.place
    ends-two l (ended u) (unread v) = shapes_clash l u v (λ z. omega arith)
    ends-two l (ended u) (refused v k) = shapes_clash l u v (λ z. omega arith)
    ends-two l (unread u) (ended v) = shapes_clash l u v (λ z. omega arith)
    ends-two {x} {y} l (unread u) (unread v) =
        let k = no-like set.high turned.high s t At On (subst₂ Reads u v (reads_both x y l)) in
        both_end Pairwise.none k.0 k.1 refl l.performed l.records
    ends-two l (unread u) (refused v k) = shapes_clash l u v (λ z. omega arith)
    ends-two l (refused u j) (ended v) = shapes_clash l u v (λ z. omega arith)
    ends-two l (refused u j) (unread v) = shapes_clash l u v (λ z. omega arith)
    ends-two {x} {y} l (refused {o = a} u j) (refused {o = b} v k) =
        let h = the_ops x y a b l u v in
        refused-both x y a b l h (rules-both x y a b l h _ _ j k) (numbers-differ x y a b l h j k)

    -- the first ends at an operator that the second performs
    first-only : {x y : State} {e f : Outcome} {b : Operator} {ps : List Operator} → St x y → Ends given set s room x e → Performs other turned t space y b → TwoEnds [] (b ∷ ps) e f
    first-only l (ended u) k = shapes_clash l u k.reads (λ z. omega arith)
    first-only l (unread u) k = shapes_clash l u k.reads (λ z. omega arith)
    first-only {x} {y} {f = f} {b = b} {ps = ps} l (refused {code = code} {inner = inner} {o = a} u j) k =
        let h = the_ops x y a b l u k.reads in
        by h (rules-both x y a b l h _ _ j k.kept)
      where
        by : Ops a b → Both (Refusal.refused code inner) Refusal.none → TwoEnds [] (b ∷ ps) (refused_at code a.at inner x) f
        by h (left_over v w) = first_ends v Starts.none (numbers-differ x y a b l h j k.kept w)

    second-only : {x y : State} {e f : Outcome} {a : Operator} {os : List Operator} → St x y → Performs given set s room x a → Ends other turned t space y f → TwoEnds (a ∷ os) [] e f
    second-only l k (ended v) = shapes_clash l k.reads v (λ z. omega arith)
    second-only l k (unread v) = shapes_clash l k.reads v (λ z. omega arith)
    second-only {x} {y} {e = e} {a = a} {os = os} l k (refused {code = code} {inner = inner} {o = b} v j) =
        let h = the_ops x y a b l k.reads v in
        by h (rules-both x y a b l h _ _ k.kept j)
      where
        by : Ops a b → Both Refusal.none (Refusal.refused code inner) → TwoEnds (a ∷ os) [] e (refused_at code b.at inner y)
        by h (right_over u w) = second_ends u Starts.none (numbers-differ x y a b l h k.kept j w)

    one_more : {a b : Operator} {os ps : List Operator} {e f : Outcome} → OperatorMoved At a b → TwoEnds os ps e f → TwoEnds (a ∷ os) (b ∷ ps) e f
    one_more h (both_end k c d i u v) = both_end (Pairwise.more h k) c d i u v
    one_more h (first_ends c k d) = first_ends c (Starts.more h k) d
    one_more h (second_ends c k d) = second_ends c (Starts.more h k) d

    -- two judgings, operator by operator
    pub two_runs : {x x' y y' : State} {os ps : List Operator} {e f : Outcome} → St x y → Runs given set s room x os x' → Ends given set s room x' e
        → Runs other turned t space y ps y' → Ends other turned t space y' f → TwoEnds os ps e f
    two_runs l here u here v = ends-two l u v
    two_runs l here u (then k rest) v = first-only l u k
    two_runs l (then k rest) u here v = second-only l k v
    two_runs {x} {y = y} l (then {o = a} k rest) u (then {o = b} j more) v =
        let h = the_ops x y a b l k.reads j.reads in
        one_more (operator-moved set.high turned.high s t At On h) (two_runs (next_like given other alike set turned akin s t On m n r o x y a b l h.says h.next) rest u more v)

    pub two-judged : (x y : State) → St x y
        → TwoEnds (runs_of given set s room x).ops (runs_of other turned t space y).ops (judged_from given set s room x) (judged_from other turned t space y)
    two-judged x y l =
        let c = runs_of given set s room x in
        let d = runs_of other turned t space y in
        two_runs l c.runs c.ends d.runs d.ends
