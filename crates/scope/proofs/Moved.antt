-- Operators that have moved with their bytes: back the other way, and in the order in which they are listed.
-- Assumes nothing.
use Prim.Native.Nat.{ℕ, ◌+◌, ◌-◌}
use mathlib.Core.Path.{◌≡◌, refl, sym, ap, ◌∙◌}
use mathlib.Core.List.{List, [], ◌∷◌, ◌++◌, append_assoc}
use lib.ListN.{length}
use Rattle.scope.specs.Item.{Attribute}
use Rattle.scope.specs.Reading.{Operator}
use Rattle.scope.specs.Runs.{onto, Pairwise}
use Rattle.scope.specs.Claims.{AttributeMoved, AttributesMoved, OperatorMoved, OperatorsMoved}
use Rattle.scope.proofs.Beside.{Starts}

-- what has moved one way has moved back the other
module _ (At Back : ℕ → ℕ → Type 0) (back : (x y : ℕ) → At x y → Back y x) where
  attribute-back : {a b : Attribute} → AttributeMoved At a b → AttributeMoved Back b a
  attribute-back h = record { number = sym h.number; tag = sym h.tag; at = back _ _ h.at; count = sym h.count; first = sym h.first }

  attributes_back : {l m : List Attribute} → AttributesMoved At l m → AttributesMoved Back m l
  attributes_back AttributesMoved.none = AttributesMoved.none
  attributes_back (AttributesMoved.more h k) = AttributesMoved.more (attribute-back h) (attributes_back k)

  operator-back : {a b : Operator} → OperatorMoved At a b → OperatorMoved Back b a
  operator-back h =
      record {
        tag = sym h.tag;
        at = back _ _ h.at;
        attrs = attributes_back h.attrs;
        length = sym h.length;
        reads = sym h.reads;
        reading = λ e. back _ _ (h.reading (h.reads ∙ e));
        quiet = λ e. let k = h.quiet (h.reads ∙ e) in (k.1, k.0);
      }

  pub starts-back : {os ps : List Operator} → Starts (λ b a. OperatorMoved At a b) ps os → Starts (OperatorMoved Back) ps os
  starts-back Starts.none = Starts.none
  starts-back (Starts.more h k) = Starts.more (operator-back h) (starts-back k)

-- what has moved by one measure has moved by another that follows from it
module _ (At To : ℕ → ℕ → Type 0) (measure : (x y : ℕ) → At x y → To x y) where
  attribute-by : {a b : Attribute} → AttributeMoved At a b → AttributeMoved To a b
  attribute-by h = record { number = h.number; tag = h.tag; at = measure _ _ h.at; count = h.count; first = h.first }

  attributes_by : {l m : List Attribute} → AttributesMoved At l m → AttributesMoved To l m
  attributes_by AttributesMoved.none = AttributesMoved.none
  attributes_by (AttributesMoved.more h k) = AttributesMoved.more (attribute-by h) (attributes_by k)

  operator-by : {a b : Operator} → OperatorMoved At a b → OperatorMoved To a b
  operator-by h =
      record {
        tag = h.tag;
        at = measure _ _ h.at;
        attrs = attributes_by h.attrs;
        length = h.length;
        reads = h.reads;
        reading = λ e. measure _ _ (h.reading e);
        quiet = h.quiet;
      }

  pub operators-by : {os ps : List Operator} → Pairwise (OperatorMoved At) os ps → Pairwise (OperatorMoved To) os ps
  operators-by Pairwise.none = Pairwise.none
  operators-by (Pairwise.more h k) = Pairwise.more (operator-by h) (operators-by k)

-- the operators of two runs, after those before
pub pairwise_listed : {At : ℕ → ℕ → Type 0} {before other : List Operator} {os ps : List Operator} → Pairwise (OperatorMoved At) os ps → {l m : List Operator}
    → OperatorsMoved At before other l m → OperatorsMoved At before other (onto os l) (onto ps m)
unfolding onto
pairwise_listed Pairwise.none h = h
pairwise_listed (Pairwise.more x k) h = pairwise_listed k (OperatorsMoved.more x h)

-- a list put before another is put before nothing, and then the other
pub onto-front : (os l : List Operator) → onto os l ≡ onto os [] ++ l
unfolding onto
onto-front [] l = refl
onto-front (o ∷ os) l =
    onto-front os (o ∷ l) ∙ sym (append_assoc (onto os []) (o ∷ []) l) ∙ ap (λ z. z ++ l) (sym (onto-front os (o ∷ [])))

-- the first list of operators is a start of the second
pub record Part (At : ℕ → ℕ → Type 0) (before other l m : List Operator) : Type 0 where
  pub later : List Operator
  pub until : List Operator
  pub parts : m ≡ later ++ until
  pub listed : OperatorsMoved At before other l until

-- a start of a run lists a start
pub starts-listed : {At : ℕ → ℕ → Type 0} {before other : List Operator} {os ps : List Operator} → Starts (OperatorMoved At) os ps → {l m : List Operator}
    → OperatorsMoved At before other l m → Part At before other (onto os l) (onto ps m)
unfolding onto
starts-listed {ps} Starts.none {m} h = record { later = onto ps []; until = m; parts = onto-front ps m; listed = h }
starts-listed (Starts.more x k) h = starts-listed k (OperatorsMoved.more x h)
