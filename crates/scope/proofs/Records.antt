-- The bytes of a list: 16 for each record, and the records of operators that have moved have moved.
-- Assumes nothing.
use Prim.Native.Nat.{ℕ, suc, ◌+◌, ◌*◌, ◌/◌, ◌%◌}
use mathlib.Core.Path.{◌≡◌, refl, sym, ap, ◌∙◌, subst₂}
use mathlib.Core.Bool.{Bool, true, false}
use mathlib.Core.List.{List, [], ◌∷◌, ◌++◌, append-nil, append_assoc}
use native.Mathlib.Omega.{arith}
use lib.ListN.{length, take, drop, length-append}
use lib.Seq.{drop_at, take_at, take_all}
use Rattle.scope.specs.Header.{Header, header_of}
use Rattle.scope.specs.Item.{Attribute}
use Rattle.scope.specs.Reading.{Operator}
use Rattle.scope.specs.Setting.{Setting}
use Rattle.scope.specs.Judge.{State, case_of, after, judged_from, starting}
use Rattle.scope.specs.Verdict.{every, four, attribute_record, operator_record, attribute_records, records_before, list_of, judged_after, Entry, entry_of, outcome_at, outcome_of, verdict_of}
use Rattle.scope.specs.Runs.{Runs, here, then}
use Rattle.scope.specs.Claims.{Further, AttributesMoved, OperatorMoved, OperatorsMoved, SameOutcome, RecordsMoved, records_from, Reached, ListLong, SameList}
use Rattle.scope.proofs.Runs.{runs_of, ends-state}

-- the records of some operators stand before what is there
pub records-append : (past : List Operator) (rest : List ℕ) → records_before past rest ≡ records_before past [] ++ rest
unfolding records_before
records-append [] rest = refl
records-append (o ∷ past) rest =
    let a = attribute_records o.attrs in
    let b = operator_record o in
    records-append past (a ++ (b ++ rest))
    ∙ ap (λ l. records_before past [] ++ l) (sym (append_assoc a b rest) ∙ ap (λ l. (a ++ l) ++ rest) (sym (append-nil b)))
    ∙ sym (append_assoc (records_before past []) (a ++ (b ++ [])) rest) ∙ ap (λ l. l ++ rest) (sym (records-append past (a ++ (b ++ []))))

attributes_long : (l : List Attribute) → length (attribute_records l) ≡ length l * 16
unfolding attribute_records attribute_record four
attributes_long [] = refl
attributes_long (a ∷ l) = let h = attributes_long l in omega arith

operator-long : (o : Operator) → length (operator_record o) ≡ 16
unfolding operator_record four
operator-long o = refl

-- 16 bytes to a record
abbrev pub Long : State → Type 0
Long st = length (records_before st.past []) ≡ st.records * 16

module _ (given : ℕ → Bool) (set : Setting) (s : List ℕ) (room : ℕ) where
  more-long : (o : Operator) (past : List Operator) (n : ℕ) → length (records_before past []) ≡ n * 16 → length (records_before (o ∷ past) []) ≡ (n + suc (length o.attrs)) * 16
  unfolding records_before
  more-long o past n h =
      let a = attribute_records o.attrs in
      let b = operator_record o in
      let e = ap length (records-append past (a ++ (b ++ []))) ∙ length-append (records_before past []) (a ++ (b ++ []))
      ∙ ap (λ k. length (records_before past []) + k) (length-append a (b ++ []) ∙ ap (λ k. length a + k) (ap length (append-nil b))) in
      let u = attributes_long o.attrs in
      let v = operator-long o in
      omega arith

  runs-long : {a b : State} {os : List Operator} → Runs given set s room a os b → Long a → Long b
  unfolding after case_of
  runs-long here h = h
  runs-long (then {a = a} {o = o} p r) h = runs-long r (more-long o a.past a.records h)

  judged-long : (st : State) → Long st → Long (judged_from given set s room st).state
  judged-long st h =
      let c = runs_of given set s room st in
      let e = ends-state given set s room c.ends in
      ap (λ w. length (records_before w.past [])) e ∙ runs-long c.runs h ∙ ap (λ w. w.records * 16) (sym e)

start-long : (next : ℕ) → Long (starting next)
unfolding records_before
start-long next = refl

header-long : (gray : Bool) (job : List ℕ) (room : ℕ) (h : Header) → Long (judged_after gray every job room h).state
unfolding judged_after
header-long gray job room (Header.is class high next) = judged-long every (record { class = class; high = high; gray = gray }) job room (starting next) (start-long next)
header-long gray job room (Header.no code place) = start-long 0

entry_long : (gray : Bool) (job : List ℕ) (room : ℕ) (e : Entry) → Long (outcome_at gray every job room e).state
unfolding outcome_at
entry_long gray job room (Entry.refused code position) = start-long 0
entry_long gray job room Entry.admitted = header-long gray job room (header_of job)

pub list_long : ListLong
unfolding list_of verdict_of outcome_of
list_long gray job work room = entry_long gray job room (entry_of (length job) work)

-- the records of attributes that have moved, and behind them others that have
pub attributes_moved : {At : ℕ → ℕ → Type 0} {l m : List Attribute} → AttributesMoved At l m → {x y : List ℕ} → RecordsMoved At x y
    → RecordsMoved At (attribute_records l ++ x) (attribute_records m ++ y)
unfolding attribute_records
attributes_moved AttributesMoved.none h = h
attributes_moved {At} (AttributesMoved.more {a = a} {b = b} {l = l} {m = m} k more) {x} {y} h =
    subst₂ (RecordsMoved At) (sym (append_assoc (attribute_record a) (attribute_records l) x)) (sym (append_assoc (attribute_record b) (attribute_records m) y))
    (RecordsMoved.attribute k (attributes_moved more h))

-- what two lists have behind the records of what was performed before
record Since (At : ℕ → ℕ → Type 0) (before other : List Operator) (l m : List ℕ) : Type 0 where
  here_since : List ℕ
  there_since : List ℕ
  first : l ≡ records_before before [] ++ here_since
  second : m ≡ records_before other [] ++ there_since
  moved : RecordsMoved At here_since there_since

since : {At : ℕ → ℕ → Type 0} {before other l m : List Operator} → OperatorsMoved At before other l m → {x y : List ℕ} → RecordsMoved At x y
    → Since At before other (records_before l x) (records_before m y)
unfolding records_before
since {before = before} {other = other} OperatorsMoved.start {x} {y} h =
    record { here_since = x; there_since = y; first = records-append before x; second = records-append other y; moved = h }
since (OperatorsMoved.more k more) h = since more (attributes_moved k.attrs (RecordsMoved.operator k h))

-- of a list that is whole, what stands behind its first part
behind-part : (part rest list : List ℕ) (m n : ℕ) → list ≡ part ++ rest → length part ≡ m * 16 → length list ≡ n * 16 → records_from m n list ≡ rest
behind-part part rest list m n e f g =
    let h : take (n * 16) list ≡ list = take_all (n * 16) list (omega arith) in
    ap (drop (m * 16)) (h ∙ e) ∙ drop_at part rest (m * 16) f

-- and its first part
front-part : (part since list rest : List ℕ) (m : ℕ) → list ≡ part ++ since → length part ≡ m * 16 → take (m * 16) (list ++ rest) ≡ part
front-part part since list rest m e f = ap (λ l. take (m * 16) (l ++ rest)) e ∙ ap (take (m * 16)) (append_assoc part since rest) ∙ take_at part (since ++ rest) (m * 16) f

pub reached-long : (set : Setting) (job : List ℕ) (room : ℕ) (st : State) → Reached set job room st → Long st
reached-long set job room st r = runs-long every set job room r.runs (start-long r.next)

-- two jobs whose operators have moved since a state of each: so have the records since
module _ (At : ℕ → ℕ → Type 0) (gray : Bool) (job other : List ℕ) (work work' room space : ℕ) (a b : State)
    (moved : OperatorsMoved At a.past b.past (outcome_of gray every job work room).state.past (outcome_of gray every other work' space).state.past) where
  pub lists_moved : Long a → Long b
      → RecordsMoved At (records_from a.records (verdict_of gray job work room).records (list_of gray job work room))
      (records_from b.records (verdict_of gray other work' space).records (list_of gray other work' space))
  unfolding list_of verdict_of
  lists_moved x y =
      let z = since moved RecordsMoved.none in
      subst₂ (RecordsMoved At)
      (sym (behind-part (records_before a.past []) z.here_since _ a.records _ z.first x (list_long gray job work room)))
      (sym (behind-part (records_before b.past []) z.there_since _ b.records _ z.second y (list_long gray other work' space))) z.moved

  -- the records before are those of the operators before, whatever stands behind the list
  pub first-front : Long a → (rest : List ℕ) → take (a.records * 16) (list_of gray job work room ++ rest) ≡ records_before a.past []
  unfolding list_of
  first-front x rest =
      let z = since moved RecordsMoved.none in
      front-part (records_before a.past []) z.here_since _ rest a.records z.first x

  pub second-front : Long b → (rest : List ℕ) → take (b.records * 16) (list_of gray other work' space ++ rest) ≡ records_before b.past []
  unfolding list_of
  second-front x rest =
      let z = since moved RecordsMoved.none in
      front-part (records_before b.past []) z.there_since _ rest b.records z.second x

pub same-list : SameList
same-list set job other work work' room space a b x y h =
    lists_moved (Further a.at b.at) set.gray job other work work' room space a b h.listed (reached-long set job room a x.there) (reached-long set other space b y.there)

-- at the same places, the same records
module _ (At : ℕ → ℕ → Type 0) (same : (x y : ℕ) → At x y → x ≡ y) where
  pub same-attributes : {l m : List Attribute} → AttributesMoved At l m → l ≡ m
  same-attributes AttributesMoved.none = refl
  same-attributes (AttributesMoved.more {a = a} {b = b} h k) =
      let x = same a.at b.at h.at in
      let y = h.first in
      let f : a.first ≡ b.first = omega arith in
      let ks = same-attributes k in
      λ i. record { number = h.number i; tag = h.tag i; at = x i; count = h.count i; first = f i } ∷ ks i

  pub same-data : {a b : Operator} → OperatorMoved At a b → (r : Bool) → a.reads ≡ r → a.first ≡ b.first
  same-data {a} {b} h true e = same a.first b.first (h.reading e)
  same-data h false e = let k = h.quiet e in k.0 ∙ sym k.1

  same-operator : {a b : Operator} → OperatorMoved At a b → operator_record a ≡ operator_record b
  unfolding operator_record
  same-operator {a} {b} h =
      let l = same-attributes h.attrs in
      let p = same a.at b.at h.at in
      let f = same-data h a.reads refl in
      λ i. 2 ∷ h.tag i ∷ length (l i) % 256 ∷ length (l i) / 256 ∷ (four (p i) ++ (four (h.length i) ++ four (f i)))

  same-records : {l m : List Operator} → OperatorsMoved At [] [] l m → (rest : List ℕ) → records_before l rest ≡ records_before m rest
  unfolding records_before
  same-records OperatorsMoved.start rest = refl
  same-records (OperatorsMoved.more {a = a} {b = b} {m = m} h k) rest =
      same-records k (attribute_records a.attrs ++ (operator_record a ++ rest))
      ∙ (λ i. records_before m (attribute_records (same-attributes h.attrs i) ++ (same-operator h i ++ rest)))

pub outcome-list : (gray starts : Bool) (job other : List ℕ) (work room : ℕ) → SameOutcome (outcome_of gray every job work room) (outcome_of starts every other work room)
    → list_of gray job work room ≡ list_of starts other work room
unfolding list_of
outcome-list gray starts job other work room h = same-records (λ x y. x ≡ y) (λ x y e. e) h.listed []
