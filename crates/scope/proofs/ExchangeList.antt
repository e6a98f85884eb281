-- The bytes of the list, where two sessions have changed places: the records of operators in parts are the records of the parts, one behind the other, and the
-- records of operators that have moved have moved.
-- Assumes nothing.
use Prim.Native.Nat.{ℕ}
use mathlib.Core.Path.{◌≡◌, sym, ap, ◌∙◌, subst₂}
use mathlib.Core.Bool.{Bool}
use mathlib.Core.List.{List, [], ◌∷◌, ◌++◌, append-nil, append_assoc}
use Rattle.scope.specs.Reading.{Operator}
use Rattle.scope.specs.Verdict.{attribute_records, operator_record, records_before, list_of}
use Rattle.scope.specs.Runs.{onto, Pairwise}
use Rattle.scope.specs.Claims.{OperatorMoved, RecordsMoved}
use Rattle.scope.specs.Exchange.{Lists, records_of, operators, ListsExchanged}
use Rattle.scope.proofs.Runs.{onto-append}
use Rattle.scope.proofs.Records.{records-append, attributes_moved}
use Rattle.scope.proofs.Exchange.{sessions-exchanged}

-- the records of some operators stand behind those of the operators before them
records-onto : (os past : List Operator) (rest : List ℕ) → records_before (onto os past) rest ≡ records_before past [] ++ (records_of os ++ rest)
unfolding onto records_before
records-onto [] past rest = records-append past rest
records-onto (o ∷ os) past rest =
    let a = attribute_records o.attrs in
    let b = operator_record o in
    let one : records_of (o ∷ os) ≡ (a ++ (b ++ [])) ++ records_of os = records-onto os (o ∷ []) [] ∙ ap (λ l. (a ++ (b ++ [])) ++ l) (append-nil (records_of os)) in
    records-onto os (o ∷ past) rest ∙ ap (λ l. l ++ (records_of os ++ rest)) (records-append past (a ++ (b ++ [])))
    ∙ append_assoc (records_before past []) (a ++ (b ++ [])) (records_of os ++ rest)
    ∙ ap (λ l. records_before past [] ++ l) (sym (append_assoc (a ++ (b ++ [])) (records_of os) rest) ∙ ap (λ l. l ++ rest) (sym one))

pub records-parts : (os ps : List Operator) → records_of (os ++ ps) ≡ records_of os ++ records_of ps
records-parts os ps =
    ap (λ l. records_before l []) (onto-append os ps []) ∙ records-onto ps (onto os []) [] ∙ ap (λ l. records_of os ++ l) (append-nil (records_of ps))

records-more : (o : Operator) (os : List Operator) → records_of (o ∷ os) ≡ attribute_records o.attrs ++ (operator_record o ++ records_of os)
unfolding onto records_before
records-more o os =
    let a = attribute_records o.attrs in
    let b = operator_record o in
    records-parts (o ∷ []) os ∙ append_assoc a (b ++ []) (records_of os) ∙ ap (λ l. a ++ (l ++ records_of os)) (append-nil b)

pub records-moved : {At : ℕ → ℕ → Type 0} {os ps : List Operator} → Pairwise (OperatorMoved At) os ps → RecordsMoved At (records_of os) (records_of ps)
unfolding onto records_before
records-moved Pairwise.none = RecordsMoved.none
records-moved {At} (Pairwise.more {a = a} {b = b} {l = l} {m = m} h k) =
    subst₂ (RecordsMoved At) (sym (records-more a l)) (sym (records-more b m)) (attributes_moved h.attrs (RecordsMoved.operator h (records-moved k)))

-- four parts
list-of : (gray : Bool) (job : List ℕ) (work room : ℕ) (os ps qs rs : List Operator) → Lists gray job work room (os ++ (ps ++ (qs ++ rs)))
    → list_of gray job work room ≡ records_of os ++ (records_of ps ++ (records_of qs ++ records_of rs))
unfolding list_of
list-of gray job work room os ps qs rs e =
    ap (λ l. records_before l []) e ∙ records-parts os (ps ++ (qs ++ rs))
    ∙ ap (λ l. records_of os ++ l) (records-parts ps (qs ++ rs) ∙ ap (λ l. records_of ps ++ l) (records-parts qs rs))

pub lists_exchanged : ListsExchanged
lists_exchanged gray job work room before first second rest listed =
    let x = sessions-exchanged gray job work room before first second rest listed in
    record {
      second' = records_of (operators x.second');
      first' = records_of (operators x.first');
      was = list-of gray job work room before (operators first) (operators second) rest listed;
      is = list-of gray _ work room before (operators x.second') (operators x.first') rest x.listed;
      second_moved = records-moved x.second_moved;
      first_moved = records-moved x.first_moved;
    }
