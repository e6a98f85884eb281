-- What the rules of motifs, their names and patterns come to: 19, 33, a motif's own at EndStream, 21, 32 and 22.
-- Assumes nothing.
use Rattle.std.specs.Prelude.{ℕ, ◌<◌, ◌≡◌, Bool, true, false, List, [], ◌++◌, eqb, Result, Ok, Err}
use Rattle.scope.specs.Names.{EndStream, ExecStream}
use Rattle.scope.specs.Setting.{Setting}
use Rattle.scope.specs.Motif.{Own, valid}
use Rattle.scope.specs.Calls.{unfolded, nothing}
use Rattle.scope.specs.Session.{Session}
use Rattle.scope.specs.Judge.{State, case_of, Case, Rule, Refusal, refused, first_broken, own_or, too_much, no_place, pattern_missing, early}
use Rattle.scope.specs.Verdict.{every}
use Rattle.reader.specs.Reads.{operator_as}
use Rattle.reader.specs.declared.reading.Operator.{Operator}
use Rattle.summary.specs.Sums.{SumsAs}
use Rattle.pattern_rows.specs.Numbers.{OfMotif, numbers_in, collected}
use Rattle.patterns.specs.Selects.{selects_in}
use Rattle.within.specs.Judging.{Makes}
use Rattle.within.specs.declared.inside.Made.{Made}
use Rattle.early.specs.declared.early.Early.{Early}
use Rattle.early.specs.declared.early.Early.TheVariants.{Fine, Call, Held}
use Rattle.refusal.specs.declared.refusal.Refusal.{Refusal as CodeRefusal}
use Rattle.refusal.specs.Codes.{number_of}

-- these rules, and others after them
abbrev pub before : List Rule → List Rule
before rest = early ++ rest

-- none of them is broken
pub record Unbroken (c : Case) : Type 0 where
  pub room : too_much c ≡ false
  pub place : no_place c ≡ false
  pub sound : (r : Refusal) → own_or c.made r ≡ r
  pub met : c.met ≡ nothing

-- the answer of the code, where the table is that of the motifs held and p has what the motif that ends selects: none is broken, and what the operator goes on
-- with; or the first that is, with a place that fits a verdict
pub data Earlies (t p : List ℕ) (c : Case) : Result Early CodeRefusal → Type 0 where
  early_fine : eqb c.op.tag ExecStream ≡ false → eqb c.op.tag EndStream ≡ false → Unbroken c → Earlies t p c (Ok Fine)
  early_call : {v : ℕ} {b : Bool} → eqb c.op.tag ExecStream ≡ true → SumsAs v (unfolded c.session.held 32 [] c.name) → b ≡ pattern_missing c → Unbroken c
      → Earlies t p c (Ok (Call v b))
  early_held : {made : Made} {ops : List Own} → eqb c.op.tag EndStream ≡ true → c.made ≡ valid ops → Makes t c.session.held made ops
      → numbers_in p OfMotif ≡ collected (selects_in ops) → Unbroken c → Earlies t p c (Ok (Held made))
  early_no : {r : CodeRefusal} → ((rest : List Rule) → first_broken every c (before rest) ≡ refused (number_of r.code) r.place) → r.place < 4_294_967_296 → Earlies t p c (Err r)

-- the answer of the code to an operator with these attributes in a session, whatever was performed before
unfoldable pub EarliesIn : Setting → (t p job attrs : List ℕ) → Session → Operator → Result Early CodeRefusal → Type 0
EarliesIn set t p job attrs x o r = (st : State) → Earlies t p (case_of set job st x (operator_as o attrs)) r
