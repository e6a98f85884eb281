-- What the judging of a motif keeps, and its answers in 01's words.
-- Assumes nothing.
use Rattle.std.specs.Prelude.{ℕ, ◌≤◌, ◌<◌, ◌≡◌, Bool, List, [], ◌∷◌, ◌++◌, Result, Ok, Err}
use Rattle.std.specs.declared.ops.ControlFlow.{ControlFlow}
use Rattle.std.specs.declared.ops.ControlFlow.TheVariants.{Continue, Break}
use Rattle.scope.specs.Iterate.{Next, go, stop}
use Rattle.scope.specs.Setting.{Setting}
use Rattle.scope.specs.Reading.{Operator}
use Rattle.scope.specs.Arm.{Select, no_pattern, pattern, idle, Stroke}
use Rattle.scope.specs.Motif as scope
use Rattle.scope.specs.Calls.{flat}
use Rattle.scope.specs.Reach.{Name}
use Rattle.summary.specs.Sums.{SumsAs}
use Rattle.both.specs.Runs.{Runs}
use Rattle.summary.specs.Balance.{OwnLevel}
use Rattle.key.specs.Mark.{mark}
use Rattle.motif.specs.Tables.{calls_row, lacks_one, SumsUp}
use Rattle.order.specs.Pictures.{picture_as}
use Rattle.pattern_rows.specs.Numbers.{numbers_in, noted, collected}
use Rattle.patterns.specs.Selects.{selects_in}
use Rattle.within.specs.declared.inside.Inside.{Inside}
use Rattle.within.specs.declared.inside.Made.{Made}
use Rattle.refusal.specs.declared.refusal.Refusal.{Refusal}
use Rattle.refusal.specs.Codes.{number_of}

-- the code stands where the definition stands: the two runs are those of the operators so far, where a call performs besides what the table sums up for its name,
-- whatever the motif's number will be; and the names called so far are noted
pub record Follows (t : List ℕ) (ms : List scope.Motif) (i : Inside) (w : scope.Inside) : Type 0 where
  pub at : i.at ≡ w.at
  pub saved : i.saved ≡ w.saved
  pub picture : picture_as i.picture ≡ w.picture
  pub whom : (j : ℕ) → j < 64 → mark i.calls j ≡ calls_row ms w.ops j
  pub lacks : i.missing ≡ lacks_one ms w.ops
  pub runs : (f : Name → List Stroke) → SumsUp t ms f → (k : ℕ) → Runs i.both (flat f k w.ops)
  pub level : OwnLevel 0 w.ops w.saved

-- what is noted of a valid motif with these operators, where the table is that of these motifs: whom it calls, whether it names one that is not held, and what it
-- comes to where a call performs besides what the table sums up for its name
pub record Makes (t : List ℕ) (ms : List scope.Motif) (made : Made) (ops : List scope.Own) : Type 0 where
  pub whom : (j : ℕ) → j < 64 → mark made.calls j ≡ calls_row ms ops j
  pub lacks : made.missing ≡ lacks_one ms ops
  pub summed : (f : Name → List Stroke) → SumsUp t ms f → (k : ℕ) → SumsAs made.sum (flat f k ops)

-- a motif's judgement: valid with what is noted of it, or a refusal, whose place is inside it
pub data Judges (t : List ℕ) (ms : List scope.Motif) : Result Made Refusal → scope.Judged → Type 0 where
  judges_valid : {ops : List scope.Own} {made : Made} → Makes t ms made ops → Judges t ms (Ok made) (scope.valid ops)
  judges_faulty : {r : Refusal} → Judges t ms (Err r) (scope.faulty (number_of r.code) r.place)

-- after a turn: the code goes on where the definition does, or stops with its judgement
pub data Turns (t : List ℕ) (ms : List scope.Motif) : ControlFlow (Result Made Refusal) Inside → Next scope.Inside scope.Judged → Type 0 where
  turns_go : {i : Inside} {w : scope.Inside} → Follows t ms i w → Turns t ms (Continue i) (go w)
  turns_stop : {j : Result Made Refusal} {r : scope.Judged} → Judges t ms j r → Turns t ms (Break j) (stop r)

-- judging goes on further on and within the bytes, with no more saved than bytes passed
abbrev pub Ahead : (len at : ℕ) → ControlFlow (Result Made Refusal) Inside → Type 0
Ahead len at (Continue i) = (at < i.at) × (i.at ≤ len) × (i.saved ≤ i.at)
Ahead len at (Break j) = Unit {0}

-- where the judging of a motif stands after an operator
unfoldable pub after_in : Setting → List ℕ → Operator → scope.Inside → scope.Inside
after_in set s o w =
    record {
      at = o.next;
      saved = scope.saved_after o.tag w.saved;
      picture = scope.picture_after set.high s o w.picture;
      ops = w.ops ++ (scope.own_by set s o ∷ []);
    }

-- a call leads to `next` with these notes, and the two runs go on with all that its summary sums up
pub record Called (old : Inside) (next marks : ℕ) (lacks : Bool) (sum : ℕ) (new : Inside) : Type 0 where
  pub at : new.at ≡ next
  pub saved : new.saved ≡ old.saved
  pub picture : new.picture ≡ old.picture
  pub calls : new.calls ≡ marks
  pub missing : new.missing ≡ lacks
  pub runs : (row called : List Stroke) (x : Stroke) → Runs old.both row → x.act ≡ idle → SumsAs sum called → Runs new.both (row ++ (x ∷ called))

-- one operator more: the pattern that it selects is noted
abbrev pub noted_by : Select → List ℕ → List ℕ
noted_by no_pattern ns = ns
noted_by (pattern n) ns = noted n ns

-- what these operators select themselves is noted
pub record Notes (own : List ℕ) (ops : List scope.Own) : Type 0 where
  pub are : numbers_in own 0 ≡ collected (selects_in ops)

-- after a turn: what was noted of the operators before it is noted of those after it
abbrev pub NotesOn : (was own : List ℕ) → List scope.Own → Next scope.Inside scope.Judged → Type 0
NotesOn was own ops (go w) = Notes was ops → Notes own w.ops
NotesOn was own ops (stop (scope.valid os)) = Notes was ops → Notes own os
NotesOn was own ops (stop (scope.faulty code place)) = Unit {0}
