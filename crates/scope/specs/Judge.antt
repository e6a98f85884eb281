-- Judging: operators to a verdict. 01, "Verdicts", and 02, items 8 and 10: the rules after reading, in their order, and the state after an operator.
-- Assumes nothing.
use Rattle.std.specs.Prelude.{ℕ, suc, ◌+◌, ◌-◌, ◌*◌, Bool, true, false, not, ◌&&◌, ◌||◌, List, [], ◌∷◌, ◌++◌, length, leb, ltb, eqb}
use Rattle.scope.specs.Choice.{pick, among}
use Rattle.scope.specs.Iterate.{Next, go, stop, iterate}
use Rattle.scope.specs.Attributes.{bytes_in}
use Rattle.scope.specs.Reading.{Context, Operator, Read, operator_at}
use Rattle.scope.specs.Arm.{Seen, walk, from}
use Rattle.scope.specs.Motif.{Motif, held_as, is_held, bytes_held, Hatch, hatch_of, Judged, valid, faulty, motif_of}
use Rattle.scope.specs.Calls.{Met, nothing, met}
use Rattle.scope.specs.Setting.{Setting}
use Rattle.scope.specs.Session.{Session, Place, outside, inside, session_of, phase_of, page_of, joined_of, page_patterns, row_for, place_after}
use Rattle.scope.specs.Names.{EndStream, StreamName, BeginStream, ReadStream, ExecStream, BeginRastPattern}

-- inner, unless said otherwise
abbrev pub outer : ℕ
outer = 4294967295

-- where the judging of a job stands: the place of the next item, the operators performed, the records, and the job's own operators, the last one first
pub record State : Type 0 where
  pub at : ℕ
  pub place : Place
  pub performed : ℕ
  pub records : ℕ
  pub past : List Operator

-- the judgement of the motif that an operator ends
unfoldable pub judged_at : Setting → (joined : List ℕ) → (tag : ℕ) → Judged
judged_at set joined tag = pick (eqb tag EndStream) (motif_of set joined) (valid [])

-- what an operator of the job meets in the motifs that it calls
unfoldable pub met_at : List Motif → (name : List ℕ) → (tag : ℕ) → Met
met_at held name tag = pick (eqb tag ExecStream) (met held 32 [] name) nothing

-- what the rules look at: the session, the records with this operator's, the operator, its name, the pattern that it begins, the arm after it, its motif's
-- judgement, what its call meets
pub record Case : Type 0 where
  pub session : Session
  pub records : ℕ
  pub op : Operator
  pub name : List ℕ
  pub hatch : Hatch
  pub seen : Seen
  pub made : Judged
  pub met : Met

unfoldable pub case_of : Setting → List ℕ → State → Session → Operator → Case
case_of set s st x o =
    record {
      session = x;
      records = st.records + suc (length o.attrs);
      op = o;
      name = bytes_in s o.attrs StreamName;
      hatch = hatch_of set.high s o.attrs;
      seen = walk (row_for set s x.held o) (from (page_of x.busy) st.performed);
      made = judged_at set (joined_of x.busy) o.tag;
      met = met_at x.held (bytes_in s o.attrs StreamName) o.tag;
    }

-- 19: BeginStream of a new name with 64 held, or ReadStream past 16,384 bytes; a motif that is being replaced is still held
unfoldable pub too_much : Case → Bool
too_much c =
    (eqb c.op.tag BeginStream && (leb 64 (length c.session.held) && not (is_held (held_as c.name c.session.held))))
    || (eqb c.op.tag ReadStream && ltb 16384 (bytes_held c.session.held + (length (joined_of c.session.busy) + c.op.length)))

-- the numbers defined for the session, or for the page
abbrev pub numbers_of : (session : Bool) → Session → List ℕ
numbers_of true x = x.patterns
numbers_of false x = page_patterns x.busy

-- 33: BeginRastPattern of a new number with 32 defined, at its persistence
unfoldable pub no_place : Case → Bool
no_place c =
    eqb c.op.tag BeginRastPattern
    && (leb 32 (length (numbers_of c.hatch.session c.session)) && not (among (numbers_of c.hatch.session c.session) c.hatch.number))

-- 21: name not held
unfoldable pub name_missing : Case → Bool
name_missing c = c.met.missing

-- 32: a motif calls itself, directly or through others
unfoldable pub calls_itself : Case → Bool
calls_itself c = c.met.again

-- 22: nesting over 32
unfoldable pub too_deep : Case → Bool
too_deep c = c.met.deep

-- 17: source not open, of a call; of another operator reading has judged it
unfoldable pub source_closed : Case → Bool
source_closed c = c.seen.source && not c.session.opened

-- 23 to 25, 34, 26 and 28
unfoldable pub saved_over : Case → Bool
saved_over c = ltb 24 c.seen.most

unfoldable pub cursor_unset : Case → Bool
cursor_unset c = c.seen.lost

unfoldable pub space_wrong : Case → Bool
space_wrong c = c.seen.wrong

-- 34: a pattern that is selected is defined neither for the page nor for the session
unfoldable pub some_missing : (of_page of_session : List ℕ) → (wants : List ℕ) → Bool
some_missing of_page of_session [] = false
some_missing of_page of_session (n ∷ ns) = not (among of_page n || among of_session n) || some_missing of_page of_session ns

unfoldable pub pattern_missing : Case → Bool
pattern_missing c = some_missing (page_patterns c.session.busy) c.session.patterns c.seen.wants

unfoldable pub count_over : Case → Bool
count_over c = ltb 1_000_000 c.seen.count

unfoldable pub room_over : ℕ → Case → Bool
room_over room c = ltb room (c.records * 16)

-- a rule: a code and when it is broken; or the rules of a motif, each with its own code
pub data Rule : Type 0 where
  rule : (code : ℕ) → (broken : Case → Bool) → Rule
  motifs_own : Rule

-- the rules of motifs and their names, and of places for patterns, which are layout rules
unfoldable pub early : List Rule
early =
    rule 19 too_much
    ∷ rule 33 no_place
    ∷ motifs_own
    ∷ rule 21 name_missing
    ∷ rule 32 calls_itself
    ∷ rule 22 too_deep
    ∷ []

-- the rules of the arm's state and of the patterns that it selects
unfoldable pub armed : List Rule
armed =
    rule 17 source_closed
    ∷ rule 23 saved_over
    ∷ rule 24 cursor_unset
    ∷ rule 25 space_wrong
    ∷ rule 34 pattern_missing
    ∷ []

-- the rules of numbers that grow: operators performed, and records, with so many bytes of room for the list
unfoldable pub limits : ℕ → List Rule
limits room =
    rule 26 count_over
    ∷ rule 28 (room_over room)
    ∷ []

-- the rules after reading, in the order in which they are judged
unfoldable pub rules : ℕ → List Rule
rules room = early ++ (armed ++ limits room)

-- a refusal: its code and inner place
pub data Refusal : Type 0 where
  none : Refusal
  refused : (code : ℕ) → (inner : ℕ) → Refusal

abbrev pub own_or : Judged → Refusal → Refusal
own_or (valid ops) r = r
own_or (faulty code inner) r = refused code inner

-- the first rule broken, of those whose codes are given
unfoldable pub first_broken : (ℕ → Bool) → Case → List Rule → Refusal
first_broken given c [] = none
first_broken given c (rule k broken ∷ rs) = pick (given k && broken c) (refused k outer) (first_broken given c rs)
first_broken given c (motifs_own ∷ rs) = own_or c.made (first_broken given c rs)

-- the state after an operator is performed
unfoldable pub after : Setting → List ℕ → State → Case → State
after set s st c =
    record {
      at = c.op.next;
      place = place_after set s c.op c.seen.page st.place;
      performed = c.seen.count;
      records = c.records;
      past = c.op ∷ st.past;
    }

-- how judging ends: code, position, inner; and the state there
pub record Outcome : Type 0 where
  pub code : ℕ
  pub position : ℕ
  pub inner : ℕ
  pub state : State

abbrev pub refused_at : ℕ → ℕ → ℕ → State → Outcome
refused_at code position inner st = record { code = code; position = position; inner = inner; state = st }

-- the end of the job: pass between sessions, after one at least; else 27
unfoldable pub end_at : List ℕ → State → Place → Outcome
end_at s st (outside true) = refused_at 0 (length s) outer st
end_at s st (outside false) = refused_at 27 (length s) outer st
end_at s st (inside x) = refused_at 27 (length s) outer st

unfoldable pub on_refusal : Setting → List ℕ → State → Case → Refusal → Next State Outcome
on_refusal set s st c none = go (after set s st c)
on_refusal set s st c (refused code inner) = stop (refused_at code c.op.at inner st)

unfoldable pub on_case : (ℕ → Bool) → Setting → List ℕ → ℕ → State → Case → Next State Outcome
on_case given set s room st c = on_refusal set s st c (first_broken given c (rules room))

unfoldable pub on_read : (ℕ → Bool) → Setting → List ℕ → ℕ → State → Read → Next State Outcome
on_read given set s room st (Read.no code place) = stop (refused_at code place outer st)
on_read given set s room st Read.ended = stop (end_at s st st.place)
on_read given set s room st (Read.operator o) = on_case given set s room st (case_of set s st (session_of st.place) o)

unfoldable pub context_of : (ℕ → Bool) → Setting → Place → Context
context_of given set p = record { set = set; phase = phase_of p; opened = (session_of p).opened; asked = given 17 }

-- one operator
unfoldable pub job_step : (ℕ → Bool) → Setting → List ℕ → ℕ → State → Next State Outcome
job_step given set s room st = on_read given set s room st (operator_at (context_of given set st.place) s st.at)

-- before the first item: nothing performed, no session yet
abbrev pub starting : ℕ → State
starting at = record { at = at; place = outside false; performed = 0; records = 0; past = [] }

-- from a state on, operator by operator (the outcome that `iterate` is given is never reached)
unfoldable pub judged_from : (ℕ → Bool) → Setting → List ℕ → ℕ → State → Outcome
judged_from given set s room = iterate (job_step given set s room) (refused_at 5 0 outer (starting 0)) (λ st. length s - st.at)
