-- The theorems to prove, as types.
use Rattle.std.specs.Prelude.{ℕ, suc, ◌+◌, ◌*◌, ◌≤◌, ◌<◌, ◌≡◌, ◌↔◌, Bool, true, false, ◌||◌, List, [], ◌∷◌, ◌++◌, length, take, drop, get_or, eqb}
use Rattle.scope.specs.Choice.{pick, between, among}
use Rattle.scope.specs.Number.{number}
use Rattle.scope.specs.Header.{one, Header, header_of}
use Rattle.scope.specs.Iterate.{go, stop}
use Rattle.scope.specs.Item.{Attribute, plain, Value, kind_of, value_of, Scan, Walk, scan_step, white, spaces, after}
use Rattle.scope.specs.Reading.{Context, Operator, Read, operator_at}
use Rattle.scope.specs.Attributes.{bytes_in}
use Rattle.scope.specs.Arm.{Stroke}
use Rattle.scope.specs.Motif.{Own, Motif, Held, held_as, is_held, bytes_held, Judged, motif_of}
use Rattle.scope.specs.Calls.{nothing as nothing_met, met}
use Rattle.scope.specs.Reach.{fits, lost, holds, called_by, Ring}
use Rattle.scope.specs.Setting.{Setting, headed, setting_of}
use Rattle.scope.specs.Session.{Session, reading, outside, inside, session_of, joined_of, row_for}
use Rattle.scope.specs.Names.{BeginSession, SetDefaultGS, BeginStream, ReadStream, EndStream, ExecStream, StreamName}
use Rattle.scope.specs.Judge.{State, Case, Rule, rule, motifs_own, rules, outer, Outcome, starting}
use Rattle.scope.specs.Before.{header_before, operator_before, motif_before, outcome_before}
use Rattle.scope.specs.Runs.{case_at, next, Performs, Runs, Comes}
use Rattle.scope.specs.Verdict.{every, layout, verdict_of, outcome_of, attribute_record, operator_record, list_of, zeros, work_after}
use Rattle.scope.specs.Plain.{unfolding_of, comes, at_start}

-- what becomes of a job where 17, 23 to 26 and 28 are never given, with a work buffer that is long enough; the list plays no part then
abbrev pub without_the_six : (gray : Bool) → List ℕ → Outcome
without_the_six gray job = outcome_of gray layout job 16384 0

-- a job keeps the layout rules: it would pass were those six never given
pub record Keeps (gray : Bool) (job : List ℕ) : Type 0 where
  pub passes : (without_the_six gray job).code ≡ 0

-- there is room for its list
pub record HasRoom (gray : Bool) (job : List ℕ) (room : ℕ) : Type 0 where
  pub fits : (without_the_six gray job).state.records * 16 ≤ room

-- demand 3
abbrev pub Demand3 : Type 0
Demand3 =
    (gray : Bool) (job : List ℕ) (work room : ℕ) → 16384 ≤ work → Keeps gray job → HasRoom gray job room
    → (((verdict_of gray job work room).code ≡ 0) ↔ (comes (unfolding_of gray job) at_start ≡ true))
    × ((verdict_of gray job work room).code ≡ 0 → (verdict_of gray job work room).performed ≡ length (unfolding_of gray job))

-- demand 3 without a premise on the job: it passes exactly if it keeps the layout rules, has room for its list, and the plain arm comes to its end with no
-- rule broken
abbrev pub PassesExactly : Type 0
PassesExactly =
    (gray : Bool) (job : List ℕ) (work room : ℕ) → 16384 ≤ work
    → ((verdict_of gray job work room).code ≡ 0) ↔ (Keeps gray job × HasRoom gray job room × (comes (unfolding_of gray job) at_start ≡ true))

-- the position of a verdict is a place of the job, or its end
abbrev pub Within : Type 0
Within = (gray : Bool) (job : List ℕ) (work room : ℕ) → (verdict_of gray job work room).position ≤ length job

-- the codes: 0 to 29 but 20, which is retired, and 32 to 34
abbrev pub is_code : ℕ → Bool
is_code code = between 0 19 code || (between 21 29 code || between 32 34 code)

-- the code of a verdict is one of them
abbrev pub CodeKnown : Type 0
CodeKnown = (gray : Bool) (job : List ℕ) (work room : ℕ) → is_code (verdict_of gray job work room).code ≡ true

-- what inner says: nothing; or the motif that was being read is faulty, by its code and at a place of its own or at its end, and the position is that of an
-- EndStream
pub data InnerSays (set : Setting) (job : List ℕ) (e : Outcome) : Type 0 where
  nothing : e.inner ≡ outer → InnerSays set job e
  of_motif : motif_of set (joined_of (session_of e.state.place).busy) ≡ Judged.faulty e.code e.inner
      → e.inner ≤ length (joined_of (session_of e.state.place).busy) → get_or job e.position 0 ≡ EndStream → InnerSays set job e

-- inner is 4294967295 unless a motif is faulty
abbrev pub InnerKnown : Type 0
InnerKnown = (gray : Bool) (job : List ℕ) (work room : ℕ) → InnerSays (setting_of gray (header_of job)) job (outcome_of gray every job work room)

-- none of these rules is broken
pub data BreaksNone (c : Case) : List Rule → Type 0 where
  none : BreaksNone c []
  kept : {code : ℕ} {broken : Case → Bool} {rs : List Rule} → broken c ≡ false → BreaksNone c rs → BreaksNone c (rule code broken ∷ rs)
  sound : {ops : List Own} {rs : List Rule} → c.made ≡ Judged.valid ops → BreaksNone c rs → BreaksNone c (motifs_own ∷ rs)

-- the first fault: of a job that is let in and has a header, one operator after the other is performed, each of which is read without a fault and breaks no rule;
-- and there its judging ends, at the end of the job, at what reading refuses, or at an operator that a rule refuses
abbrev pub FirstFault : Type 0
FirstFault =
    (set : Setting) (job : List ℕ) (work room next : ℕ) → 16384 ≤ work → length job ≤ 61440 → header_of job ≡ headed set next
    → Comes every set job room (starting next) (outcome_of set.gray every job work room)
    × ((st : State) (o : Operator) → Performs every set job room st o → BreaksNone (case_at set job st o) (rules room))

-- the codes of a job that is cut off: in an item, and elsewhere
abbrev pub cut_off : ℕ → Bool
cut_off code = eqb code 5 || eqb code 27

-- the start of a job, with outcome e, and the whole job, with outcome f: they are the same; or the start passes, or is cut off, in its header or behind it, and no
-- motif is faulty
pub data StartOf (start : List ℕ) (e f : Outcome) : Type 0 where
  same : e ≡ f → StartOf start e f
  passes : e.code ≡ 0 → StartOf start e f
  cut : cut_off e.code ≡ true → e.inner ≡ outer → StartOf start e f
  in_header : e.code ≡ 2 → e.position ≡ length start → e.inner ≡ outer → StartOf start e f

-- no looking ahead: a refusal other than 5, 27 and a 2 at the end of the bytes is there whatever stands behind them, with the same verdict and the same list
abbrev pub NoLookingAhead : Type 0
NoLookingAhead =
    (gray : Bool) (start rest : List ℕ) (work room : ℕ) → length (start ++ rest) ≤ 61440
    → StartOf start (outcome_of gray every start work room) (outcome_of gray every (start ++ rest) work room)

-- cuts: each start of a job that passes gets 2, 5 or 27, with no motif at fault, or passes, since it ends between sessions
abbrev pub Cuts : Type 0
Cuts =
    (gray : Bool) (start rest : List ℕ) (work room : ℕ) → (verdict_of gray (start ++ rest) work room).code ≡ 0
    → (among (0 ∷ 2 ∷ 5 ∷ 27 ∷ []) (verdict_of gray start work room).code ≡ true) × ((verdict_of gray start work room).inner ≡ outer)

-- places that have moved with the bytes from place p to place q
abbrev pub Further : (p q : ℕ) → ℕ → ℕ → Type 0
Further p q x y = x + q ≡ y + p

-- an attribute that has moved, its place by `At`: the same but for its place and that of its value, which has moved along
pub record AttributeMoved (At : ℕ → ℕ → Type 0) (a b : Attribute) : Type 0 where
  pub number : a.number ≡ b.number
  pub tag : a.tag ≡ b.tag
  pub at : At a.at b.at
  pub count : a.count ≡ b.count
  pub first : a.first + b.at ≡ b.first + a.at

-- attributes that have moved, one by one
pub data AttributesMoved (At : ℕ → ℕ → Type 0) : List Attribute → List Attribute → Type 0 where
  none : AttributesMoved At [] []
  more : {a b : Attribute} {l m : List Attribute} → AttributeMoved At a b → AttributesMoved At l m → AttributesMoved At (a ∷ l) (b ∷ m)

-- an operator that has moved: the same but for its places; the 0 of one that reads no data stays
pub record OperatorMoved (At : ℕ → ℕ → Type 0) (a b : Operator) : Type 0 where
  pub tag : a.tag ≡ b.tag
  pub at : At a.at b.at
  pub attrs : AttributesMoved At a.attrs b.attrs
  pub length : a.length ≡ b.length
  pub reads : a.reads ≡ b.reads
  pub reading : a.reads ≡ true → At a.first b.first
  pub quiet : a.reads ≡ false → (a.first ≡ 0) × (b.first ≡ 0)

-- the operators after those before, which stand last one first
pub data OperatorsMoved (At : ℕ → ℕ → Type 0) (before other : List Operator) : List Operator → List Operator → Type 0 where
  start : OperatorsMoved At before other before other
  more : {a b : Operator} {l m : List Operator} → OperatorMoved At a b → OperatorsMoved At before other l m → OperatorsMoved At before other (a ∷ l) (b ∷ m)

-- judging comes to a state: from the end of the header on it has performed some operators, none refused
pub record Reached (set : Setting) (job : List ℕ) (room : ℕ) (st : State) : Type 0 where
  pub next : ℕ
  pub header : header_of job ≡ headed set next
  pub before : List Operator
  pub runs : Runs every set job room (starting next) before st

-- judging stands outside a session, between two or before the first
pub record Between (set : Setting) (job : List ℕ) (room : ℕ) (st : State) : Type 0 where
  pub there : Reached set job room st
  pub after_one : Bool
  pub stands : st.place ≡ outside after_one

-- the codes of the two rules that look at numbers gathered before: operators performed, records listed
abbrev pub limit : ℕ → Bool
limit code = eqb code 26 || eqb code 28

-- two outcomes are the same from a state of each job on: code, inner, the operators performed and the records listed since; the position but for the change
-- of place; and the operators listed since, but for their places
pub record SameFrom (a b : State) (e f : Outcome) : Type 0 where
  pub code : e.code ≡ f.code
  pub position : e.position + b.at ≡ f.position + a.at
  pub inner : e.inner ≡ f.inner
  pub performed : e.state.performed + b.performed ≡ f.state.performed + a.performed
  pub records : e.state.records + b.records ≡ f.state.records + a.records
  pub listed : OperatorsMoved (Further a.at b.at) a.past b.past e.state.past f.state.past

-- records of 16 bytes that have moved: record by record those of an attribute or of an operator that has
pub data RecordsMoved (At : ℕ → ℕ → Type 0) : List ℕ → List ℕ → Type 0 where
  none : RecordsMoved At [] []
  attribute : {a b : Attribute} {l m : List ℕ} → AttributeMoved At a b → RecordsMoved At l m → RecordsMoved At (attribute_record a ++ l) (attribute_record b ++ m)
  operator : {a b : Operator} {l m : List ℕ} → OperatorMoved At a b → RecordsMoved At l m → RecordsMoved At (operator_record a ++ l) (operator_record b ++ m)

-- the bytes of a list from its record m on up to its record n
abbrev pub records_from : (m n : ℕ) → List ℕ → List ℕ
records_from m n list = drop (m * 16) (take (n * 16) list)

-- a list has as many bytes as its records take
abbrev pub ListLong : Type 0
ListLong = (gray : Bool) (job : List ℕ) (work room : ℕ) → length (list_of gray job work room) ≡ (verdict_of gray job work room).records * 16

-- the first job is refused by 26 or 28 before the other ends: up to there the two are the same; and the numbers before, or the rooms, were not the same
pub record CutShort (a b : State) (room space : ℕ) (e f : Outcome) : Type 0 where
  pub over : limit e.code ≡ true
  pub later : List Operator
  pub until : List Operator
  pub parts : f.state.past ≡ later ++ until
  pub listed : OperatorsMoved (Further a.at b.at) a.past b.past e.state.past until
  pub differs : a.performed ≡ b.performed → a.records ≡ b.records → room ≡ space → ⊥

-- the two are the same from there on, or 26 or 28 cuts one of them short
pub data Alike (a b : State) (room space : ℕ) (e f : Outcome) : Type 0 where
  same : SameFrom a b e f → Alike a b room space e f
  first_cut : CutShort a b room space e f → Alike a b room space e f
  second_cut : CutShort b a space room f e → Alike a b room space e f

-- sessions are isolated: two jobs of one setting (class, byte order, start), each standing outside a session, whose bytes from there on are the same and not all white, get the same
-- verdict from there on, whatever they have performed and listed before, unless 26 or 28 cuts one of them short
abbrev pub Isolated : Type 0
Isolated =
    (set : Setting) (job other : List ℕ) (work work' room space : ℕ) (a b : State) → 16384 ≤ work → 16384 ≤ work' → length job ≤ 61440 → length other ≤ 61440
    → Between set job room a → Between set other space b → drop a.at job ≡ drop b.at other → after job a.at < length job
    → Alike a b room space (outcome_of set.gray every job work room) (outcome_of set.gray every other work' space)

-- where they are the same from there on, so are the bytes of both lists, record by record, but for places
abbrev pub SameList : Type 0
SameList =
    (set : Setting) (job other : List ℕ) (work work' room space : ℕ) (a b : State) → Between set job room a → Between set other space b
    → SameFrom a b (outcome_of set.gray every job work room) (outcome_of set.gray every other work' space)
    → RecordsMoved (Further a.at b.at) (records_from a.records (verdict_of set.gray job work room).records (list_of set.gray job work room))
    (records_from b.records (verdict_of set.gray other work' space).records (list_of set.gray other work' space))

-- the same state, so many bytes further on
abbrev pub move_by : ℕ → State → State
move_by k st = record { at = st.at + k; place = st.place; performed = st.performed; records = st.records; past = st.past }

-- a job with some bytes put in at a place
abbrev pub put_in : (at : ℕ) → (bytes job : List ℕ) → List ℕ
put_in at bytes job = take at job ++ (bytes ++ drop at job)

-- white space between operators plays no part: where judging stands, a job with white bytes and the job without them get the same code and inner place, perform
-- and list the same; positions and places behind the white bytes move along
abbrev pub WhiteBetween : Type 0
WhiteBetween =
    (set : Setting) (job blank : List ℕ) (work room : ℕ) (st : State) → 16384 ≤ work → length (put_in st.at blank job) ≤ 61440 → spaces blank ≡ length blank
    → Reached set job room st → SameFrom st (move_by (length blank) st) (outcome_of set.gray every job work room) (outcome_of set.gray every (put_in st.at blank job) work room)

-- a place, and where it is with so many bytes put in at place p: before p it stays, from p on it moves along
pub data Shifted (p many : ℕ) : ℕ → ℕ → Type 0 where
  stays : {x : ℕ} → x < p → Shifted p many x x
  moves : {x : ℕ} → p ≤ x → Shifted p many x (x + many)

-- from the place `from` on up to p there are white bytes only
pub record WhiteUpTo (s : List ℕ) (from p : ℕ) : Type 0 where
  pub behind : from ≤ p
  pub before : p ≤ after s from

-- the value whose tag stands at a place, after n pairs
abbrev pub value_at : (high : Bool) → List ℕ → (at n : ℕ) → Value
value_at high s at n = value_of high s at n (kind_of (get_or s at 0))

-- p is a place between two items of those that are read from where a scan stands: before a value, an operator's tag or the end; between a value and its number;
-- between an operator's tag and its data, or what comes behind one that reads none
pub data Gap (high : Bool) (s : List ℕ) (p : ℕ) : Walk → Type 0 where
  before_item : {w : Walk} → WhiteUpTo s w.at p → Gap high s p w
  before_number : {w : Walk} {count first next : ℕ} → value_at high s (after s w.at) (length w.attrs) ≡ Value.is count first next → WhiteUpTo s next p → Gap high s p w
  behind_tag : {w : Walk} {tag at : ℕ} {l : List Attribute} → scan_step high s w ≡ stop (Scan.tagged tag at l) → WhiteUpTo s (suc at) p → Gap high s p w
  behind_pair : {w v : Walk} → scan_step high s w ≡ go v → Gap high s p v → Gap high s p w

-- two outcomes, of a job and of the job with so many bytes put in at p, are the same: code, inner, the operators performed and the records listed; the position
-- but for the shift; and the operators listed since some before, but for their places
pub record SameButShifted (p many : ℕ) (before : List Operator) (e f : Outcome) : Type 0 where
  pub code : e.code ≡ f.code
  pub position : Shifted p many e.position f.position
  pub inner : e.inner ≡ f.inner
  pub performed : e.state.performed ≡ f.state.performed
  pub records : e.state.records ≡ f.state.records
  pub listed : OperatorsMoved (Shifted p many) before before e.state.past f.state.past

-- white space between items plays no part: a job, and the job with white bytes put in at a place between two items that judging reads, get the same code and inner
-- place, perform and list the same; positions and places behind the white bytes move along
abbrev pub WhiteBetweenItems : Type 0
WhiteBetweenItems =
    (set : Setting) (job blank : List ℕ) (work room p : ℕ) (st : State) → 16384 ≤ work → length (put_in p blank job) ≤ 61440 → spaces blank ≡ length blank
    → Reached set job room st → Gap set.high job p (record { at = st.at; attrs = [] })
    → SameButShifted p (length blank) st.past (outcome_of set.gray every job work room) (outcome_of set.gray every (put_in p blank job) work room)

-- the bytes of the number right behind an item's tag: of an attribute's number, or of the length of data
abbrev pub leads : ℕ → ℕ
leads t = pick (eqb t 0xf8 || eqb t 0xfb) 1 (pick (eqb t 0xf9) 2 (pick (eqb t 0xfa) 4 0))

abbrev pub is_number : ℕ → Bool
is_number t = eqb t 0xf8 || eqb t 0xf9

abbrev pub is_data : ℕ → Bool
is_data t = eqb t 0xfa || eqb t 0xfb

abbrev pub led_by : Bool → List ℕ → ℕ → ℕ
led_by high s at = number high (leads (get_or s at 0)) s (at + 1)

-- the places at which items begin, from a place on
pub data ItemFrom (high : Bool) (s : List ℕ) (start : ℕ) : ℕ → Type 0 where
  first : ItemFrom high s start start
  behind_white : {at : ℕ} → ItemFrom high s start at → white (get_or s at 0) ≡ true → ItemFrom high s start (suc at)
  behind_tag : {at : ℕ} → ItemFrom high s start at → between 0x41 0xbf (get_or s at 0) ≡ true → ItemFrom high s start (suc at)
  behind_value : {at c f next : ℕ} → ItemFrom high s start at → value_at high s at 0 ≡ Value.is c f next → ItemFrom high s start next
  behind_number : {at : ℕ} → ItemFrom high s start at → is_number (get_or s at 0) ≡ true → ItemFrom high s start (at + 1 + leads (get_or s at 0))
  behind_data : {at : ℕ} → ItemFrom high s start at → is_data (get_or s at 0) ≡ true → ItemFrom high s start (at + 1 + leads (get_or s at 0) + led_by high s at)

-- an item that is the same in two jobs, at the same place, each in its own byte order
pub record SameItem (h k : Bool) (s t : List ℕ) (at : ℕ) : Type 0 where
  pub tag : get_or s at 0 ≡ get_or t at 0
  pub extent : value_at h s at 0 ≡ value_at k t at 0
  pub numbers : (c f next : ℕ) → value_at h s at 0 ≡ Value.is c f next → (n w : ℕ) → kind_of (get_or s at 0) ≡ plain n w → (i : ℕ) → i < n
      → number h w s (f + i * w) ≡ number k w t (f + i * w)
  pub row : (c f next : ℕ) → value_at h s at 0 ≡ Value.is c f next → get_or s at 0 ≡ 0xc8 → take c (drop f s) ≡ take c (drop f t)
  pub led : led_by h s at ≡ led_by k t at
  pub block : is_data (get_or s at 0) ≡ true → take (led_by h s at) (drop (at + 1 + leads (get_or s at 0)) s) ≡ take (led_by h s at) (drop (at + 1 + leads (get_or s at 0)) t)

-- two outcomes are the same: code, position, inner, the operators performed and the records listed; and the operators listed, at the same places
pub record SameOutcome (e f : Outcome) : Type 0 where
  pub code : e.code ≡ f.code
  pub position : e.position ≡ f.position
  pub inner : e.inner ≡ f.inner
  pub performed : e.state.performed ≡ f.state.performed
  pub records : e.state.records ≡ f.state.records
  pub listed : OperatorsMoved (λ x y. x ≡ y) [] [] e.state.past f.state.past

-- the byte order plays no part: two jobs of the same length, class and start, each with a header of its own byte order that ends at the same place, whose items from
-- there on are the same, each number in the byte order of its job, get the same verdict and list the same
abbrev pub ByteOrder : Type 0
ByteOrder =
    (set other : Setting) (job turned : List ℕ) (work room next : ℕ) → 16384 ≤ work → length job ≤ 61440 → length job ≡ length turned → set.class ≡ other.class
    → set.gray ≡ other.gray → header_of job ≡ headed set next → header_of turned ≡ headed other next
    → ((at : ℕ) → ItemFrom set.high job next at → SameItem set.high other.high job turned at)
    → SameOutcome (outcome_of set.gray every job work room) (outcome_of other.gray every turned work room)

-- the operators performed since the last BeginSession; as everywhere, the last one stands first
unfoldable pub of_session : List Operator → List Operator
of_session [] = []
of_session (o ∷ os) = elim (eqb o.tag BeginSession) [ true ↦ [] | false ↦ o ∷ of_session os ]

-- a motif is being read: a BeginStream of this name, and behind it ReadStreams whose data, joined, are these bytes
pub data Collects (s name : List ℕ) : List ℕ → List Operator → Type 0 where
  begins : {o : Operator} {os : List Operator} → o.tag ≡ BeginStream → bytes_in s o.attrs StreamName ≡ name → Collects s name [] (o ∷ os)
  reads : {bytes : List ℕ} {o : Operator} {os : List Operator} → o.tag ≡ ReadStream → Collects s name bytes os
      → Collects s name (bytes ++ take o.length (drop o.first s)) (o ∷ os)

-- among some operators a motif of this name is defined, and these are its bytes by its last definition: a BeginStream of the name, ReadStreams of the bytes, an
-- EndStream; and no later one ends a motif of that name
pub data Defines (s name bytes : List ℕ) : List Operator → Type 0 where
  ends : {o : Operator} {os : List Operator} → o.tag ≡ EndStream → Collects s name bytes os → Defines s name bytes (o ∷ os)
  before : {o : Operator} {os : List Operator} → ((others : List ℕ) → o.tag ≡ EndStream → Collects s name others os → ⊥) → Defines s name bytes os
      → Defines s name bytes (o ∷ os)

-- all these motifs are defined among some operators, each by a name of its own, and their own operators are those of their bytes
pub data AllDefined (set : Setting) (s : List ℕ) (since : List Operator) : List Motif → Type 0 where
  none : AllDefined set s since []
  more : {m : Motif} {ms : List Motif} → Defines s m.name m.bytes since → held_as m.name ms ≡ Held.none → motif_of set m.bytes ≡ Judged.valid m.ops
      → AllDefined set s since ms → AllDefined set s since (m ∷ ms)

-- a motif is known only inside the session that defined it, and by its last definition there: in every state that judging a job comes to, each motif that is held
-- was so defined since the last BeginSession
abbrev pub OwnMotifs : Type 0
OwnMotifs =
    (set : Setting) (job : List ℕ) (room next : ℕ) (os : List Operator) (st : State) → Runs every set job room (starting next) os st
    → AllDefined set job (of_session st.past) (session_of st.place).held

-- the bytes that the motif of a name takes, and its number; 0 where the name is not held
abbrev pub room_of : Held → ℕ
room_of (Held.is m) = length m.bytes
room_of Held.none = 0

abbrev pub number_of : Held → ℕ
number_of (Held.is m) = m.number
number_of Held.none = 0

-- what is held before and after the end of a motif of this name and these bytes: the name holds it from then on, and every other name what it held; a motif that
-- is replaced leaves its number, and its room
pub record Replaced (name bytes : List ℕ) (before after : List Motif) : Type 0 where
  pub held : (m : Motif) × (held_as name after ≡ Held.is m) × (m.bytes ≡ bytes)
  pub others : (other : List ℕ) → (other ≡ name → ⊥) → held_as other after ≡ held_as other before
  pub number : number_of (held_as name after) ≡ pick (is_held (held_as name before)) (number_of (held_as name before)) (suc (length before))
  pub room : bytes_held after + room_of (held_as name before) ≡ bytes_held before + length bytes

-- request 8: so it is with every EndStream that is performed
abbrev pub Replaces : Type 0
Replaces =
    (set : Setting) (job : List ℕ) (room : ℕ) (st : State) (o : Operator) (x : Session) (name bytes : List ℕ) → Performs every set job room st o → o.tag ≡ EndStream
    → st.place ≡ inside x → x.busy ≡ reading name bytes → Replaced name bytes x.held (session_of (next set job st o).place).held

-- what a call meets, in words of what it reaches by at most d calls: a name that is not held
abbrev pub MissingExactly : Type 0
MissingExactly = (held : List Motif) (d : ℕ) (name : List ℕ) → ((met held d [] name).missing ≡ true) ↔ (lost (holds held) (called_by held) d name ≡ true)

-- a motif that calls itself, directly or through others
abbrev pub RingExactly : Type 0
RingExactly = (held : List Motif) (d : ℕ) (name : List ℕ) → ((met held d [] name).again ≡ true) ↔ Ring held d name

-- and it meets nothing exactly if its motif and all that it reaches are held and nest within so many
abbrev pub NestsExactly : Type 0
NestsExactly = (held : List Motif) (d : ℕ) (name : List ℕ) → (met held (suc d) [] name ≡ nothing_met) ↔ (fits (holds held) (called_by held) (suc d) name ≡ true)

-- at every moment a session holds at most 64 motifs, and with the one that is being read at most 16,384 bytes of them
abbrev pub Bounded : Type 0
Bounded =
    (set : Setting) (job : List ℕ) (room at : ℕ) (os : List Operator) (st : State) → Runs every set job room (starting at) os st
    → (length (session_of st.place).held ≤ 64) × (bytes_held (session_of st.place).held + length (joined_of (session_of st.place).busy) ≤ 16384)

-- an operator as it is performed, x, is one of these own operators of a motif
pub data Among (x : Stroke) : List Own → Type 0 where
  does_it : {os : List Own} → Among x (Own.does x.op x.act ∷ os)
  calls_it : {name : List ℕ} {os : List Own} → Among x (Own.calls x.op name ∷ os)
  later : {o : Own} {os : List Own} → Among x os → Among x (o ∷ os)

-- what is performed for an operator of the job: itself; or an operator of a motif that is defined among some operators
pub data Drawn (s : List ℕ) (since : List Operator) (x : Stroke) : Type 0 where
  itself : x.motif ≡ 0 → Drawn s since x
  of_motif : (m : Motif) → x.motif ≡ m.number → Among x m.ops → Defines s m.name m.bytes since → Drawn s since x

-- all of a row
pub data AllDrawn (s : List ℕ) (since : List Operator) : List Stroke → Type 0 where
  none : AllDrawn s since []
  more : {x : Stroke} {l : List Stroke} → Drawn s since x → AllDrawn s since l → AllDrawn s since (x ∷ l)

-- no motif of another session is ever performed: in every state that judging a job comes to, whatever operator comes next, all that is performed for it is itself and
-- operators of motifs defined since the last BeginSession
abbrev pub OwnStrokes : Type 0
OwnStrokes =
    (set : Setting) (job : List ℕ) (room next : ℕ) (os : List Operator) (st : State) (o : Operator) → Runs every set job room (starting next) os st
    → AllDrawn job (of_session st.past) (row_for set job (session_of st.place).held o)

-- an ExecStream that is performed, in whatever job, names a motif that was defined in its own session, with the bytes of its last definition
abbrev pub OwnCalls : Type 0
OwnCalls =
    (gray : Bool) (job : List ℕ) (work room : ℕ) (later before : List Operator) (o : Operator) → (outcome_of gray every job work room).state.past ≡ later ++ (o ∷ before)
    → o.tag ≡ ExecStream → (bytes : List ℕ) × Defines job (bytes_in job o.attrs StreamName) bytes (of_session before)

-- the work buffer of a job that is judged is zero in its first 16,384 bytes, and behind them as it was
abbrev pub Zeroed : Type 0
Zeroed =
    (job work : List ℕ) → length job ≤ 61440 → 16384 ≤ length work → work_after job work ≡ zeros 16384 ++ drop 16384 work

-- no motif is left in the work buffer: what it holds afterwards is the same for any two jobs of at most 61,440 bytes
abbrev pub NoMotifLeft : Type 0
NoMotifLeft =
    (job other work : List ℕ) → length job ≤ 61440 → length other ≤ 61440 → work_after job work ≡ work_after other work

-- request 6 leaves class 1;1 as it was. There each operator is read as before, and each refusal of reading is the one before
abbrev pub ReadAsBefore : Type 0
ReadAsBefore = (c : Context) (s : List ℕ) (at : ℕ) → c.set.class ≡ one → operator_at c s at ≡ operator_before c s at

-- none that is read is SetDefaultGS, the one operator whose effect is new
abbrev pub NoneRestores : Type 0
NoneRestores = (c : Context) (s : List ℕ) (at : ℕ) (o : Operator) → c.set.class ≡ one → operator_at c s at ≡ Read.operator o → eqb o.tag SetDefaultGS ≡ false

-- a motif is judged as before
abbrev pub MotifsAsBefore : Type 0
MotifsAsBefore = (set : Setting) (s : List ℕ) → set.class ≡ one → motif_of set s ≡ motif_before set s (header_before s)

-- and the whole outcome of a job with a header of class 1;1, in either start, is the one before: verdict, and operators listed
abbrev pub OneAsBefore : Type 0
OneAsBefore =
    (gray : Bool) (given : ℕ → Bool) (job : List ℕ) (work room : ℕ) (high : Bool) (next : ℕ) → header_of job ≡ Header.is one high next
    → outcome_of gray given job work room ≡ outcome_before gray given job work room
