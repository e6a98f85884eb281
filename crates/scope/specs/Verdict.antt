-- 01, "Verdicts", "The list" and the buffers afterwards.
-- Assumes nothing.
use Rattle.std.specs.Prelude.{ℕ, ◌+◌, ◌/◌, ◌%◌, Bool, true, not, List, [], ◌∷◌, ◌++◌, length, drop, replicate, ltb}
use Rattle.scope.specs.Choice.{pick, among}
use Rattle.scope.specs.Header.{Header, header_of}
use Rattle.scope.specs.Item.{Attribute}
use Rattle.scope.specs.Reading.{Operator}
use Rattle.scope.specs.Judge.{Outcome, refused_at, outer, starting, judged_from}

pub record Verdict : Type 0 where
  pub code : ℕ
  pub position : ℕ
  pub inner : ℕ
  pub records : ℕ
  pub performed : ℕ

-- all codes are given
abbrev pub every : ℕ → Bool
every k = true

-- the layout rules: those of codes 17, 23 to 26, 28 and 34 are never given
unfoldable pub layout : ℕ → Bool
layout k = not (among (17 ∷ 23 ∷ 24 ∷ 25 ∷ 26 ∷ 28 ∷ 34 ∷ []) k)

-- behind the header; a page starts in gray or in RGB, as the caller asks
unfoldable pub judged_after : (gray : Bool) → (ℕ → Bool) → List ℕ → ℕ → Header → Outcome
judged_after gray given s room (Header.no code place) = refused_at code place outer (starting 0)
judged_after gray given s room (Header.is class high next) = judged_from given (record { class = class; high = high; gray = gray }) s room (starting next)

-- before the job is looked at: 29, then 1, a code and a position; or it is admitted
pub data Entry : Type 0 where
  refused : (code : ℕ) → (position : ℕ) → Entry
  admitted : Entry

unfoldable pub entry_of : (length-of-job work : ℕ) → Entry
entry_of n work = pick (ltb work 16384) (refused 29 0) (pick (ltb 61440 n) (refused 1 61440) admitted)

unfoldable pub outcome_at : (gray : Bool) → (ℕ → Bool) → List ℕ → (room : ℕ) → Entry → Outcome
outcome_at gray given job room (refused code position) = refused_at code position outer (starting 0)
outcome_at gray given job room admitted = judged_after gray given job room (header_of job)

-- 29, 1, then the header, then items from the left
unfoldable pub outcome_of : (gray : Bool) → (ℕ → Bool) → List ℕ → (work room : ℕ) → Outcome
outcome_of gray given job work room = outcome_at gray given job room (entry_of (length job) work)

abbrev pub told : Outcome → Verdict
told o = record { code = o.code; position = o.position; inner = o.inner; records = o.state.records; performed = o.state.performed }

-- the verdict on a job whose pages start in gray, or else in RGB, with a work buffer and a list buffer of so many bytes
unfoldable pub verdict_of : (gray : Bool) → List ℕ → (work room : ℕ) → Verdict
verdict_of gray job work room = told (outcome_of gray every job work room)

-- a number in four bytes, low byte first
unfoldable pub four : ℕ → List ℕ
four n = n % 256 ∷ n / 256 % 256 ∷ n / 65536 % 256 ∷ n / 16777216 % 256 ∷ []

-- 1, number, type tag, 0; place of the tag; count; place of the first number
unfoldable pub attribute_record : Attribute → List ℕ
attribute_record a = 1 ∷ a.number ∷ a.tag ∷ 0 ∷ (four a.at ++ (four a.count ++ four a.first))

-- 2, tag, number of attributes in two bytes; place of the tag; length and place of the data
unfoldable pub operator_record : Operator → List ℕ
operator_record o =
    2 ∷ o.tag ∷ length o.attrs % 256 ∷ length o.attrs / 256
    ∷ (four o.at ++ (four o.length ++ four o.first))

unfoldable pub attribute_records : List Attribute → List ℕ
attribute_records [] = []
attribute_records (a ∷ l) = attribute_record a ++ attribute_records l

-- the records of the operators performed, which stand last one first, before those already there
unfoldable pub records_before : List Operator → List ℕ → List ℕ
records_before [] rest = rest
records_before (o ∷ os) rest = records_before os (attribute_records o.attrs ++ (operator_record o ++ rest))

-- the list's bytes
unfoldable pub list_of : (gray : Bool) → List ℕ → (work room : ℕ) → List ℕ
list_of gray job work room = records_before (outcome_of gray every job work room).state.past []

-- the list buffer afterwards: the records, and behind them what stood there
unfoldable pub list_after : (gray : Bool) → List ℕ → (work : ℕ) → List ℕ → List ℕ
list_after gray job work list = list_of gray job work (length list) ++ drop (length (list_of gray job work (length list))) list

-- so many zero bytes
unfoldable pub zeros : ℕ → List ℕ
zeros n = replicate n 0

-- the work buffer afterwards: untouched with codes 1 and 29, which only the entry gives; else its first 16,384 bytes are zero
unfoldable pub cleared_by : Entry → List ℕ → List ℕ
cleared_by (refused code position) work = work
cleared_by admitted work = zeros 16384 ++ drop 16384 work

unfoldable pub work_after : List ℕ → List ℕ → List ℕ
work_after job work = cleared_by (entry_of (length job) (length work)) work
