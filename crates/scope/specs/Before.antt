-- 02, item 6, leaves class 1;1 as it was: reading without that item, by the other items as they are, with one class and one table, rows filled up to 4 bytes and no
-- length told beside them; and with it the judging of a motif and the outcome of a job. Claims.OneAsBefore says that a job of class 1;1 gets this outcome.
-- Assumes nothing.
use Rattle.std.specs.Prelude.{ℕ, ◌+◌, ◌-◌, ◌*◌, Bool, true, ◌&&◌, ◌||◌, List, [], length, get_or, leb, eqb}
use Rattle.scope.specs.Choice.{pick}
use Rattle.scope.specs.Iterate.{iterate}
use Rattle.scope.specs.Header.{Form, ends, breaks, form_from, one, Header}
use Rattle.scope.specs.Setting.{Setting, of_motif}
use Rattle.scope.specs.Item.{Attribute, Scan, scan_at}
use Rattle.scope.specs.Names.{ReadStream, StreamDataLength, StartLine, BlockHeight, LinePath, LineRelPath, NumberOfPoints, PointType}
use Rattle.scope.specs.Table.{Row, Line, table_one, line_in}
use Rattle.scope.specs.Attributes.{Fault, fine, bad, has, value_in, one_by_one, form_code}
use Rattle.scope.specs.Data.{Image, row_of, reads_rows, Due, point_bytes}
use Rattle.scope.specs.Order.{may_come, image_of}
use Rattle.scope.specs.Reading.{Context, Read, with_data}
use Rattle.scope.specs.Motif as motif
use Rattle.scope.specs.Motif.{Picture, Inside, Judged, faulty, context_in}
use Rattle.scope.specs.Judge.{State, Outcome, outer, refused_at, starting, context_of, on_read}
use Rattle.scope.specs.Verdict.{every, Entry, refused, admitted, entry_of, records_before}

-- a header: 3, 2, and 4 for every class but 1;1
unfoldable pub classed_before : List ℕ → Form → Header
classed_before s (breaks i) = Header.no 2 i
classed_before s (ends n) = pick (eqb (get_or s 12 0) 0x31 && eqb (get_or s 14 0) 0x31) (Header.is one (eqb (get_or s 0 0) 0x28) n) (Header.no 4 12)

unfoldable pub header_before : List ℕ → Header
header_before s = pick (eqb (get_or s 0 0) 0x27) (Header.no 3 0) (classed_before s (form_from 0 s))

-- the rows of an image: StartLine is the number of rows read so far, and rows never exceed SourceHeight
unfoldable pub fit_before : Bool → List ℕ → Image → ℕ → List Attribute → Bool
fit_before high s i tag l = pick (reads_rows tag) (eqb (value_in high s l StartLine) i.rows && leb (i.rows + value_in high s l BlockHeight) i.height) true

-- data lengths: rows are filled up to a multiple of 4 bytes
unfoldable pub due_before : Bool → List ℕ → Image → ℕ → List Attribute → Due
due_before high s i tag l =
    pick (eqb tag ReadStream) (Due.reads (value_in high s l StreamDataLength))
    (pick (reads_rows tag) (Due.reads (value_in high s l BlockHeight * row_of i.width i.depth 4))
    (pick (eqb tag LinePath || eqb tag LineRelPath)
    (pick (has NumberOfPoints l) (Due.reads (point_bytes (value_in high s l PointType) (value_in high s l NumberOfPoints))) Due.none) Due.none))

-- an operator: 9, 10, attribute by attribute, 13, 14, then 17 and the data
unfoldable pub whole_before : Context → List ℕ → ℕ → ℕ → List Attribute → ℕ → Read
whole_before c s tag at l code =
    pick (eqb code 0)
    (pick (fit_before c.set.high s (image_of c.phase) tag l)
    (with_data c s tag at l (due_before c.set.high s (image_of c.phase) tag l)) (Read.no 14 at))
    (Read.no code at)

unfoldable pub attributes_before : Context → List ℕ → ℕ → ℕ → List Attribute → Row → Fault → Read
attributes_before c s tag at l r (bad code place) = Read.no code place
attributes_before c s tag at l r fine = whole_before c s tag at l (form_code l r.rules r.form)

unfoldable pub line_before : Context → List ℕ → ℕ → ℕ → List Attribute → Line → Read
line_before c s tag at l Line.none = Read.no 9 at
line_before c s tag at l (Line.is r) =
    pick (may_come c.phase c.opened tag)
    (attributes_before c s tag at l r (one_by_one c.set.high s r.rules [] l))
    (Read.no 10 at)

unfoldable pub scanned_before : Context → List ℕ → Scan → Read
scanned_before c s (Scan.tagged tag at l) = line_before c s tag at l (line_in table_one tag)
scanned_before c s Scan.ended = Read.ended
scanned_before c s (Scan.no code place) = Read.no code place

unfoldable pub operator_before : Context → List ℕ → ℕ → Read
operator_before c s at = scanned_before c s (scan_at c.set.high s at)

-- a motif, by that reading
unfoldable pub inside_before : Setting → List ℕ → Inside → Judged
inside_before set s = iterate (λ w. motif.on_read set s w (operator_before (context_in set w) s w.at)) (faulty 5 0) (λ w. length s - w.at)

unfoldable pub motif_before : Setting → List ℕ → Header → Judged
motif_before set s (Header.no code place) = faulty code place
motif_before set s (Header.is class high next) = inside_before (of_motif set high) s (record { at = next; saved = 0; picture = Picture.none; ops = [] })

-- a job, by that reading; its motifs are judged as in every job, which is as motif_before has it (Claims.MotifsAsBefore)
unfoldable pub judged_before : (ℕ → Bool) → Setting → List ℕ → ℕ → State → Outcome
judged_before given set s room =
    iterate (λ st. on_read given set s room st (operator_before (context_of given set st.place) s st.at)) (refused_at 5 0 outer (starting 0)) (λ st. length s - st.at)

unfoldable pub behind_before : (gray : Bool) → (ℕ → Bool) → List ℕ → ℕ → Header → Outcome
behind_before gray given s room (Header.no code place) = refused_at code place outer (starting 0)
behind_before gray given s room (Header.is class high next) = judged_before given (record { class = class; high = high; gray = gray }) s room (starting next)

unfoldable pub entered_before : (gray : Bool) → (ℕ → Bool) → List ℕ → (room : ℕ) → Entry → Outcome
entered_before gray given job room (refused code position) = refused_at code position outer (starting 0)
entered_before gray given job room admitted = behind_before gray given job room (header_before job)

unfoldable pub outcome_before : (gray : Bool) → (ℕ → Bool) → List ℕ → (work room : ℕ) → Outcome
outcome_before gray given job work room = entered_before gray given job room (entry_of (length job) work)

-- the list's bytes by it
unfoldable pub list_before : (gray : Bool) → List ℕ → (work room : ℕ) → List ℕ
list_before gray job work room = records_before (outcome_before gray every job work room).state.past []
