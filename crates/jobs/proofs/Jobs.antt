-- The proved jobs: one table under one theorem, by computing. The jobs stand in files of their own, in parts that Parts has; a file more is one line of `tables`.
-- Assumes nothing.
use Prim.Native.Nat.{ℕ}
use mathlib.Core.Path.{◌≡◌, refl}
use mathlib.Core.List.{List, [], ◌∷◌, ◌++◌}
use mathlib.Core.Bool.{Bool, true, false}
use lib.ListN.{drop}
use Rattle.scope.specs.Choice
use Rattle.scope.specs.Iterate
use Rattle.scope.specs.Number
use Rattle.scope.specs.Header
use Rattle.scope.specs.Setting.{Setting}
use Rattle.scope.specs.Item
use Rattle.scope.specs.Table
use Rattle.scope.specs.Attributes
use Rattle.scope.specs.Data
use Rattle.scope.specs.Order
use Rattle.scope.specs.Reading
use Rattle.scope.specs.Arm
use Rattle.scope.specs.Motif
use Rattle.scope.specs.Calls
use Rattle.scope.specs.Session
use Rattle.scope.specs.Judge
use Rattle.scope.specs.Names.{EndPage, Comment, PopGS, PushGS, NewPath}
use Rattle.scope.specs.Verdict.{Verdict, verdict_of, list_of}
use Rattle.scope.specs.Verdict as Verd
use Rattle.scope.specs.Plain
use Rattle.jobs.proofs.Parts.{all, times, op, H, S, E, J, P, O, Z, CUR, LN, LD, PW, D, GL, N, M, X, Tried}
use Rattle.jobs.proofs.JobsRead.{given, read}
use Rattle.jobs.proofs.JobsJudged.{judged}
use Rattle.jobs.proofs.Padded.{padded}
use Rattle.jobs.proofs.Copies.{copies}
use Rattle.jobs.proofs.Starts.{starts}
use Rattle.jobs.proofs.Halves.{halves}
use Rattle.jobs.proofs.Classes.{classes}
use Rattle.jobs.proofs.Replaced.{replacements}
use Rattle.jobs.proofs.Named.{named}
use Rattle.jobs.proofs.Patterned.{up_to, SEL, patterns, crowds}
use Rattle.jobs.proofs.Rings.{Begun, chain, rings}

-- the table
abbrev tables : List (List Tried)
tables =
    given
    ∷ read
    ∷ judged
    ∷ padded
    ∷ copies
    ∷ starts
    ∷ halves
    ∷ classes
    ∷ replacements
    ∷ named
    ∷ patterns
    ∷ []

joined : List (List Tried) → List Tried
joined [] = []
joined (x ∷ xs) = x ++ joined xs

answers : List Tried → List Verdict
answers [] = []
answers (x ∷ l) = verdict_of x.gray (all x.parts) x.work x.room ∷ answers l

expecteds : List Tried → List Verdict
expecteds [] = []
expecteds (x ∷ l) = x.expected ∷ expecteds l

-- J's four records, as 01 has them
abbrev records_of_j : List ℕ
records_of_j =
    0x01 ∷ 0x86 ∷ 0xc0 ∷ 0x00 ∷ 0x10 ∷ 0x00 ∷ 0x00 ∷ 0x00 ∷ 0x01 ∷ 0x00 ∷ 0x00 ∷ 0x00 ∷ 0x11 ∷ 0x00 ∷ 0x00 ∷ 0x00
    ∷ 0x01 ∷ 0x89 ∷ 0xd1 ∷ 0x00 ∷ 0x14 ∷ 0x00 ∷ 0x00 ∷ 0x00 ∷ 0x02 ∷ 0x00 ∷ 0x00 ∷ 0x00 ∷ 0x15 ∷ 0x00 ∷ 0x00 ∷ 0x00
    ∷ 0x02 ∷ 0x41 ∷ 0x02 ∷ 0x00 ∷ 0x1b ∷ 0x00 ∷ 0x00 ∷ 0x00 ∷ 0x00 ∷ 0x00 ∷ 0x00 ∷ 0x00 ∷ 0x00 ∷ 0x00 ∷ 0x00 ∷ 0x00
    ∷ 0x02 ∷ 0x42 ∷ 0x00 ∷ 0x00 ∷ 0x1c ∷ 0x00 ∷ 0x00 ∷ 0x00 ∷ 0x00 ∷ 0x00 ∷ 0x00 ∷ 0x00 ∷ 0x00 ∷ 0x00 ∷ 0x00 ∷ 0x00 ∷ []

-- a ReadStream at byte 48 reads two bytes of data at byte 51: its record, the tenth
abbrev with_data : List ℕ
with_data = all (H ∷ S ∷ O ∷ (N 0x61) ∷ (0xc0 ∷ 0x02 ∷ 0xf8 ∷ 0x8c ∷ 0x5c ∷ []) ∷ (D (0x29 ∷ 0x20 ∷ [])) ∷ [])

abbrev record_of_data : List ℕ
record_of_data = 0x02 ∷ 0x5c ∷ 0x01 ∷ 0x00 ∷ 0x30 ∷ 0x00 ∷ 0x00 ∷ 0x00 ∷ 0x02 ∷ 0x00 ∷ 0x00 ∷ 0x00 ∷ 0x33 ∷ 0x00 ∷ 0x00 ∷ 0x00 ∷ []

-- class 1;1, low byte first, pages in RGB
abbrev ordinary : Setting
ordinary = record { class = Header.one; high = false; gray = false }

-- J's session from a state with 999,999 performed, since no job that comes there can be unfolded here
abbrev near_the_limit : (ℕ → Bool) → Judge.Outcome
near_the_limit codes =
    Judge.judged_from codes ordinary J 65536
    (record { at = 16; place = Session.outside true; performed = 999_999; records = 0; past = [] })

-- the plain arm with so many operators performed
abbrev arm_behind : ℕ → Plain.PlainArm
arm_behind n = record { opened = false; page = Arm.blank false; of_session = []; of_page = []; count = n }

-- each operator that the plain arm performs, by its motif and the place of its tag there
trace_of : List Plain.Deed → List ℕ
trace_of [] = []
trace_of (d ∷ ds) = d.stroke.motif ∷ d.stroke.op.at ∷ trace_of ds

-- motif 2 has a Comment, a call of motif 1 and NewPath; the job calls it, and then has NewPath of its own
abbrev nested : List ℕ
nested =
    all (H ∷ S ∷ O ∷ (M 0x61 (PushGS ∷ PopGS ∷ [])) ∷ (M 0x62 (op Comment ++ (X 0x61 ++ op NewPath))) ∷ P ∷ (X 0x62) ∷ (op NewPath) ∷ Z ∷ [])

-- motif 1 is called on page one; on page two, where it is replaced, motif 2 calls it
abbrev mended : List ℕ
mended =
    all (H ∷ S ∷ O ∷ (M 0x61 PW) ∷ (M 0x62 (X 0x61)) ∷ P ∷ (X 0x61) ∷ (op EndPage) ∷ (M 0x61 (PushGS ∷ PopGS ∷ [])) ∷ P ∷ (X 0x62) ∷ Z ∷ [])

-- judging that begins in a session
begun_in : Begun → Judge.Outcome
begun_in x =
    Judge.judged_from Verd.every ordinary x.items 65536
    (record { at = 0; place = Session.inside (record { held = x.held; opened = x.opened; patterns = x.patterns; busy = x.busy }); performed = 0; records = 0; past = [] })

-- the code and the position with which each ends; and those expected
endings : List Begun → List ℕ
endings [] = []
endings (x ∷ l) = (begun_in x).code ∷ (begun_in x).position ∷ endings l

endings_of : List Begun → List ℕ
endings_of [] = []
endings_of (x ∷ l) = x.code ∷ x.position ∷ endings_of l

-- jobs that keep the layout rules and break another: 23, 24, 25, 17, 24 inside a call, and 34
abbrev broken : List (List (List ℕ))
broken =
    (H ∷ S ∷ P ∷ (times 25 (op PushGS)) ∷ (times 25 (op PopGS)) ∷ (op EndPage) ∷ E ∷ [])
    ∷ (H ∷ S ∷ P ∷ LN ∷ (op EndPage) ∷ E ∷ [])
    ∷ (H ∷ S ∷ P ∷ GL ∷ (op EndPage) ∷ E ∷ [])
    ∷ (H ∷ S ∷ P ∷ CUR ∷ LD ∷ (D (0x00 ∷ 0x00 ∷ [])) ∷ (op EndPage) ∷ E ∷ [])
    ∷ (H ∷ S ∷ O ∷ (M 0x61 (op PushGS ++ (LN ++ op PopGS))) ∷ P ∷ (X 0x61) ∷ Z ∷ [])
    ∷ (H ∷ S ∷ O ∷ (M 0x61 (SEL 1)) ∷ P ∷ (X 0x61) ∷ Z ∷ [])
    ∷ []

-- what a job gets; what it gets where 17, 23 to 26, 28 and 34 are never given; and whether the plain arm comes to its end with no rule broken
record Looked : Type 0 where
  code : ℕ
  kept : ℕ
  came : Bool

looked : List (List (List ℕ)) → List Looked
looked [] = []
looked (x ∷ l) =
    record {
      code = (verdict_of false (all x) 16384 65536).code;
      kept = (Verd.outcome_of false Verd.layout (all x) 16384 0).code;
      came = Plain.comes (Plain.unfolding_of false (all x)) Plain.at_start;
    }
    ∷ looked l

-- the layout rules are kept, and the plain arm meets a rule broken
abbrev breaking : ℕ → Looked
breaking code = record { code = code; kept = 0; came = false }

-- the table; J's records; (i) of 01; 26; the record of an operator with data; 26 is no layout rule, and the plain arm meets it; the order in which that arm
-- performs, and that it means the new motif, under the old number; calls in long chains and rings, and patterns where 32 are defined; the layout rules kept and another broken
proved_jobs : (answers (joined tables) ≡ expecteds (joined tables))
    × (list_of false J 16384 65536 ≡ records_of_j)
    × (Data.row_of 32 0 4 ∷ Data.row_of 33 0 4 ∷ Data.row_of 33 1 4 ∷ Data.row_of 33 2 4 ∷ [] ≡ 4 ∷ 8 ∷ 20 ∷ 36 ∷ [])
    × (Verd.told (near_the_limit Verd.every) ≡ record { code = 26; position = 28; inner = 4294967295; records = 3; performed = 1_000_000 })
    × (drop 144 (list_of false with_data 16384 65536) ≡ record_of_data)
    × ((near_the_limit Verd.layout).code ≡ 0)
    × (Plain.comes (Plain.unfolding_of false J) (arm_behind 999_998) ≡ true)
    × (Plain.comes (Plain.unfolding_of false J) (arm_behind 999_999) ≡ false)
    × (trace_of (Plain.unfolding_of false nested)
    ≡ 0 ∷ 27 ∷ 0 ∷ 36 ∷ 0 ∷ 43 ∷ 0 ∷ 49 ∷ 0 ∷ 70 ∷ 0 ∷ 77 ∷ 0 ∷ 83 ∷ 0 ∷ 111 ∷ 0 ∷ 120
    ∷ 0 ∷ 127 ∷ 2 ∷ 16 ∷ 2 ∷ 23 ∷ 1 ∷ 16 ∷ 1 ∷ 17 ∷ 2 ∷ 24 ∷ 0 ∷ 128 ∷ 0 ∷ 129 ∷ 0 ∷ 130 ∷ 0 ∷ 131 ∷ [])
    × (trace_of (Plain.unfolding_of false mended)
    ≡ 0 ∷ 27 ∷ 0 ∷ 36 ∷ 0 ∷ 43 ∷ 0 ∷ 49 ∷ 0 ∷ 73 ∷ 0 ∷ 80 ∷ 0 ∷ 86 ∷ 0 ∷ 112 ∷ 0 ∷ 121 ∷ 0 ∷ 128 ∷ 1 ∷ 20 ∷ 0 ∷ 129
    ∷ 0 ∷ 136 ∷ 0 ∷ 142 ∷ 0 ∷ 163 ∷ 0 ∷ 172 ∷ 0 ∷ 179 ∷ 2 ∷ 22 ∷ 1 ∷ 16 ∷ 1 ∷ 17 ∷ 0 ∷ 180 ∷ 0 ∷ 181 ∷ 0 ∷ 182 ∷ [])
    × (endings (rings ++ crowds) ≡ endings_of (rings ++ crowds))
    × (looked broken ≡ breaking 23 ∷ breaking 24 ∷ breaking 25 ∷ breaking 17 ∷ breaking 24 ∷ breaking 34 ∷ [])
unfolding Choice.among Choice.same Iterate.run Iterate.iterate Number.digits Number.number Header.may_stand Header.form_from Header.classed Header.header_of Item.white Item.spaces Item.after Item.width_of Item.kind_of Item.numbers_at Item.elements_at Item.counted_at Item.array_at Item.value_of Item.numbered Item.number_at Item.pair_of Item.pair_at Item.ended_with Item.on_pair Item.scan_item Item.scan_step Item.scan_from Item.scan_at Table.table_one Table.table_two Table.table Table.line_in Table.rule_in Attributes.has Attributes.two_at Attributes.finite Attributes.above Attributes.first_of Attributes.type_taken Attributes.in_range Attributes.attribute_code Attributes.one_by_one Attributes.all_there Attributes.how_many Attributes.choice_code Attributes.form_code Attributes.value_in Attributes.long_in Attributes.bytes_in Data.bits_of Data.row_of Data.pad_of Data.reads_rows Data.block_due Data.point_bytes Data.due_of Data.block_of Data.block_at Order.drawn Order.may_come Order.length_fits Order.rows_fit Reading.with_block Reading.with_data Reading.as_whole Reading.with_attributes Reading.with_line Reading.scanned Reading.operator_at Arm.needs_cursor Arm.needs_space Arm.select_of Arm.effect_of Arm.act_of Arm.done Arm.risen Arm.step Arm.walk Arm.from Motif.held_as Motif.is_held Motif.bytes_held Motif.hatch_of Motif.begun Motif.read_on Motif.picture_after Motif.saved_after Motif.phase_in Motif.context_in Motif.own_by Motif.on_end Motif.on_read Motif.motif_step Motif.judged_inside Motif.motif_from Motif.motif_of Calls.flat Calls.is_one Calls.call_by Calls.call_of Calls.through Calls.unfolded Calls.met_in Calls.met_by Calls.met Session.phase_drawing Session.phase_busy Session.phase_of Session.defined Session.defined_after Session.row_for Session.replaced Session.kept_as Session.session_after Session.place_after Judge.judged_at Judge.met_at Judge.case_of Judge.too_much Judge.no_place Judge.name_missing Judge.calls_itself Judge.too_deep Judge.source_closed Judge.saved_over Judge.cursor_unset Judge.space_wrong Judge.some_missing Judge.pattern_missing Judge.count_over Judge.room_over Judge.early Judge.armed Judge.limits Judge.rules Judge.first_broken Judge.after Judge.end_at Judge.on_refusal Judge.on_case Judge.on_read Judge.context_of Judge.job_step Judge.judged_from Verd.layout Verd.judged_after Verd.entry_of Verd.outcome_at Verd.outcome_of Verd.verdict_of Verd.four Verd.attribute_record Verd.operator_record Verd.attribute_records Verd.records_before Verd.list_of Verd.list_after Verd.zeros Verd.cleared_by Verd.work_after Plain.ends_pattern Plain.turn_of Plain.performs Plain.performed Plain.deeds Plain.known_as Plain.strokes_of Plain.on_own Plain.own_step Plain.own_from Plain.own_after Plain.own_of Plain.called Plain.doing_after Plain.is_known Plain.relearnt Plain.learnt Plain.known_after Plain.deeds_for Plain.on_operator Plain.on_next Plain.phase_at Plain.context_at Plain.unroll_step Plain.unfolded_after Plain.unfolding_of Plain.breaks Plain.comes all times up_to chain joined answers expecteds trace_of begun_in endings endings_of looked
proved_jobs = (refl, refl, refl, refl, refl, refl, refl, refl, refl, refl, refl, refl)
