-- White space at work, on a line of one point with its data: the places between its items, one of each kind; and two white bytes put in before the data change nothing
-- but the places behind them.
-- Assumes nothing.
use Prim.Native.Nat.{ℕ, ◌+◌}
use mathlib.Core.Path.{◌≡◌, refl}
use mathlib.Core.List.{List, [], ◌∷◌, ◌++◌}
use mathlib.Core.Bool.{true, false}
use native.Mathlib.Omega.{arith}
use Rattle.scope.specs.Choice
use Rattle.scope.specs.Iterate
use Rattle.scope.specs.Number
use Rattle.scope.specs.Header
use Rattle.scope.specs.Item
use Rattle.scope.specs.Table
use Rattle.scope.specs.Attributes
use Rattle.scope.specs.Data
use Rattle.scope.specs.Order
use Rattle.scope.specs.Reading
use Rattle.scope.specs.Arm
use Rattle.scope.specs.Motif
use Rattle.scope.specs.Calls
use Rattle.scope.specs.Session
use Rattle.scope.specs.Judge
use Rattle.scope.specs.Verdict as Verd
use Rattle.scope.specs.Claims.{put_in, WhiteUpTo, Gap, before_item, before_number, behind_tag, behind_pair, SameButShifted}
use Rattle.scope.proofs.Runs.{steps, steps-reach}
use Rattle.jobs.proofs.Parts.{H, S, O, P, CUR, LD, D, Z}
use Rattle.jobs.proofs.Shown.{low, performed_in}
use Rattle.scope.proofs.WhiteItems.{white-between_items}

-- a page with a line of one point
abbrev pub line : List ℕ
line = H ++ (S ++ (O ++ (P ++ (CUR ++ (LD ++ (D (0x01 ∷ 0x02 ∷ []) ++ Z))))))

-- a space and a line feed
abbrev pub blank : List ℕ
blank = 0x20 ∷ 0x0a ∷ []

-- four operators of the job
abbrev four : Iterate.Next Judge.State Judge.Outcome
four = steps Verd.every low line 65536 4 (Judge.starting 16)

-- where they come to: at byte 52, with 4 operators performed and 11 records
abbrev pub there : Judge.State
there = record { at = 52; place = Session.inside (record { held = []; opened = true; patterns = []; busy = Session.drawing (record { cursor = true; gray = false; saved = [] }) [] Motif.Picture.none }); performed = 4; records = 11; past = performed_in four }

-- by computing: the four operators come there; the job has a header, and passes, and so does the one with the white bytes, two bytes later
computed : (four ≡ Iterate.go there)
    × (Header.header_of line ≡ Header.Header.is Header.one false 16)
    × (Verd.verdict_of false line 16384 65536 ≡ record { code = 0; position = 68; inner = Judge.outer; records = 17; performed = 8 })
    × (Verd.verdict_of false (put_in 61 blank line) 16384 65536 ≡ record { code = 0; position = 70; inner = Judge.outer; records = 17; performed = 8 })
unfolding Choice.among Choice.same Iterate.run Iterate.iterate Number.digits Number.number Header.may_stand Header.form_from Header.classed Header.header_of Item.white Item.spaces Item.after Item.width_of Item.kind_of Item.numbers_at Item.elements_at Item.counted_at Item.array_at Item.value_of Item.numbered Item.number_at Item.pair_of Item.pair_at Item.ended_with Item.on_pair Item.scan_item Item.scan_step Item.scan_from Item.scan_at Table.table_one Table.table_two Table.table Table.line_in Table.rule_in Attributes.has Attributes.two_at Attributes.finite Attributes.above Attributes.first_of Attributes.type_taken Attributes.in_range Attributes.attribute_code Attributes.one_by_one Attributes.all_there Attributes.how_many Attributes.choice_code Attributes.form_code Attributes.value_in Attributes.long_in Attributes.bytes_in Data.bits_of Data.row_of Data.pad_of Data.reads_rows Data.block_due Data.point_bytes Data.due_of Data.block_of Data.block_at Order.drawn Order.may_come Order.length_fits Order.rows_fit Reading.with_block Reading.with_data Reading.as_whole Reading.with_attributes Reading.with_line Reading.scanned Reading.operator_at Arm.needs_cursor Arm.needs_space Arm.select_of Arm.effect_of Arm.act_of Arm.done Arm.risen Arm.step Arm.walk Arm.from Motif.held_as Motif.is_held Motif.bytes_held Motif.hatch_of Motif.begun Motif.read_on Motif.picture_after Motif.saved_after Motif.phase_in Motif.context_in Motif.own_by Motif.on_end Motif.on_read Motif.motif_step Motif.judged_inside Motif.motif_from Motif.motif_of Calls.flat Calls.is_one Calls.call_by Calls.call_of Calls.through Calls.unfolded Calls.met_in Calls.met_by Calls.met Session.phase_drawing Session.phase_busy Session.phase_of Session.defined Session.defined_after Session.row_for Session.replaced Session.kept_as Session.session_after Session.place_after Judge.judged_at Judge.met_at Judge.case_of Judge.too_much Judge.no_place Judge.name_missing Judge.calls_itself Judge.too_deep Judge.source_closed Judge.saved_over Judge.cursor_unset Judge.space_wrong Judge.some_missing Judge.pattern_missing Judge.count_over Judge.room_over Judge.early Judge.armed Judge.limits Judge.rules Judge.first_broken Judge.after Judge.end_at Judge.on_refusal Judge.on_case Judge.on_read Judge.context_of Judge.job_step Judge.judged_from Verd.layout Verd.judged_after Verd.entry_of Verd.outcome_at Verd.outcome_of Verd.verdict_of Verd.four Verd.attribute_record Verd.operator_record Verd.attribute_records Verd.records_before Verd.list_of Verd.list_after Verd.zeros Verd.cleared_by Verd.work_after steps performed_in
computed = (refl, refl, refl, refl)

-- the items of the line: before its first value, between a value and its number, before the next value, before its tag, and before its data
abbrev pub GapAt : ℕ → Type 0
GapAt p = Gap false line p (record { at = 52; attrs = [] })

pub gaps : GapAt 52 × GapAt 54 × GapAt 56 × GapAt 60 × GapAt 61
unfolding Choice.among Iterate.run Iterate.iterate Number.digits Number.number Item.white Item.spaces Item.after Item.width_of Item.kind_of Item.numbers_at Item.elements_at Item.counted_at Item.array_at Item.value_of Item.numbered Item.number_at Item.pair_of Item.pair_at Item.ended_with Item.on_pair Item.scan_item Item.scan_step
gaps =
    let up : (p : ℕ) → WhiteUpTo line p p = λ p. record { behind = omega arith; before = omega arith } in (
      before_item (up 52),
      before_number refl (up 54),
      behind_pair refl (before_item (up 56)),
      behind_pair refl (behind_pair refl (before_item (up 60))),
      behind_pair refl (behind_pair refl (behind_tag refl (up 61))),
    )

-- what the theorem says of the last of them
pub blank-before_data : SameButShifted 61 2 there.past (Verd.outcome_of false Verd.every line 16384 65536) (Verd.outcome_of false Verd.every (put_in 61 blank line) 16384 65536)
unfolding Item.spaces Item.white
blank-before_data =
    let r = steps-reach Verd.every low line 65536 4 (Judge.starting 16) there computed.0 in
    white-between_items low line blank 16384 65536 61 there (omega arith) (omega arith) refl
    (record { next = 16; header = computed.1; before = r.ops; runs = r.runs }) gaps.4
