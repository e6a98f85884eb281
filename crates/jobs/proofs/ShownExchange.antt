-- The order of pupils at work, on the story of the demands: two pupils' sessions in one job, each with a motif of its own under the same name, "S3 wave", and white
-- space around both. Exchanged, the job passes as it did: each session performs its own motif.
-- Assumes nothing.
use Prim.Native.Nat.{ℕ}
use mathlib.Core.Path.{◌≡◌, refl}
use mathlib.Core.List.{List, [], ◌∷◌, ◌++◌}
use mathlib.Core.Bool.{true, false}
use lib.ListN.{length, get_or, take, drop}
use Rattle.scope.specs.Choice
use Rattle.scope.specs.Iterate
use Rattle.scope.specs.Number
use Rattle.scope.specs.Header
use Rattle.scope.specs.Item
use Rattle.scope.specs.Table
use Rattle.scope.specs.Attributes
use Rattle.scope.specs.Data
use Rattle.scope.specs.Order
use Rattle.scope.specs.Reading
use Rattle.scope.specs.Arm
use Rattle.scope.specs.Motif
use Rattle.scope.specs.Calls
use Rattle.scope.specs.Session
use Rattle.scope.specs.Judge
use Rattle.scope.specs.Verdict as Verd
use Rattle.scope.specs.Runs as Running
use Rattle.scope.specs.Claims.{records_from}
use Rattle.scope.specs.Exchange as Ex
use Rattle.jobs.proofs.Parts.{H, S, O, P, PW, D, Z}
use Rattle.scope.proofs.Exchange.{sessions-exchanged}
use Rattle.scope.proofs.ExchangeList.{lists_exchanged}

-- the name "S3 wave" as an attribute
abbrev NAMED : List ℕ
NAMED = 0xc8 ∷ 0xc0 ∷ 7 ∷ 0x53 ∷ 0x33 ∷ 0x20 ∷ 0x77 ∷ 0x61 ∷ 0x76 ∷ 0x65 ∷ 0xf8 ∷ 0x8b ∷ []

-- a pupil's session: a motif of that name, and a page that calls it
abbrev pub pupil : (motif : List ℕ) → List ℕ
pupil motif =
    S ++ (O ++ (NAMED ++ (0x5b ∷ 0xc1 ∷ length (H ++ motif) ∷ 0 ∷ 0xf8 ∷ 0x8c ∷ 0x5c ∷ (D (H ++ motif) ++ (0x5d ∷ (P ++ (NAMED ++ (0x5e ∷ Z))))))))

-- two pupils, whose waves are not the same; a space before the first, a line's end between them, a zero byte behind
abbrev pub in_order : List ℕ
in_order = H ++ (0x20 ∷ (pupil PW ++ (0x0d ∷ 0x0a ∷ (pupil (PW ++ PW) ++ (0x00 ∷ [])))))

abbrev pub other_way : List ℕ
other_way = H ++ (0x20 ∷ (pupil (PW ++ PW) ++ (0x0d ∷ 0x0a ∷ (pupil PW ++ (0x00 ∷ [])))))

-- the operators that the job lists
unfoldable pub listed : List Reading.Operator
listed = Running.onto (Verd.outcome_of false Verd.every in_order 16384 65536).state.past []

unfoldable pub nth : ℕ → Reading.Operator
nth k = get_or listed k (record { tag = 0; at = 0; attrs = []; reads = false; length = 0; first = 0; next = 0 })

-- by computing: ten operators to each session, from BeginSession to EndSession
pub tags : ((nth 0).tag ≡ 0x41) × (Ex.no_end (take 8 (drop 1 listed)) ≡ true) × ((nth 9).tag ≡ 0x42) × ((nth 10).tag ≡ 0x41)
    × (Ex.no_end (take 8 (drop 11 listed)) ≡ true) × ((nth 19).tag ≡ 0x42)
unfolding Choice.among Choice.same Iterate.run Iterate.iterate Number.digits Number.number Header.may_stand Header.form_from Header.classed Header.header_of Item.white Item.spaces Item.after Item.width_of Item.kind_of Item.numbers_at Item.elements_at Item.counted_at Item.array_at Item.value_of Item.numbered Item.number_at Item.pair_of Item.pair_at Item.ended_with Item.on_pair Item.scan_item Item.scan_step Item.scan_from Item.scan_at Table.table_one Table.table_two Table.table Table.line_in Table.rule_in Attributes.has Attributes.two_at Attributes.finite Attributes.above Attributes.first_of Attributes.type_taken Attributes.in_range Attributes.attribute_code Attributes.one_by_one Attributes.all_there Attributes.how_many Attributes.choice_code Attributes.form_code Attributes.value_in Attributes.long_in Attributes.bytes_in Data.bits_of Data.row_of Data.pad_of Data.reads_rows Data.block_due Data.point_bytes Data.due_of Data.block_of Data.block_at Order.drawn Order.may_come Order.length_fits Order.rows_fit Reading.with_block Reading.with_data Reading.as_whole Reading.with_attributes Reading.with_line Reading.scanned Reading.operator_at Arm.needs_cursor Arm.needs_space Arm.select_of Arm.effect_of Arm.act_of Arm.done Arm.risen Arm.step Arm.walk Arm.from Motif.held_as Motif.is_held Motif.bytes_held Motif.hatch_of Motif.begun Motif.read_on Motif.picture_after Motif.saved_after Motif.phase_in Motif.context_in Motif.own_by Motif.on_end Motif.on_read Motif.motif_step Motif.judged_inside Motif.motif_from Motif.motif_of Calls.flat Calls.is_one Calls.call_by Calls.call_of Calls.through Calls.unfolded Calls.met_in Calls.met_by Calls.met Session.phase_drawing Session.phase_busy Session.phase_of Session.defined Session.defined_after Session.row_for Session.replaced Session.kept_as Session.session_after Session.place_after Judge.judged_at Judge.met_at Judge.case_of Judge.too_much Judge.no_place Judge.name_missing Judge.calls_itself Judge.too_deep Judge.source_closed Judge.saved_over Judge.cursor_unset Judge.space_wrong Judge.some_missing Judge.pattern_missing Judge.count_over Judge.room_over Judge.early Judge.armed Judge.limits Judge.rules Judge.first_broken Judge.after Judge.end_at Judge.on_refusal Judge.on_case Judge.on_read Judge.context_of Judge.job_step Judge.judged_from Verd.layout Verd.judged_after Verd.entry_of Verd.outcome_at Verd.outcome_of Verd.verdict_of Verd.four Verd.attribute_record Verd.operator_record Verd.attribute_records Verd.records_before Verd.list_of Verd.list_after Verd.zeros Verd.cleared_by Verd.work_after Running.onto Ex.no_end listed nth
tags = (refl, refl, refl, refl, refl, refl)

abbrev pub one : Ex.WholeSession
one = record { begin = nth 0; middle = take 8 (drop 1 listed); end = nth 9; begins = tags.0; goes_on = tags.1; ends = tags.2 }

abbrev pub two : Ex.WholeSession
two = record { begin = nth 10; middle = take 8 (drop 11 listed); end = nth 19; begins = tags.3; goes_on = tags.4; ends = tags.5 }

-- by computing: these are all its operators; the first session stands from byte 17 to 106, the second from 108 to 202; the other job is the one with both exchanged;
-- and both pass, with 38 records and 23 operators performed
computed : Ex.Lists false in_order 16384 65536 ([] ++ (Ex.operators one ++ (Ex.operators two ++ [])))
    × (Ex.starts one ≡ 17)
    × (Ex.stops one ≡ 106)
    × (Ex.starts two ≡ 108)
    × (Ex.stops two ≡ 202)
    × (Ex.exchanged one two in_order ≡ other_way)
    × (Verd.verdict_of false in_order 16384 65536 ≡ record { code = 0; position = 203; inner = Judge.outer; records = 38; performed = 23 })
    × (Verd.verdict_of false other_way 16384 65536 ≡ record { code = 0; position = 203; inner = Judge.outer; records = 38; performed = 23 })
unfolding Choice.among Choice.same Iterate.run Iterate.iterate Number.digits Number.number Header.may_stand Header.form_from Header.classed Header.header_of Item.white Item.spaces Item.after Item.width_of Item.kind_of Item.numbers_at Item.elements_at Item.counted_at Item.array_at Item.value_of Item.numbered Item.number_at Item.pair_of Item.pair_at Item.ended_with Item.on_pair Item.scan_item Item.scan_step Item.scan_from Item.scan_at Table.table_one Table.table_two Table.table Table.line_in Table.rule_in Attributes.has Attributes.two_at Attributes.finite Attributes.above Attributes.first_of Attributes.type_taken Attributes.in_range Attributes.attribute_code Attributes.one_by_one Attributes.all_there Attributes.how_many Attributes.choice_code Attributes.form_code Attributes.value_in Attributes.long_in Attributes.bytes_in Data.bits_of Data.row_of Data.pad_of Data.reads_rows Data.block_due Data.point_bytes Data.due_of Data.block_of Data.block_at Order.drawn Order.may_come Order.length_fits Order.rows_fit Reading.with_block Reading.with_data Reading.as_whole Reading.with_attributes Reading.with_line Reading.scanned Reading.operator_at Arm.needs_cursor Arm.needs_space Arm.select_of Arm.effect_of Arm.act_of Arm.done Arm.risen Arm.step Arm.walk Arm.from Motif.held_as Motif.is_held Motif.bytes_held Motif.hatch_of Motif.begun Motif.read_on Motif.picture_after Motif.saved_after Motif.phase_in Motif.context_in Motif.own_by Motif.on_end Motif.on_read Motif.motif_step Motif.judged_inside Motif.motif_from Motif.motif_of Calls.flat Calls.is_one Calls.call_by Calls.call_of Calls.through Calls.unfolded Calls.met_in Calls.met_by Calls.met Session.phase_drawing Session.phase_busy Session.phase_of Session.defined Session.defined_after Session.row_for Session.replaced Session.kept_as Session.session_after Session.place_after Judge.judged_at Judge.met_at Judge.case_of Judge.too_much Judge.no_place Judge.name_missing Judge.calls_itself Judge.too_deep Judge.source_closed Judge.saved_over Judge.cursor_unset Judge.space_wrong Judge.some_missing Judge.pattern_missing Judge.count_over Judge.room_over Judge.early Judge.armed Judge.limits Judge.rules Judge.first_broken Judge.after Judge.end_at Judge.on_refusal Judge.on_case Judge.on_read Judge.context_of Judge.job_step Judge.judged_from Verd.layout Verd.judged_after Verd.entry_of Verd.outcome_at Verd.outcome_of Verd.verdict_of Verd.four Verd.attribute_record Verd.operator_record Verd.attribute_records Verd.records_before Verd.list_of Verd.list_after Verd.zeros Verd.cleared_by Verd.work_after Running.onto listed nth
computed = (refl, refl, refl, refl, refl, refl, refl, refl)

-- the record of the first pupil's ReadStream, and that of the EndSession: the places are 96 bytes further on, and a 0 for no data stays
pub moved-records : (records_from 9 10 (Verd.list_of false in_order 16384 65536) ≡ 2 ∷ 0x5c ∷ 1 ∷ 0 ∷ (Verd.four 56 ++ (Verd.four 21 ++ Verd.four 59)))
    × (records_from 28 29 (Verd.list_of false other_way 16384 65536) ≡ 2 ∷ 0x5c ∷ 1 ∷ 0 ∷ (Verd.four 152 ++ (Verd.four 21 ++ Verd.four 155)))
    × (records_from 18 19 (Verd.list_of false in_order 16384 65536) ≡ 2 ∷ 0x42 ∷ 0 ∷ 0 ∷ (Verd.four 105 ++ (Verd.four 0 ++ Verd.four 0)))
    × (records_from 37 38 (Verd.list_of false other_way 16384 65536) ≡ 2 ∷ 0x42 ∷ 0 ∷ 0 ∷ (Verd.four 201 ++ (Verd.four 0 ++ Verd.four 0)))
unfolding Choice.among Choice.same Iterate.run Iterate.iterate Number.digits Number.number Header.may_stand Header.form_from Header.classed Header.header_of Item.white Item.spaces Item.after Item.width_of Item.kind_of Item.numbers_at Item.elements_at Item.counted_at Item.array_at Item.value_of Item.numbered Item.number_at Item.pair_of Item.pair_at Item.ended_with Item.on_pair Item.scan_item Item.scan_step Item.scan_from Item.scan_at Table.table_one Table.table_two Table.table Table.line_in Table.rule_in Attributes.has Attributes.two_at Attributes.finite Attributes.above Attributes.first_of Attributes.type_taken Attributes.in_range Attributes.attribute_code Attributes.one_by_one Attributes.all_there Attributes.how_many Attributes.choice_code Attributes.form_code Attributes.value_in Attributes.long_in Attributes.bytes_in Data.bits_of Data.row_of Data.pad_of Data.reads_rows Data.block_due Data.point_bytes Data.due_of Data.block_of Data.block_at Order.drawn Order.may_come Order.length_fits Order.rows_fit Reading.with_block Reading.with_data Reading.as_whole Reading.with_attributes Reading.with_line Reading.scanned Reading.operator_at Arm.needs_cursor Arm.needs_space Arm.select_of Arm.effect_of Arm.act_of Arm.done Arm.risen Arm.step Arm.walk Arm.from Motif.held_as Motif.is_held Motif.bytes_held Motif.hatch_of Motif.begun Motif.read_on Motif.picture_after Motif.saved_after Motif.phase_in Motif.context_in Motif.own_by Motif.on_end Motif.on_read Motif.motif_step Motif.judged_inside Motif.motif_from Motif.motif_of Calls.flat Calls.is_one Calls.call_by Calls.call_of Calls.through Calls.unfolded Calls.met_in Calls.met_by Calls.met Session.phase_drawing Session.phase_busy Session.phase_of Session.defined Session.defined_after Session.row_for Session.replaced Session.kept_as Session.session_after Session.place_after Judge.judged_at Judge.met_at Judge.case_of Judge.too_much Judge.no_place Judge.name_missing Judge.calls_itself Judge.too_deep Judge.source_closed Judge.saved_over Judge.cursor_unset Judge.space_wrong Judge.some_missing Judge.pattern_missing Judge.count_over Judge.room_over Judge.early Judge.armed Judge.limits Judge.rules Judge.first_broken Judge.after Judge.end_at Judge.on_refusal Judge.on_case Judge.on_read Judge.context_of Judge.job_step Judge.judged_from Verd.layout Verd.judged_after Verd.entry_of Verd.outcome_at Verd.outcome_of Verd.verdict_of Verd.four Verd.attribute_record Verd.operator_record Verd.attribute_records Verd.records_before Verd.list_of Verd.list_after Verd.zeros Verd.cleared_by Verd.work_after
moved-records = (refl, refl, refl, refl)

-- what the theorems say of them
pub either_way : Ex.Exchange false in_order 16384 65536 [] one two []
either_way = sessions-exchanged false in_order 16384 65536 [] one two [] computed.0

pub lists_either_way : Ex.ListExchange false in_order 16384 65536 [] one two []
lists_either_way = lists_exchanged false in_order 16384 65536 [] one two [] computed.0
