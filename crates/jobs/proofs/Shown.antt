-- Isolation at work, on the story of the demands: one pupil's session defines the motif "a"; the next pupil's calls a motif "a" of which its own session knows
-- nothing. The second session is judged as if it stood alone: 21 at its call.
-- Assumes nothing.
use Prim.Native.Nat.{ℕ, ◌+◌, ◌<◌}
use mathlib.Core.Path.{◌≡◌, refl}
use mathlib.Core.List.{List, [], ◌++◌}
use mathlib.Core.Bool.{true, false}
use native.Mathlib.Omega.{arith}
use lib.ListN.{length}
use Rattle.scope.specs.Choice
use Rattle.scope.specs.Iterate
use Rattle.scope.specs.Number
use Rattle.scope.specs.Header
use Rattle.scope.specs.Setting.{Setting}
use Rattle.scope.specs.Item
use Rattle.scope.specs.Table
use Rattle.scope.specs.Attributes
use Rattle.scope.specs.Data
use Rattle.scope.specs.Order
use Rattle.scope.specs.Reading
use Rattle.scope.specs.Arm
use Rattle.scope.specs.Motif
use Rattle.scope.specs.Calls
use Rattle.scope.specs.Session
use Rattle.scope.specs.Judge
use Rattle.scope.specs.Names.{CloseDataSource}
use Rattle.scope.specs.Verdict as Verd
use Rattle.scope.specs.Claims.{Between, SameFrom}
use Rattle.scope.proofs.Runs.{steps, steps-reach}
use Rattle.jobs.proofs.Parts.{op, H, S, E, P, O, M, X}
use Rattle.scope.proofs.Sessions.{isolated, alike_same}
use Rattle.scope.proofs.Places.{between_start}

-- the second pupil's session alone, behind the header; and behind a session that defines "a"
abbrev pub alone : List ℕ
alone = H ++ (S ++ (P ++ X 0x61))

abbrev pub behind : List ℕ
behind = H ++ (S ++ (O ++ (M 0x61 [] ++ (op CloseDataSource ++ (E ++ (S ++ (P ++ X 0x61)))))))

abbrev pub low : Setting
low = record { class = Header.one; high = false; gray = false }

-- seven operators of the job: the first session
abbrev pub seven : Iterate.Next Judge.State Judge.Outcome
seven = steps Verd.every low behind 65536 7 (Judge.starting 16)

-- what they have performed
unfoldable pub performed_in : Iterate.Next Judge.State Judge.Outcome → List Reading.Operator
performed_in (Iterate.go st) = st.past
performed_in (Iterate.stop e) = []

-- between the two sessions: at byte 71, with 7 operators performed and 13 records
abbrev pub there : Judge.State
there = record { at = 71; place = Session.outside true; performed = 7; records = 13; past = performed_in seven }

-- by computing: the seven operators come there; both jobs have a header, and both get 21
computed : (seven ≡ Iterate.go there)
    × (Header.header_of behind ≡ Header.Header.is Header.one false 16)
    × (Header.header_of alone ≡ Header.Header.is Header.one false 16)
    × ((Verd.outcome_of false Verd.every behind 16384 65536).code ≡ 21)
    × ((Verd.outcome_of false Verd.every alone 16384 65536).code ≡ 21)
unfolding Choice.among Choice.same Iterate.run Iterate.iterate Number.digits Number.number Header.may_stand Header.form_from Header.classed Header.header_of Item.white Item.spaces Item.after Item.width_of Item.kind_of Item.numbers_at Item.elements_at Item.counted_at Item.array_at Item.value_of Item.numbered Item.number_at Item.pair_of Item.pair_at Item.ended_with Item.on_pair Item.scan_item Item.scan_step Item.scan_from Item.scan_at Table.table_one Table.table_two Table.table Table.line_in Table.rule_in Attributes.has Attributes.two_at Attributes.finite Attributes.above Attributes.first_of Attributes.type_taken Attributes.in_range Attributes.attribute_code Attributes.one_by_one Attributes.all_there Attributes.how_many Attributes.choice_code Attributes.form_code Attributes.value_in Attributes.long_in Attributes.bytes_in Data.bits_of Data.row_of Data.pad_of Data.reads_rows Data.block_due Data.point_bytes Data.due_of Data.block_of Data.block_at Order.drawn Order.may_come Order.length_fits Order.rows_fit Reading.with_block Reading.with_data Reading.as_whole Reading.with_attributes Reading.with_line Reading.scanned Reading.operator_at Arm.needs_cursor Arm.needs_space Arm.select_of Arm.effect_of Arm.act_of Arm.done Arm.risen Arm.step Arm.walk Arm.from Motif.held_as Motif.is_held Motif.bytes_held Motif.hatch_of Motif.begun Motif.read_on Motif.picture_after Motif.saved_after Motif.phase_in Motif.context_in Motif.own_by Motif.on_end Motif.on_read Motif.motif_step Motif.judged_inside Motif.motif_from Motif.motif_of Calls.flat Calls.is_one Calls.call_by Calls.call_of Calls.through Calls.unfolded Calls.met_in Calls.met_by Calls.met Session.phase_drawing Session.phase_busy Session.phase_of Session.defined Session.defined_after Session.row_for Session.replaced Session.kept_as Session.session_after Session.place_after Judge.judged_at Judge.met_at Judge.case_of Judge.too_much Judge.no_place Judge.name_missing Judge.calls_itself Judge.too_deep Judge.source_closed Judge.saved_over Judge.cursor_unset Judge.space_wrong Judge.some_missing Judge.pattern_missing Judge.count_over Judge.room_over Judge.early Judge.armed Judge.limits Judge.rules Judge.first_broken Judge.after Judge.end_at Judge.on_refusal Judge.on_case Judge.on_read Judge.context_of Judge.job_step Judge.judged_from Verd.layout Verd.judged_after Verd.entry_of Verd.outcome_at Verd.outcome_of Verd.verdict_of Verd.four Verd.attribute_record Verd.operator_record Verd.attribute_records Verd.records_before Verd.list_of Verd.list_after Verd.zeros Verd.cleared_by Verd.work_after steps performed_in
computed = (refl, refl, refl, refl, refl)

second-there : Between low behind 65536 there
second-there =
    let r = steps-reach Verd.every low behind 65536 7 (Judge.starting 16) there computed.0 in
    record { there = record { next = 16; header = computed.1; before = r.ops; runs = r.runs }; after_one = true; stands = refl }

first-there : Between low alone 65536 (Judge.starting 16)
first-there = between_start low alone 65536 16 computed.2

something : Item.after behind 71 < length behind
unfolding Item.after Item.spaces Item.white
something = omega arith

-- the second session gets what it gets alone: the code, the inner place, what is performed and listed since, and the position but for the 55 bytes before it
pub own-motifs_only : SameFrom there (Judge.starting 16) (Verd.outcome_of false Verd.every behind 16384 65536) (Verd.outcome_of false Verd.every alone 16384 65536)
own-motifs_only =
    alike_same
    (isolated low behind alone 16384 16384 65536 65536 there (Judge.starting 16) (omega arith) (omega arith) (omega arith) (omega arith) second-there first-there refl something)
    (rw computed.3 refl) (rw computed.4 refl)
