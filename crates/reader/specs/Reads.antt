-- What the reader's answers say in 01's words.
-- Assumes nothing.
use Rattle.std.specs.Prelude.{ℕ, suc, ◌+◌, ◌≤◌, ◌<◌, ◌≡◌, not, ◌&&◌, List, Option, Some, None, Result, Ok, Err}
use Rattle.items.specs.Rows.{rows_of}
use Rattle.table.specs.Lines.{is_line}
use Rattle.rules.specs.Judging.{line_fault}
use Rattle.scope.specs.Choice.{pick}
use Rattle.scope.specs.Item.{Attribute, after}
use Rattle.scope.specs.Table.{Line}
use Rattle.scope.specs.Attributes.{Fault, bad}
use Rattle.scope.specs.Order.{may_come}
use Rattle.scope.specs.Data.{Found, no, block_at}
use Rattle.scope.specs.Data as def_data
use Rattle.scope.specs.Reading as Def
use Rattle.reader.specs.declared.reading.Context.{Context}
use Rattle.reader.specs.declared.reading.Operator as code_operator
use Rattle.refusal.specs.Codes.{number_of}
use Rattle.refusal.specs.declared.refusal.Refusal.{Refusal}
use Rattle.items.specs.declared.scan.Tagged.{Tagged}
use Rattle.setting.specs.Views.{setting_as}
use Rattle.order.specs.Views.{phase_as}

-- what reading has to know
abbrev pub context_as : Context → Def.Context
context_as c = record { set = setting_as c.set; phase = phase_as c.phase; opened = c.opened; asked = c.asked }

-- an operator, with its attributes in the lent array
abbrev pub operator_as : code_operator.Operator → List ℕ → Def.Operator
operator_as o attrs =
    record {
      tag = o.tag;
      at = o.at;
      attrs = rows_of attrs o.count;
      reads = o.reads;
      length = o.length;
      first = o.first;
      next = o.next;
    }

-- an operator that was read whole, or a refusal
abbrev pub one_as : Result code_operator.Operator Refusal → List ℕ → Def.Read
one_as (Ok o) attrs = Def.operator (operator_as o attrs)
one_as (Err r) attrs = Def.no (number_of r.code) r.place

-- an operator, the end, or a refusal
abbrev pub read_as : Result (Option code_operator.Operator) Refusal → List ℕ → Def.Read
read_as (Ok (Some o)) attrs = Def.operator (operator_as o attrs)
read_as (Ok None) attrs = Def.ended
read_as (Err r) attrs = Def.no (number_of r.code) r.place

-- what is wrong with an operator before its rows and its data: 9, 10, then its attributes by its line of the table
unfoldable pub line_at : Def.Context → List ℕ → (tag at : ℕ) → List Attribute → Line → Fault
line_at c s tag at l n =
    pick (is_line n) (pick (may_come c.phase c.opened tag) (line_fault c.set.high s at l n) (bad 10 at)) (bad 9 at)

-- the data of the operator at a place, of which so much is due: 17, then the data
unfoldable pub data_at : Def.Context → List ℕ → (at due : ℕ) → Found
data_at c s at due = pick (c.asked && not c.opened) (no 17 at) (block_at c.set.high s at due (after s (suc at)))

-- an operator that was found has its data and its end within the bytes, its end past its tag, and its attributes
abbrev pub OneWithin : (len : ℕ) → Tagged → Result code_operator.Operator Refusal → Type 0
OneWithin len found (Ok o) = (o.at ≡ found.at) × (found.at < o.next) × (o.next ≤ len) × (o.first + o.length ≤ len) × (o.count ≡ found.count)
OneWithin len found (Err r) = Unit {0}

-- an operator has its tag, its data and its end within the bytes, its end past `start`, and at most 16 attributes
abbrev pub Within : (len start : ℕ) → Result (Option code_operator.Operator) Refusal → Type 0
Within len start (Ok (Some o)) =
    (start ≤ o.at) × (o.at < o.next) × (o.next ≤ len) × (o.first + o.length ≤ len) × (o.count ≤ 16)
Within len start (Ok None) = Unit {0}
Within len start (Err r) = Unit {0}

-- where the data is, or a refusal
abbrev pub found_as : Result ℕ Refusal → def_data.Found
found_as (Ok first) = def_data.at first
found_as (Err r) = def_data.no (number_of r.code) r.place

-- data that was found begins past p and ends within the bytes
abbrev pub Placed : (len p due : ℕ) → Result ℕ Refusal → Type 0
Placed len p due (Ok first) = (p < first) × (first + due ≤ len)
Placed len p due (Err r) = Unit {0}
