-- Reading: bytes to operators. One definition for the job and for motifs: the next operator, whole and with its data, or the end, or a refusal.
-- Codes 5 to 18 and 27, in the order of 01, "Order".
-- Assumes nothing.
use Rattle.std.specs.Prelude.{ℕ, suc, ◌+◌, List, [], Bool, true, false, not, ◌&&◌, eqb}
use Rattle.scope.specs.Choice.{pick}
use Rattle.scope.specs.Setting.{Setting}
use Rattle.scope.specs.Item.{Attribute, Scan, after, scan_at}
use Rattle.scope.specs.Table.{Row, Line, table, line_in}
use Rattle.scope.specs.Attributes.{Fault, fine, bad, one_by_one, form_code}
use Rattle.scope.specs.Data.{Due, Found, due_of, block_at}
use Rattle.scope.specs.Order.{Phase, may_come, image_of, rows_fit}

-- what reading has to know: the setting, the phase, whether the source is open, and whether 17 is judged
pub record Context : Type 0 where
  pub set : Setting
  pub phase : Phase
  pub opened : Bool
  pub asked : Bool

-- an operator: its tag and the tag's place, its attributes as given, its data (0 and 0 if it reads none), whether it reads data, the place after it
pub record Operator : Type 0 where
  pub tag : ℕ
  pub at : ℕ
  pub attrs : List Attribute
  pub reads : Bool
  pub length : ℕ
  pub first : ℕ
  pub next : ℕ

pub data Read : Type 0 where
  operator : Operator → Read
  ended : Read
  no : (code : ℕ) → (place : ℕ) → Read

unfoldable pub with_block : ℕ → ℕ → List Attribute → ℕ → Found → Read
with_block tag at l due (Found.at first) =
    operator (record { tag = tag; at = at; attrs = l; reads = true; length = due; first = first; next = first + due })
with_block tag at l due (Found.no code place) = no code place

-- 17, then the data
unfoldable pub with_data : Context → List ℕ → ℕ → ℕ → List Attribute → Due → Read
with_data c s tag at l Due.none =
    operator (record { tag = tag; at = at; attrs = l; reads = false; length = 0; first = 0; next = suc at })
with_data c s tag at l (Due.reads due) =
    pick (c.asked && not c.opened) (no 17 at)
    (with_block tag at l due (block_at c.set.high s at due (after s (suc at))))

-- 13, 14
unfoldable pub as_whole : Context → List ℕ → ℕ → ℕ → List Attribute → ℕ → Read
as_whole c s tag at l code =
    pick (eqb code 0)
    (pick (rows_fit c.set.high s (image_of c.phase) tag l)
    (with_data c s tag at l (due_of c.set.high s (image_of c.phase) tag l)) (no 14 at))
    (no code at)

unfoldable pub with_attributes : Context → List ℕ → ℕ → ℕ → List Attribute → Row → Fault → Read
with_attributes c s tag at l r (bad code place) = no code place
with_attributes c s tag at l r fine = as_whole c s tag at l (form_code l r.rules r.form)

-- 9, 10, then attribute by attribute
unfoldable pub with_line : Context → List ℕ → ℕ → ℕ → List Attribute → Line → Read
with_line c s tag at l Line.none = no 9 at
with_line c s tag at l (Line.is r) =
    pick (may_come c.phase c.opened tag)
    (with_attributes c s tag at l r (one_by_one c.set.high s r.rules [] l))
    (no 10 at)

unfoldable pub scanned : Context → List ℕ → Scan → Read
scanned c s (Scan.tagged tag at l) = with_line c s tag at l (line_in (table c.set.class) tag)
scanned c s Scan.ended = ended
scanned c s (Scan.no code place) = no code place

-- the next operator from a place on
unfoldable pub operator_at : Context → List ℕ → ℕ → Read
operator_at c s at = scanned c s (scan_at c.set.high s at)
