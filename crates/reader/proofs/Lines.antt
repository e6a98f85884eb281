-- An operator by its line of the table, step by step.
-- Assumes nothing.
use Prim.Native.Nat.{ℕ, ◌+◌}
use native.Mathlib.Numerals.{add-one}
use mathlib.Core.Path.{◌≡◌, refl}
use mathlib.Core.Bool.{Bool, true, false, not, ◌&&◌}
use mathlib.Core.List.{List, []}
use lib.Dec.{eqb}
use Rattle.scope.specs.Choice.{pick}
use Rattle.scope.specs.Item.{Attribute}
use Rattle.scope.specs.Table.{Row, Line}
use Rattle.scope.specs.Attributes.{Fault, fine, bad, one_by_one, form_code}
use Rattle.scope.specs.Order.{may_come, image_of, rows_fit}
use Rattle.scope.specs.Data.{Found, Due, reads, due_of}
use Rattle.scope.specs.Reading.{Context, Read, with_block, with_data, as_whole, with_attributes, with_line}
use Rattle.rules.proofs.Briefs.{line_known}
use Rattle.rules.specs.Judging.{then_whole, line_fault}
use Rattle.reader.specs.Reads.{line_at, data_at}

module _ (c : Context) (s : List ℕ) (tag at : ℕ) (l : List Attribute) where
  -- a fault is the refusal that it is; without one rows and data follow
  abbrev pub after_line : Fault → Read
  after_line fine = as_whole c s tag at l 0
  after_line (bad code place) = Read.no code place

  -- 13, 14
  whole-after : (code : ℕ) (b : Bool) → eqb code 0 ≡ b → as_whole c s tag at l code ≡ after_line (pick b fine (bad code at))
  unfolding as_whole
  whole-after code true e = rw e
  whole-after code false e = rw e

  -- attribute by attribute, then 13, 14
  found_after : (r : Row) (f : Fault) → with_attributes c s tag at l r f ≡ after_line (then_whole at (form_code l r.rules r.form) f)
  unfolding with_attributes then_whole
  found_after r fine = whole-after (form_code l r.rules r.form) (eqb (form_code l r.rules r.form) 0) refl
  found_after r (bad code place) = refl

  -- 10, then the attributes
  order-after : (r : Row) (f : Fault) (b : Bool)
      → pick b (with_attributes c s tag at l r f) (Read.no 10 at) ≡ after_line (pick b (then_whole at (form_code l r.rules r.form) f) (bad 10 at))
  order-after r f true = found_after r f
  order-after r f false = refl

  -- an operator is read by what is wrong with it before rows and data
  pub line_after : (n : Line) → with_line c s tag at l n ≡ after_line (line_at c s tag at l n)
  unfolding with_line line_at line_fault
  line_after Line.none = refl
  line_after (Line.is r) = order-after r (one_by_one c.set.high s r.rules [] l) (may_come c.phase c.opened tag)

  -- without a fault: 14 for rows, then the data that is due
  pub rows-after : as_whole c s tag at l 0
      ≡ pick (rows_fit c.set.high s (image_of c.phase) tag l) (with_data c s tag at l (due_of c.set.high s (image_of c.phase) tag l)) (Read.no 14 at)
  unfolding as_whole
  rows-after = refl

  -- without data
  pub none_after : with_data c s tag at l Due.none ≡ Read.operator (record { tag = tag; at = at; attrs = l; reads = false; length = 0; first = 0; next = at + 1 })
  unfolding with_data
  none_after = rw add-one

  -- 17, then where the data is
  block-after : (due : ℕ) (f : Found) (b : Bool)
      → pick b (Read.no 17 at) (with_block tag at l due f) ≡ with_block tag at l due (pick b (Found.no 17 at) f)
  unfolding with_block
  block-after due f true = refl
  block-after due f false = refl

  -- an operator that reads data is read by where that is
  pub data_after : (due : ℕ) → with_data c s tag at l (reads due) ≡ with_block tag at l due (data_at c s at due)
  unfolding with_data data_at
  data_after due = block-after due _ (c.asked && not c.opened)

-- rows and data, step by step
pub ruleset whole = (rows-after, none_after, data_after)

-- the table has a line exactly if its form is known
pub ruleset known = line_known
