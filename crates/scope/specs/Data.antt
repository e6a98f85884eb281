-- 01, "Data lengths", and of "Order" the part on data: how much data an operator reads, and the embedded data that follows it. Codes 27, 18, 5.
-- Assumes nothing.
use Rattle.std.specs.Prelude.{ℕ, ◌+◌, ◌-◌, ◌*◌, ◌/◌, List, Bool, ◌||◌, length, get_or, leb, eqb}
use Rattle.scope.specs.Choice.{pick}
use Rattle.scope.specs.Number.{number}
use Rattle.scope.specs.Item.{Attribute}
use Rattle.scope.specs.Attributes.{has, value_in}
use Rattle.scope.specs.Names.{ReadStream, StreamDataLength, ReadImage, ReadRastPattern, BlockHeight, PadBytesMultiple, LinePath, LineRelPath, NumberOfPoints, PointType}

-- an image that is being read, or a pattern: SourceWidth, ColorDepth, SourceHeight, and the rows read so far
pub record Image : Type 0 where
  pub width : ℕ
  pub depth : ℕ
  pub height : ℕ
  pub rows : ℕ

-- depth 0, 1, 2: 1, 4 or 8 bits
unfoldable pub bits_of : ℕ → ℕ
bits_of d = pick (eqb d 0) 1 (pick (eqb d 1) 4 8)

-- the bytes of a row: width times so many bits, rounded up to bytes, then up to a multiple of so many bytes
unfoldable pub row_of : (width depth pad : ℕ) → ℕ
row_of width depth pad = ((width * bits_of depth + 7) / 8 + (pad - 1)) / pad * pad

-- so many: PadBytesMultiple, or 4 where it is missing (a 0 is never taken)
unfoldable pub pad_of : Bool → List ℕ → List Attribute → ℕ
pad_of high s l = pick (eqb (value_in high s l PadBytesMultiple) 0) 4 (value_in high s l PadBytesMultiple)

-- ReadImage and ReadRastPattern read rows
unfoldable pub reads_rows : ℕ → Bool
reads_rows tag = eqb tag ReadImage || eqb tag ReadRastPattern

-- their data: BlockHeight rows
unfoldable pub block_due : Bool → List ℕ → Image → List Attribute → ℕ
block_due high s i l = value_in high s l BlockHeight * row_of i.width i.depth (pad_of high s l)

-- how much data an operator reads; none if it reads none
pub data Due : Type 0 where
  reads : ℕ → Due
  none : Due

-- 2n bytes for PointType 0 or 1, 4n for 2 or 3
unfoldable pub point_bytes : ℕ → ℕ → ℕ
point_bytes type n = pick (leb type 1) (2 * n) (4 * n)

unfoldable pub due_of : Bool → List ℕ → Image → ℕ → List Attribute → Due
due_of high s i tag l =
    pick (eqb tag ReadStream) (reads (value_in high s l StreamDataLength))
    (pick (reads_rows tag) (reads (block_due high s i l))
    (pick (eqb tag LinePath || eqb tag LineRelPath) (pick (has NumberOfPoints l) (reads (point_bytes (value_in high s l PointType) (value_in high s l NumberOfPoints))) none) none))

-- where the data is; or a refusal
pub data Found : Type 0 where
  at : ℕ → Found
  no : (code : ℕ) → (place : ℕ) → Found

-- a data item whose tag stands at p and whose length has w bytes, of the operator at `op`
unfoldable pub block_of : Bool → List ℕ → ℕ → ℕ → ℕ → ℕ → Found
block_of high s op due p w =
    pick (leb (p + 1 + w) (length s))
    (pick (eqb (number high w s (p + 1)) due) (pick (leb (p + 1 + w + due) (length s)) (at (p + 1 + w)) (no 5 p)) (no 18 op))
    (no 5 p)

unfoldable pub block_at : Bool → List ℕ → ℕ → ℕ → ℕ → Found
block_at high s op due p =
    pick (leb (length s) p) (no 27 (length s))
    (pick (eqb (get_or s p 0) 0xfa) (block_of high s op due p 4)
    (pick (eqb (get_or s p 0) 0xfb) (block_of high s op due p 1) (no 18 op)))
