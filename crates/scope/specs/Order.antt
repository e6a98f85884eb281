-- 01, "Order of operators": which operator may come where. Code 10; and the part of 14 on images and patterns.
-- Assumes nothing.
use Rattle.std.specs.Prelude.{ℕ, ◌+◌, List, [], ◌∷◌, Bool, true, ◌&&◌, ◌||◌, leb, eqb}
use Rattle.scope.specs.Choice.{pick, between, among}
use Rattle.scope.specs.Item.{Attribute}
use Rattle.scope.specs.Attributes.{has, value_in, long_in}
use Rattle.scope.specs.Data.{Image, reads_rows, block_due}
use Rattle.scope.specs.Names.{PopGS, Comment, SetDefaultGS, ExecStream, PushGS, BeginSession, BeginStream, BeginPage, CloseDataSource, OpenDataSource, EndSession, ReadStream, EndStream, EndPage, EndImage, ReadImage, BeginRastPattern, ReadRastPattern, EndRastPattern, StartLine, BlockHeight, BlockByteLength}

-- where an operator stands: between sessions; in a session; after BeginStream; in a page, or in a motif, with so many states saved; after BeginImage; after
-- BeginRastPattern
pub data Phase : Type 0 where
  between_sessions : Phase
  in_session : Phase
  in_stream : Phase
  in_page : ℕ → Phase
  in_motif : ℕ → Phase
  in_image : Image → Phase
  in_pattern : Image → Phase

-- in a page and in a motif: PopGS with something saved; Comment, SetDefaultGS, ExecStream, PushGS, and those of the table from 63 to b0
unfoldable pub drawn : ℕ → ℕ → Bool
drawn saved tag = pick (eqb tag PopGS) (leb 1 saved) (among (Comment ∷ SetDefaultGS ∷ ExecStream ∷ PushGS ∷ []) tag || between 0x63 0xb0 tag)

-- an operator of the table may come, where the data source is open or not
unfoldable pub may_come : Phase → Bool → ℕ → Bool
may_come between_sessions opened tag = eqb tag BeginSession
may_come in_session opened tag =
    among (Comment ∷ BeginStream ∷ BeginPage ∷ []) tag || pick opened (eqb tag CloseDataSource) (eqb tag OpenDataSource || eqb tag EndSession)
may_come in_stream opened tag = eqb tag ReadStream || eqb tag EndStream
may_come (in_page saved) opened tag = pick (eqb tag EndPage) (eqb saved 0) (eqb tag BeginRastPattern || drawn saved tag)
may_come (in_motif saved) opened tag = drawn saved tag
may_come (in_image i) opened tag = pick (eqb tag EndImage) (eqb i.rows i.height) (eqb tag ReadImage)
may_come (in_pattern i) opened tag = pick (eqb tag EndRastPattern) (eqb i.rows i.height) (eqb tag ReadRastPattern)

-- the image of a phase, or the pattern; one without rows where there is none
abbrev pub image_of : Phase → Image
image_of between_sessions = record { width = 0; depth = 0; height = 0; rows = 0 }
image_of in_session = record { width = 0; depth = 0; height = 0; rows = 0 }
image_of in_stream = record { width = 0; depth = 0; height = 0; rows = 0 }
image_of (in_page n) = record { width = 0; depth = 0; height = 0; rows = 0 }
image_of (in_motif n) = record { width = 0; depth = 0; height = 0; rows = 0 }
image_of (in_image i) = i
image_of (in_pattern i) = i

-- BlockByteLength, if it is there, is the length due
unfoldable pub length_fits : Bool → List ℕ → Image → List Attribute → Bool
length_fits high s i l = pick (has BlockByteLength l) (eqb (long_in high s l BlockByteLength) (block_due high s i l)) true

-- each StartLine is the number of rows read so far, rows never exceed SourceHeight, and BlockByteLength is right
unfoldable pub rows_fit : Bool → List ℕ → Image → ℕ → List Attribute → Bool
rows_fit high s i tag l =
    pick (reads_rows tag)
    (eqb (value_in high s l StartLine) i.rows && (leb (i.rows + value_in high s l BlockHeight) i.height && length_fits high s i l))
    true
