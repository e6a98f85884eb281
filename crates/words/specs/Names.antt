-- The names that the program says, against the tables.
-- Assumes nothing.
use Rattle.std.specs.Prelude.{ℕ}
use Rattle.scope.specs.Header.{two}
use Rattle.scope.specs.Names as names
use Rattle.scope.specs.Table.{table, Line, line_in, Ruled, rule_in}
use Rattle.table.specs.Lines.{rules_in}
use Rattle.words.specs.declared.called.OperatorName.{OperatorName}
use Rattle.words.specs.declared.called.OperatorName.TheVariants as operator_is
use Rattle.words.specs.declared.called.AttributeName.{AttributeName}
use Rattle.words.specs.declared.called.AttributeName.TheVariants as attribute_is

-- a tag or a number that a table has, or one that it does not have
pub data Known : Type 0 where
  is : ℕ → Known
  none : Known

abbrev line_tag : Line → Known
line_tag (Line.is r) = is r.op
line_tag Line.none = none

abbrev rule_number : Ruled → Known
rule_number (Ruled.is r) = is r.number
rule_number Ruled.none = none

-- the operator of a tag in the table of class 2;1, which has all of 1;1
unfoldable pub operator_in : ℕ → Known
operator_in tag = line_tag (line_in (table two) tag)

-- the attribute of a number in the lines of that table
unfoldable pub attribute_in : ℕ → Known
attribute_in n = rule_number (rule_in (rules_in (table two)) n)

-- the operator of a name
abbrev pub operator_as : OperatorName → Known
operator_as operator_is.BeginSession = is names.BeginSession
operator_as operator_is.EndSession = is names.EndSession
operator_as operator_is.BeginPage = is names.BeginPage
operator_as operator_is.EndPage = is names.EndPage
operator_as operator_is.Comment = is names.Comment
operator_as operator_is.OpenDataSource = is names.OpenDataSource
operator_as operator_is.CloseDataSource = is names.CloseDataSource
operator_as operator_is.SetDefaultGS = is names.SetDefaultGS
operator_as operator_is.BeginStream = is names.BeginStream
operator_as operator_is.ReadStream = is names.ReadStream
operator_as operator_is.EndStream = is names.EndStream
operator_as operator_is.ExecStream = is names.ExecStream
operator_as operator_is.PopGS = is names.PopGS
operator_as operator_is.PushGS = is names.PushGS
operator_as operator_is.SetBrushSource = is names.SetBrushSource
operator_as operator_is.SetColorSpace = is names.SetColorSpace
operator_as operator_is.SetCursor = is names.SetCursor
operator_as operator_is.SetCursorRel = is names.SetCursorRel
operator_as operator_is.SetPenSource = is names.SetPenSource
operator_as operator_is.SetPenWidth = is names.SetPenWidth
operator_as operator_is.CloseSubPath = is names.CloseSubPath
operator_as operator_is.NewPath = is names.NewPath
operator_as operator_is.PaintPath = is names.PaintPath
operator_as operator_is.LinePath = is names.LinePath
operator_as operator_is.LineRelPath = is names.LineRelPath
operator_as operator_is.Rectangle = is names.Rectangle
operator_as operator_is.BeginImage = is names.BeginImage
operator_as operator_is.ReadImage = is names.ReadImage
operator_as operator_is.EndImage = is names.EndImage
operator_as operator_is.BeginRastPattern = is names.BeginRastPattern
operator_as operator_is.ReadRastPattern = is names.ReadRastPattern
operator_as operator_is.EndRastPattern = is names.EndRastPattern
operator_as operator_is.Unknown = none

-- the attribute of a name
abbrev pub attribute_as : AttributeName → Known
attribute_as attribute_is.ColorSpace = is names.ColorSpace
attribute_as attribute_is.NullBrush = is names.NullBrush
attribute_as attribute_is.NullPen = is names.NullPen
attribute_as attribute_is.PatternSelectID = is names.PatternSelectID
attribute_as attribute_is.GrayLevel = is names.GrayLevel
attribute_as attribute_is.RGBColor = is names.RGBColor
attribute_as attribute_is.MediaSize = is names.MediaSize
attribute_as attribute_is.MediaSource = is names.MediaSource
attribute_as attribute_is.MediaType = is names.MediaType
attribute_as attribute_is.Orientation = is names.Orientation
attribute_as attribute_is.PageCopies = is names.PageCopies
attribute_as attribute_is.BoundingBox = is names.BoundingBox
attribute_as attribute_is.EndPoint = is names.EndPoint
attribute_as attribute_is.PenWidth = is names.PenWidth
attribute_as attribute_is.Point = is names.Point
attribute_as attribute_is.NumberOfPoints = is names.NumberOfPoints
attribute_as attribute_is.PointType = is names.PointType
attribute_as attribute_is.ColorDepth = is names.ColorDepth
attribute_as attribute_is.BlockHeight = is names.BlockHeight
attribute_as attribute_is.ColorMapping = is names.ColorMapping
attribute_as attribute_is.CompressMode = is names.CompressMode
attribute_as attribute_is.DestinationSize = is names.DestinationSize
attribute_as attribute_is.PatternPersistence = is names.PatternPersistence
attribute_as attribute_is.PatternDefineID = is names.PatternDefineID
attribute_as attribute_is.SourceHeight = is names.SourceHeight
attribute_as attribute_is.SourceWidth = is names.SourceWidth
attribute_as attribute_is.StartLine = is names.StartLine
attribute_as attribute_is.PadBytesMultiple = is names.PadBytesMultiple
attribute_as attribute_is.BlockByteLength = is names.BlockByteLength
attribute_as attribute_is.CommentData = is names.CommentData
attribute_as attribute_is.DataOrg = is names.DataOrg
attribute_as attribute_is.Measure = is names.Measure
attribute_as attribute_is.SourceType = is names.SourceType
attribute_as attribute_is.UnitsPerMeasure = is names.UnitsPerMeasure
attribute_as attribute_is.StreamName = is names.StreamName
attribute_as attribute_is.StreamDataLength = is names.StreamDataLength
attribute_as attribute_is.ErrorReport = is names.ErrorReport
attribute_as attribute_is.Unknown = none
