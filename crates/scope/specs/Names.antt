-- 01, "Operators", and requests 6 and 10 of 02: the tags of operators and the numbers of attributes, by their names.
-- Assumes nothing.
use Rattle.std.specs.Prelude.{ℕ}

-- operators
abbrev pub BeginSession : ℕ
BeginSession = 0x41

abbrev pub EndSession : ℕ
EndSession = 0x42

abbrev pub BeginPage : ℕ
BeginPage = 0x43

abbrev pub EndPage : ℕ
EndPage = 0x44

abbrev pub Comment : ℕ
Comment = 0x47

abbrev pub OpenDataSource : ℕ
OpenDataSource = 0x48

abbrev pub CloseDataSource : ℕ
CloseDataSource = 0x49

abbrev pub SetDefaultGS : ℕ
SetDefaultGS = 0x57

abbrev pub BeginStream : ℕ
BeginStream = 0x5b

abbrev pub ReadStream : ℕ
ReadStream = 0x5c

abbrev pub EndStream : ℕ
EndStream = 0x5d

abbrev pub ExecStream : ℕ
ExecStream = 0x5e

abbrev pub PopGS : ℕ
PopGS = 0x60

abbrev pub PushGS : ℕ
PushGS = 0x61

abbrev pub SetBrushSource : ℕ
SetBrushSource = 0x63

abbrev pub SetColorSpace : ℕ
SetColorSpace = 0x6a

abbrev pub SetCursor : ℕ
SetCursor = 0x6b

abbrev pub SetCursorRel : ℕ
SetCursorRel = 0x6c

abbrev pub SetPenSource : ℕ
SetPenSource = 0x79

abbrev pub SetPenWidth : ℕ
SetPenWidth = 0x7a

abbrev pub CloseSubPath : ℕ
CloseSubPath = 0x84

abbrev pub NewPath : ℕ
NewPath = 0x85

abbrev pub PaintPath : ℕ
PaintPath = 0x86

abbrev pub LinePath : ℕ
LinePath = 0x9b

abbrev pub LineRelPath : ℕ
LineRelPath = 0x9d

abbrev pub Rectangle : ℕ
Rectangle = 0xa0

abbrev pub BeginImage : ℕ
BeginImage = 0xb0

abbrev pub ReadImage : ℕ
ReadImage = 0xb1

abbrev pub EndImage : ℕ
EndImage = 0xb2

abbrev pub BeginRastPattern : ℕ
BeginRastPattern = 0xb3

abbrev pub ReadRastPattern : ℕ
ReadRastPattern = 0xb4

abbrev pub EndRastPattern : ℕ
EndRastPattern = 0xb5

-- attributes
abbrev pub ColorSpace : ℕ
ColorSpace = 3

abbrev pub NullBrush : ℕ
NullBrush = 4

abbrev pub NullPen : ℕ
NullPen = 5

abbrev pub PatternSelectID : ℕ
PatternSelectID = 8

abbrev pub GrayLevel : ℕ
GrayLevel = 9

abbrev pub RGBColor : ℕ
RGBColor = 11

abbrev pub MediaSize : ℕ
MediaSize = 37

abbrev pub MediaSource : ℕ
MediaSource = 38

abbrev pub MediaType : ℕ
MediaType = 39

abbrev pub Orientation : ℕ
Orientation = 40

abbrev pub PageCopies : ℕ
PageCopies = 49

abbrev pub BoundingBox : ℕ
BoundingBox = 66

abbrev pub EndPoint : ℕ
EndPoint = 69

abbrev pub PenWidth : ℕ
PenWidth = 75

abbrev pub Point : ℕ
Point = 76

abbrev pub NumberOfPoints : ℕ
NumberOfPoints = 77

abbrev pub PointType : ℕ
PointType = 80

abbrev pub ColorDepth : ℕ
ColorDepth = 98

abbrev pub BlockHeight : ℕ
BlockHeight = 99

abbrev pub ColorMapping : ℕ
ColorMapping = 100

abbrev pub CompressMode : ℕ
CompressMode = 101

abbrev pub DestinationSize : ℕ
DestinationSize = 103

abbrev pub PatternPersistence : ℕ
PatternPersistence = 104

abbrev pub PatternDefineID : ℕ
PatternDefineID = 105

abbrev pub SourceHeight : ℕ
SourceHeight = 107

abbrev pub SourceWidth : ℕ
SourceWidth = 108

abbrev pub StartLine : ℕ
StartLine = 109

abbrev pub PadBytesMultiple : ℕ
PadBytesMultiple = 110

abbrev pub BlockByteLength : ℕ
BlockByteLength = 111

abbrev pub CommentData : ℕ
CommentData = 129

abbrev pub DataOrg : ℕ
DataOrg = 130

abbrev pub Measure : ℕ
Measure = 134

abbrev pub SourceType : ℕ
SourceType = 136

abbrev pub UnitsPerMeasure : ℕ
UnitsPerMeasure = 137

abbrev pub StreamName : ℕ
StreamName = 139

abbrev pub StreamDataLength : ℕ
StreamDataLength = 140

abbrev pub ErrorReport : ℕ
ErrorReport = 143
