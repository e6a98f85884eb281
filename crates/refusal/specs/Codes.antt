-- The numbers of the codes, as document 01 has them in "Verdicts" and 02 in its items. 0 is a pass, 20 is retired, 30 and 31 are not given.
-- Assumes nothing.
use Rattle.std.specs.Prelude.{ℕ}
use Rattle.refusal.specs.declared.code.Code.{Code}
use Rattle.refusal.specs.declared.code.Code.TheVariants as code_is

-- the number of a code
abbrev pub number_of : Code → ℕ
number_of code_is.TooLong = 1
number_of code_is.Header = 2
number_of code_is.Ascii = 3
number_of code_is.Class = 4
number_of code_is.Cut = 5
number_of code_is.NoItem = 6
number_of code_is.Seventeenth = 7
number_of code_is.LongArray = 8
number_of code_is.NoOperator = 9
number_of code_is.Order = 10
number_of code_is.NoAttribute = 11
number_of code_is.Twice = 12
number_of code_is.Missing = 13
number_of code_is.Clash = 14
number_of code_is.Type = 15
number_of code_is.Range = 16
number_of code_is.Source = 17
number_of code_is.Data = 18
number_of code_is.NoRoom = 19
number_of code_is.NotHeld = 21
number_of code_is.Deep = 22
number_of code_is.Saved = 23
number_of code_is.Cursor = 24
number_of code_is.Colour = 25
number_of code_is.TooMany = 26
number_of code_is.NotEnded = 27
number_of code_is.ListFull = 28
number_of code_is.WorkShort = 29
number_of code_is.Ring = 32
number_of code_is.PatternsFull = 33
number_of code_is.NoPattern = 34
