-- Every code has a number from 1 on, so that none is taken for a pass, and a small one, so that it fits a verdict: case by case.
-- Assumes nothing.
use Rattle.std.proofs.Common.{◌≡◌, ◌<◌, lit<}
use Rattle.refusal.specs.Codes.{number_of}
use Rattle.refusal.specs.declared.code.Code.{Code}
use Rattle.refusal.specs.declared.code.Code.TheVariants as code_is

-- no code is that of a pass
pub no_pass : (c : Code) → number_of c ≡ 0 → ⊥
no_pass code_is.TooLong e = cc
no_pass code_is.Header e = cc
no_pass code_is.Ascii e = cc
no_pass code_is.Class e = cc
no_pass code_is.Cut e = cc
no_pass code_is.NoItem e = cc
no_pass code_is.Seventeenth e = cc
no_pass code_is.LongArray e = cc
no_pass code_is.NoOperator e = cc
no_pass code_is.Order e = cc
no_pass code_is.NoAttribute e = cc
no_pass code_is.Twice e = cc
no_pass code_is.Missing e = cc
no_pass code_is.Clash e = cc
no_pass code_is.Type e = cc
no_pass code_is.Range e = cc
no_pass code_is.Source e = cc
no_pass code_is.Data e = cc
no_pass code_is.NoRoom e = cc
no_pass code_is.NotHeld e = cc
no_pass code_is.Deep e = cc
no_pass code_is.Saved e = cc
no_pass code_is.Cursor e = cc
no_pass code_is.Colour e = cc
no_pass code_is.TooMany e = cc
no_pass code_is.NotEnded e = cc
no_pass code_is.ListFull e = cc
no_pass code_is.WorkShort e = cc
no_pass code_is.Ring e = cc
no_pass code_is.PatternsFull e = cc
no_pass code_is.NoPattern e = cc

-- a code fits a verdict
pub fits : (c : Code) → number_of c < 4_294_967_296
fits code_is.TooLong = lit< tt
fits code_is.Header = lit< tt
fits code_is.Ascii = lit< tt
fits code_is.Class = lit< tt
fits code_is.Cut = lit< tt
fits code_is.NoItem = lit< tt
fits code_is.Seventeenth = lit< tt
fits code_is.LongArray = lit< tt
fits code_is.NoOperator = lit< tt
fits code_is.Order = lit< tt
fits code_is.NoAttribute = lit< tt
fits code_is.Twice = lit< tt
fits code_is.Missing = lit< tt
fits code_is.Clash = lit< tt
fits code_is.Type = lit< tt
fits code_is.Range = lit< tt
fits code_is.Source = lit< tt
fits code_is.Data = lit< tt
fits code_is.NoRoom = lit< tt
fits code_is.NotHeld = lit< tt
fits code_is.Deep = lit< tt
fits code_is.Saved = lit< tt
fits code_is.Cursor = lit< tt
fits code_is.Colour = lit< tt
fits code_is.TooMany = lit< tt
fits code_is.NotEnded = lit< tt
fits code_is.ListFull = lit< tt
fits code_is.WorkShort = lit< tt
fits code_is.Ring = lit< tt
fits code_is.PatternsFull = lit< tt
fits code_is.NoPattern = lit< tt
