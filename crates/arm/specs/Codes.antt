-- 01, "Verdicts", and 02, item 10: the codes 17, 23 to 25, 34 and 26, in the order in which an operator in a page is judged by them.
-- Assumes nothing.
use Rattle.std.specs.Prelude.{ℕ, Bool, not, ◌&&◌, ltb, Result, Ok, Err}
use Rattle.scope.specs.Choice.{pick}
use Rattle.scope.specs.Arm.{Seen}
use Rattle.refusal.specs.declared.code.Code.{Code}
use Rattle.refusal.specs.Codes.{number_of}

-- 17 source not open, 23 saved states over 24, 24 cursor not set, 25 colour space wrong, 34 a pattern selected that is not defined, 26 performed over 1,000,000;
-- or 0
unfoldable pub code_of : (opened bare : Bool) → Seen → ℕ
code_of opened bare w =
    pick (w.source && not opened) 17
    (pick (ltb 24 w.most) 23 (pick w.lost 24 (pick w.wrong 25 (pick bare 34 (pick (ltb 1_000_000 w.count) 26 0)))))

-- the number of the rule that an answer names, or 0
abbrev pub number_in : {A : Type 0} → Result A Code → ℕ
number_in (Ok x) = 0
number_in (Err k) = number_of k
