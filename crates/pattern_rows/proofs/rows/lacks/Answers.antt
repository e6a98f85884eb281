-- `lacks`: a number of a row is missing if one in a cell of them is, from the last one down.
-- Assumes nothing.
use Rattle.std.proofs.Common.{◌≡◌, not, ◌||◌, ◌∙◌, reverse, sym, rules, tests}
use Rattle.std.proofs.lemmas.Iterator.Adapters.{YieldsList-from_rev_slice}
use Rattle.std.proofs.lemmas.Iterator.Search.{any_from_yields_List}
use Rattle.std.specs.List.{list_any}
use Rattle.scope.specs.Choice.{among}
use Rattle.pattern_rows.specs.Numbers.{OfPage, OfSession, numbers_in}
use Rattle.pattern_rows.proofs.Cells.{missing_any}
use Rattle.pattern_rows.proofs.rows.lacks.Goals as goal

pub returns : goal.returns
returns c = let t = c.args.patterns.now in
    let e : c.any.result ≡ list_any (λ n. not (among (numbers_in t OfPage) n || among (numbers_in t OfSession) n)) (reverse c.numbers.result.now) =
    any_from_yields_List (λ n. not (among (numbers_in t OfPage) n || among (numbers_in t OfSession) n)) _ _ c.any.result c.any.ensures.ran (YieldsList-from_rev_slice c.numbers.result.now cc) (λ x b q k. search (rules, tests)) in
    rw (← c.numbers.ensures) (e ∙ sym (missing_any (numbers_in t OfPage) (numbers_in t OfSession) (reverse c.numbers.result.now)))
