-- `has`: a number is among those of a row if it is in a cell of them, from the last one down.
-- Assumes nothing.
use Rattle.std.proofs.Common.{◌≡◌, ◌∙◌, eqb, reverse, sym, rules, tests}
use Rattle.std.proofs.lemmas.Iterator.Adapters.{YieldsList-from_rev_slice}
use Rattle.std.proofs.lemmas.Iterator.Search.{any_from_yields_List}
use Rattle.std.specs.List.{list_any}
use Rattle.pattern_rows.proofs.Cells.{among_any}
use Rattle.pattern_rows.proofs.rows.has.Goals as goal

pub returns : goal.returns
returns c = let n = c.args.n in
    let e : c.any.result ≡ list_any (λ x. eqb x n) (reverse c.numbers.result.now) =
    any_from_yields_List (λ x. eqb x n) _ _ c.any.result c.any.ensures.ran (YieldsList-from_rev_slice c.numbers.result.now cc) (λ x b q k. search (rules, tests)) in
    rw (← c.numbers.ensures) (e ∙ sym (among_any (reverse c.numbers.result.now) n))
