-- How the code's page, needs and effects are read as the definitions' ones.
-- Assumes nothing.
use Rattle.std.specs.Prelude.{ℕ, zero, suc, ◌/◌, ◌%◌, Bool, true, false, List, [], ◌∷◌, eqb, Option, Some, None}
use Rattle.scope.specs.Arm as scope
use Rattle.page.specs.declared.page.Effect.{Effect}
use Rattle.page.specs.declared.page.Effect.TheVariants.{Push, Pop, Put}
use Rattle.page.specs.declared.page.Space.{Space}
use Rattle.page.specs.declared.page.Space.TheVariants.{Any, Gray, Rgb}
use Rattle.page.specs.declared.page.Act.{Act}
use Rattle.page.specs.declared.page.Page.{Page}

-- a saved state is two bits, the cursor's lowest
abbrev pub bits_of : Bool → Bool → ℕ
bits_of true true = 3
bits_of true false = 1
bits_of false true = 2
bits_of false false = 0

-- n saved states in a number, the last one saved lowest
unfoldable pub stack : ℕ → ℕ → List scope.Saved
stack zero x = []
stack (suc n) x = record { cursor = eqb (x % 2) 1; gray = eqb (x / 2 % 2) 1 } ∷ stack n (x / 4)

-- the state in a page
abbrev pub page_as : Page → scope.Page
page_as p = record { cursor = p.cursor; gray = p.gray; saved = stack p.depth p.saved }

-- what becomes of the cursor, or of the colour space
abbrev pub mark_as : Option Bool → scope.Mark
mark_as None = scope.kept
mark_as (Some b) = scope.to b

-- what an operator does
abbrev pub effect_as : Effect → scope.Effect
effect_as Push = scope.push
effect_as Pop = scope.pop
effect_as (Put c g) = scope.put (mark_as c) (mark_as g)

-- the colour space that an operator needs
abbrev pub space_as : Space → scope.Space
space_as Any = scope.any
space_as Gray = scope.gray
space_as Rgb = scope.rgb

-- the pattern that an operator selects, or none
abbrev pub select_as : Option ℕ → scope.Select
select_as None = scope.no_pattern
select_as (Some n) = scope.pattern n

-- what an operator needs and does
abbrev pub act_as : Act → scope.Act
act_as a = record { source = a.source; cursor = a.cursor; space = space_as a.space; select = select_as a.select; effect = effect_as a.effect }

-- what an operator needs and does that leaves the page as it is, selects no pattern, and needs at most an open source and a set cursor
abbrev pub keeping : (source cursor : Bool) → scope.Act
keeping s c = record { source = s; cursor = c; space = scope.any; select = scope.no_pattern; effect = scope.put scope.kept scope.kept }
