-- What the code's images and lengths of data say in 01's words.
-- Assumes nothing.
use Rattle.std.specs.Prelude.{ℕ, Bool, List, Option, Some, None}
use Rattle.scope.specs.Choice.{pick}
use Rattle.scope.specs.Item.{Attribute}
use Rattle.scope.specs.Attributes.{has, value_in}
use Rattle.scope.specs.Data as Def
use Rattle.due.specs.declared.due.Image.{Image}

-- an image that is being read, or a pattern
abbrev pub image_as : Image → Def.Image
image_as i = record { width = i.width; depth = i.depth; height = i.height; rows = i.rows }

-- how much data an operator reads
abbrev pub due_as : Option ℕ → Def.Due
due_as (Some n) = Def.reads n
due_as None = Def.none

-- a line reads its points, if it has NumberOfPoints
unfoldable pub points_due : Bool → List ℕ → List Attribute → Def.Due
points_due high s l = pick (has 77 l) (Def.reads (Def.point_bytes (value_in high s l 80) (value_in high s l 77))) Def.none
