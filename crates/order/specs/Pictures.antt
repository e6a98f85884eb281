-- Images and patterns as the code keeps them, in 01's words.
-- Assumes nothing.
use Rattle.std.specs.Prelude.{ℕ, ◌%◌, Bool, ◌||◌, List, eqb, leb}
use Rattle.scope.specs.Names.{BeginImage, EndImage, BeginRastPattern, EndRastPattern, BlockHeight}
use Rattle.scope.specs.Choice.{pick}
use Rattle.scope.specs.Item.{Attribute}
use Rattle.scope.specs.Attributes.{value_in}
use Rattle.scope.specs.Data.{Image, reads_rows}
use Rattle.scope.specs.Motif as Def
use Rattle.due.specs.Views.{image_as}
use Rattle.order.specs.declared.picture.Hatch.{Hatch}
use Rattle.order.specs.declared.picture.Picture.{Picture}
use Rattle.order.specs.declared.picture.Picture.TheVariants.{Nothing, Being, Hatching}

-- a pattern that is defined
abbrev pub hatch_as : Hatch → Def.Hatch
hatch_as h = record { session = h.session; number = h.number }

-- the same as one number: from 65,536 on for the session
unfoldable pub hatch_in : ℕ → Def.Hatch
hatch_in c = record { session = leb 65536 c; number = c % 65536 }

-- an image that is open, a pattern that is being defined, or none
abbrev pub picture_as : Picture → Def.Picture
picture_as Nothing = Def.Picture.none
picture_as (Being i) = Def.being (image_as i)
picture_as (Hatching i h) = Def.hatching (hatch_in h) (image_as i)

-- the open image, or the pattern; one without rows where there is none
abbrev pub image_in : Def.Picture → Image
image_in Def.Picture.none = record { width = 0; depth = 0; height = 0; rows = 0 }
image_in (Def.being i) = i
image_in (Def.hatching h i) = i

-- the image or pattern after an operator of this tag with these attributes
unfoldable pub picture_for : Bool → List ℕ → ℕ → List Attribute → Def.Picture → Def.Picture
picture_for high s tag l p =
    pick (eqb tag BeginImage) (Def.being (Def.begun high s l))
    (pick (eqb tag BeginRastPattern) (Def.hatching (Def.hatch_of high s l) (Def.begun high s l))
    (pick (reads_rows tag) (Def.read_on (value_in high s l BlockHeight) p)
    (pick (eqb tag EndImage || eqb tag EndRastPattern) Def.Picture.none p)))
