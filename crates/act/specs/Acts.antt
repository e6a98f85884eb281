-- Parts of 01's rules on what an operator needs and does, where the code has a function of its own for them.
-- Assumes nothing.
use Rattle.std.specs.Prelude.{ℕ, Bool, not, List, [], ◌∷◌, eqb}
use Rattle.scope.specs.Choice.{pick, among}
use Rattle.scope.specs.Names.{SetDefaultGS, PopGS, PushGS, SetBrushSource, SetColorSpace, SetCursor, SetPenSource, NewPath, BeginImage, BeginRastPattern}
use Rattle.scope.specs.Header.{one}
use Rattle.scope.specs.Setting.{Setting}
use Rattle.scope.specs.Item.{Attribute}
use Rattle.scope.specs.Attributes.{has, value_in}
use Rattle.scope.specs.Arm.{Act, Space, any, gray, rgb, Effect, put, kept, to, needs_cursor, needs_space, select_of, effect_of}

-- RGBColor needs RGB; GrayLevel needs gray
unfoldable pub brush_space : List Attribute → Space
brush_space l = pick (has 11 l) rgb (pick (has 9 l) gray any)

-- SetColorSpace sets the colour space
unfoldable pub space_effect : Bool → List ℕ → List Attribute → Effect
space_effect high s l = put kept (to (eqb (value_in high s l 3) 1))

-- what an act knows of the setting: the byte order and the start; the class plays no part
abbrev pub read : (high starts-gray : Bool) → Setting
read high starts = record { class = one; high = high; gray = starts }

-- an operator of this tag, which reads data or not, with these attributes
unfoldable pub act_for : (high starts-gray : Bool) → List ℕ → ℕ → Bool → List Attribute → Act
act_for high starts s tag reads l =
    record { source = reads; cursor = needs_cursor tag; space = needs_space tag l; select = select_of high s tag l; effect = effect_of (read high starts) s tag l }

-- these need a colour space, may select a pattern or do something to the page; every other operator needs at most an open source and a set cursor, and leaves the
-- page as it is
unfoldable pub plain : ℕ → Bool
plain tag = not (among (SetDefaultGS ∷ PopGS ∷ PushGS ∷ SetBrushSource ∷ SetColorSpace ∷ SetCursor ∷ SetPenSource ∷ NewPath ∷ BeginImage ∷ BeginRastPattern ∷ []) tag)
