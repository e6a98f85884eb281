-- 01, "the arm's state": the page, what an operator needs and does, and the plain arm, which performs a row of operators to its end, notes what it sees,
-- and lets an operator that breaks a rule have its usual effect.
-- Assumes nothing.
use Rattle.std.specs.Prelude.{ℕ, suc, max, Bool, true, false, not, ◌&&◌, ◌||◌, List, [], ◌∷◌, length, eqb}
use Rattle.scope.specs.Choice.{pick, among}
use Rattle.scope.specs.Item.{Attribute}
use Rattle.scope.specs.Attributes.{has, value_in}
use Rattle.scope.specs.Setting.{Setting}
use Rattle.scope.specs.Reading.{Operator}
use Rattle.scope.specs.Names.{SetCursorRel, LinePath, LineRelPath, BeginImage, SetBrushSource, SetPenSource, RGBColor, GrayLevel, PushGS, PopGS, SetCursor, NewPath, SetColorSpace, ColorSpace, SetDefaultGS, BeginRastPattern, PatternSelectID}

pub record Saved : Type 0 where
  pub cursor : Bool
  pub gray : Bool

-- the state in a page: cursor set or not, colour space gray or RGB, saved states, the last one first
pub record Page : Type 0 where
  pub cursor : Bool
  pub gray : Bool
  pub saved : List Saved

-- BeginPage starts with cursor not set, the colour space that a page starts in (gray or RGB), nothing saved
abbrev pub blank : (gray : Bool) → Page
blank g = record { cursor = false; gray = g; saved = [] }

pub data Space : Type 0 where
  any : Space
  gray : Space
  rgb : Space

-- what becomes of the cursor, or of the colour space
pub data Mark : Type 0 where
  kept : Mark
  to : Bool → Mark

pub data Effect : Type 0 where
  push : Effect
  pop : Effect
  put : (cursor gray : Mark) → Effect

-- a pattern that is selected, by its number; or none
pub data Select : Type 0 where
  no_pattern : Select
  pattern : ℕ → Select

-- what an operator needs (an open source, a set cursor, a colour space, a pattern) and does
pub record Act : Type 0 where
  pub source : Bool
  pub cursor : Bool
  pub space : Space
  pub select : Select
  pub effect : Effect

-- a call itself, and every operator outside a page
abbrev pub idle : Act
idle = record { source = false; cursor = false; space = any; select = no_pattern; effect = put kept kept }

-- SetCursorRel, LinePath, LineRelPath and BeginImage need the cursor set
unfoldable pub needs_cursor : ℕ → Bool
needs_cursor tag = among (SetCursorRel ∷ LinePath ∷ LineRelPath ∷ BeginImage ∷ []) tag

-- RGBColor needs RGB; GrayLevel, BeginImage and BeginRastPattern need gray
unfoldable pub needs_space : ℕ → List Attribute → Space
needs_space tag l =
    pick (eqb tag BeginImage || eqb tag BeginRastPattern) gray
    (pick (eqb tag SetBrushSource || eqb tag SetPenSource) (pick (has RGBColor l) rgb (pick (has GrayLevel l) gray any)) any)

-- SetBrushSource selects a pattern by PatternSelectID
unfoldable pub select_of : Bool → List ℕ → ℕ → List Attribute → Select
select_of high s tag l = pick (eqb tag SetBrushSource && has PatternSelectID l) (pattern (value_in high s l PatternSelectID)) no_pattern

-- PushGS, PopGS; SetCursor sets the cursor, NewPath unsets it; SetColorSpace sets the colour space; SetDefaultGS unsets the cursor and restores the colour space
-- that pages start in
unfoldable pub effect_of : Setting → List ℕ → ℕ → List Attribute → Effect
effect_of set s tag l =
    pick (eqb tag PushGS) push
    (pick (eqb tag PopGS) pop
    (pick (eqb tag SetCursor) (put (to true) kept)
    (pick (eqb tag NewPath) (put (to false) kept)
    (pick (eqb tag SetColorSpace) (put kept (to (eqb (value_in set.high s l ColorSpace) 1)))
    (pick (eqb tag SetDefaultGS) (put (to false) (to set.gray)) (put kept kept))))))

unfoldable pub act_of : Setting → List ℕ → Operator → Act
act_of set s o =
    record {
      source = o.reads;
      cursor = needs_cursor o.tag;
      space = needs_space o.tag o.attrs;
      select = select_of set.high s o.tag o.attrs;
      effect = effect_of set s o.tag o.attrs;
    }

-- the arm on its way: the page; how many operators it has performed; the most states that were saved right after a PushGS;
-- an open source was needed; a cursor was needed and not set; a colour space was needed and another was set; the numbers of the patterns selected, the last one first
pub record Seen : Type 0 where
  pub page : Page
  pub count : ℕ
  pub most : ℕ
  pub source : Bool
  pub lost : Bool
  pub wrong : Bool
  pub wants : List ℕ

abbrev pub marked : Mark → Bool → Bool
marked kept b = b
marked (to c) b = c

abbrev pub restored : List Saved → Page → Page
restored [] p = p
restored (x ∷ xs) p = record { cursor = x.cursor; gray = x.gray; saved = xs }

-- the page after an effect
unfoldable pub done : Effect → Page → Page
done push p = record { cursor = p.cursor; gray = p.gray; saved = record { cursor = p.cursor; gray = p.gray } ∷ p.saved }
done pop p = restored p.saved p
done (put c g) p = record { cursor = marked c p.cursor; gray = marked g p.gray; saved = p.saved }

abbrev pub clash : Space → Bool → Bool
clash any g = false
clash gray g = not g
clash rgb g = g

-- the most states saved, after an effect on a page
unfoldable pub risen : Effect → Page → ℕ → ℕ
risen push p m = max m (suc (length p.saved))
risen pop p m = m
risen (put c g) p m = m

-- the numbers selected, with one more
abbrev pub wanted : Select → List ℕ → List ℕ
wanted no_pattern ns = ns
wanted (pattern n) ns = n ∷ ns

-- one operator performed
unfoldable pub step : Act → Seen → Seen
step a w =
    record {
      page = done a.effect w.page;
      count = suc w.count;
      most = risen a.effect w.page w.most;
      source = w.source || a.source;
      lost = w.lost || (a.cursor && not w.page.cursor);
      wrong = w.wrong || clash a.space w.page.gray;
      wants = wanted a.select w.wants;
    }

-- an operator as it is performed: the motif in which it stands (0 is the job, 1 the first motif of the session, and so on), the operator as it is read there, and
-- what it needs and does
pub record Stroke : Type 0 where
  pub motif : ℕ
  pub op : Operator
  pub act : Act

-- a row of operators performed to its end
unfoldable pub walk : List Stroke → Seen → Seen
walk [] w = w
walk (x ∷ l) w = walk l (step x.act w)

-- the arm before an operator of the job: nothing seen yet
unfoldable pub from : Page → ℕ → Seen
from p n = record { page = p; count = n; most = 0; source = false; lost = false; wrong = false; wants = [] }
