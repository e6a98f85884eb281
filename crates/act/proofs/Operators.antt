-- What the code is told of an operator says the same as the operator itself.
-- Assumes nothing.
use Prim.Native.Nat.{ℕ}
use mathlib.Core.Path.{◌≡◌, refl, sym}
use mathlib.Core.Bool.{Bool, true, false, not, true≢false, ◌&&◌, ◌||◌}
use mathlib.Core.List.{List}
use lib.Dec.{eqb}
use Rattle.scope.specs.Choice.{pick, among}
use Rattle.scope.specs.Setting.{Setting}
use Rattle.scope.specs.Attributes.{has}
use Rattle.scope.specs.Reading.{Operator}
use Rattle.scope.specs.Names.{SetDefaultGS, PopGS, PushGS, SetBrushSource, SetColorSpace, SetCursor, SetPenSource, NewPath, BeginImage, BeginRastPattern, PatternSelectID}
use Rattle.scope.specs.Arm.{Act, Space, any, gray, Select, no_pattern, Effect, push, pop, put, kept, to, needs_cursor, needs_space, select_of, effect_of, act_of}
use Rattle.page.specs.Views.{keeping}
use Rattle.act.specs.Acts.{act_for, plain}

pub act-is : (set : Setting) (s : List ℕ) (o : Operator) → act_for set.high set.gray s o.tag o.reads o.attrs ≡ act_of set s o
unfolding act_for act_of effect_of
act-is set s o = refl

-- a plain operator needs at most an open source and a set cursor, selects no pattern, and leaves the page as it is
pub plain-keeps : (set : Setting) (s : List ℕ) (o : Operator) → plain o.tag ≡ true → act_of set s o ≡ keeping o.reads (needs_cursor o.tag)
unfolding act_of needs_space select_of effect_of plain among
plain-keeps set s o =
    go (eqb o.tag SetDefaultGS) (eqb o.tag PopGS) (eqb o.tag PushGS) (eqb o.tag SetBrushSource) (eqb o.tag SetColorSpace) (eqb o.tag SetCursor) (eqb o.tag SetPenSource)
    (eqb o.tag NewPath) (eqb o.tag BeginImage) (eqb o.tag BeginRastPattern) (has PatternSelectID o.attrs) _ _ _ _
  where
    go : (z a b c d e f g h p k : Bool) (brush : Space) (one : Select) (space default : Effect)
        → not (pick z true (pick a true (pick b true (pick c true (pick d true (pick e true (pick f true (pick g true (pick h true (pick p true false)))))))))) ≡ true
        → ◌≡◌ {A = Act} (record {
          source = o.reads;
          cursor = needs_cursor o.tag;
          space = pick (h || p) gray (pick (c || f) brush any);
          select = pick (c && k) one no_pattern;
          effect = pick b push (pick a pop (pick e (put (to true) kept) (pick g (put (to false) kept) (pick d space (pick z default (put kept kept))))));
        })
        (keeping o.reads (needs_cursor o.tag))
    go true a b c d e f g h p k x s y w t = absurd (true≢false (sym t))
    go false true b c d e f g h p k x s y w t = absurd (true≢false (sym t))
    go false false true c d e f g h p k x s y w t = absurd (true≢false (sym t))
    go false false false true d e f g h p k x s y w t = absurd (true≢false (sym t))
    go false false false false true e f g h p k x s y w t = absurd (true≢false (sym t))
    go false false false false false true f g h p k x s y w t = absurd (true≢false (sym t))
    go false false false false false false true g h p k x s y w t = absurd (true≢false (sym t))
    go false false false false false false false true h p k x s y w t = absurd (true≢false (sym t))
    go false false false false false false false false true p k x s y w t = absurd (true≢false (sym t))
    go false false false false false false false false false true k x s y w t = absurd (true≢false (sym t))
    go false false false false false false false false false false k x s y w t = refl
