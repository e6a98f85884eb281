-- What an operator that is no call selects: most select nothing, and a SetBrushSource may come in a page alone, where the numbers of page and session are kept.
-- Assumes nothing.
use Prim.Native.Nat.{ℕ}
use mathlib.Core.Path.{◌≡◌, refl, sym, ap, ◌∙◌}
use mathlib.Core.Bool.{Bool, true, false, not, ◌&&◌, ◌||◌}
use mathlib.Core.List.{List, [], ◌∷◌}
use borrow.Author.Tests.{eqb-true}
use lib.Dec.{eqb}
use Rattle.scope.specs.Choice.{pick, among}
use Rattle.scope.specs.Names.{SetBrushSource, PatternSelectID}
use Rattle.scope.specs.Setting.{Setting}
use Rattle.scope.specs.Item.{Attribute}
use Rattle.scope.specs.Attributes.{has, value_in}
use Rattle.scope.specs.Reading.{Operator}
use Rattle.scope.specs.Order.{between_sessions, in_session, in_stream, may_come}
use Rattle.scope.specs.Arm as arm
use Rattle.scope.specs.Arm.{Select, no_pattern, pattern, wanted, select_of, act_of, step, walk, from}
use Rattle.scope.specs.Motif.{Motif, Picture}
use Rattle.scope.specs.Session as scope
use Rattle.scope.specs.Session.{Session, phase_busy, phase_of, page_patterns, session_of}
use Rattle.scope.specs.Judge.{State, case_of, some_missing, pattern_missing}
use Rattle.motif.specs.declared.kept.Kept.{Kept}
use Rattle.pattern_rows.specs.Numbers.{OfPage, OfSession, numbers_in}
use Rattle.place.specs.Places.{BusyHolds, drawing_holds, PlaceHolds, inside_holds}
use Rattle.place.specs.declared.place.Busy.{Busy}
use Rattle.place.specs.declared.place.Place.{Place}
use Rattle.ruling.proofs.Bytes.{untrue}
use Rattle.ruling.proofs.Ruling.{seen_plain}

-- one number is missing if it is in neither list
pub one-missing : (a b : List ℕ) (n : ℕ) (r : Bool) → r ≡ (among a n || among b n) → not r ≡ some_missing a b (n ∷ [])
unfolding some_missing
one-missing a b n r e = ap not e ∙ last (not (among a n || among b n))
  where
    last : (t : Bool) → t ≡ (t || false)
    last true = refl
    last false = refl

-- the numbers of page and session among which an operator's number is looked for
module _ (set : Setting) (s : List ℕ) (st : State) (x : Session) (o : Operator) (e : eqb o.tag 0x5e ≡ false) where
  missing-is : some_missing (page_patterns x.busy) x.patterns (wanted (act_of set s o).select []) ≡ pattern_missing (case_of set s st x o)
  unfolding pattern_missing case_of walk step from
  missing-is = ap (λ (w : arm.Seen). some_missing (page_patterns x.busy) x.patterns w.wants) (seen_plain set s st x o e)

  -- an operator that selects nothing misses none
  pub selects-none : (act_of set s o).select ≡ no_pattern → false ≡ pattern_missing (case_of set s st x o)
  unfolding some_missing
  selects-none k = sym (ap (λ (z : Select). some_missing (page_patterns x.busy) x.patterns (wanted z [])) k) ∙ missing-is

-- where no SetBrushSource may come, an operator that may selects nothing
away : (high : Bool) (s : List ℕ) (tag : ℕ) (l : List Attribute) (may : ℕ → Bool) → may SetBrushSource ≡ false → may tag ≡ true
    → select_of high s tag l ≡ no_pattern
unfolding select_of
away high s tag l may n y = go (eqb tag SetBrushSource) refl
  where
    go : (b : Bool) → eqb tag SetBrushSource ≡ b → pick (b && has PatternSelectID l) (pattern (value_in high s l PatternSelectID)) no_pattern ≡ no_pattern
    go true e = untrue (sym n ∙ ap may (sym (eqb-true tag SetBrushSource e)) ∙ y)
    go false e = refl

between-away : (opened : Bool) → may_come between_sessions opened SetBrushSource ≡ false
unfolding may_come
between-away opened = refl

session-away : (opened : Bool) → may_come in_session opened SetBrushSource ≡ false
unfolding may_come among
session-away true = refl
session-away false = refl

stream_away : (opened : Bool) → may_come in_stream opened SetBrushSource ≡ false
unfolding may_come
stream_away opened = refl

of-page : {job work p : List ℕ} {kept : Kept} {ms : List Motif} {b : Busy} {q : arm.Page} {ns : List ℕ} {v : Picture}
    → BusyHolds job work p kept ms b (scope.drawing q ns v) → numbers_in p OfPage ≡ ns
of-page (drawing_holds h e n f z) = n

module _ (set : Setting) (s : List ℕ) (o : Operator) (p : List ℕ) where
  abbrev wants : List ℕ
  wants = wanted (act_of set s o).select []

  -- nothing is selected, so nothing is missing
  none : (a b c d : List ℕ) → select_of set.high s o.tag o.attrs ≡ no_pattern → some_missing a b wants ≡ some_missing c d wants
  unfolding some_missing act_of
  none a b c d e = rw e

  busy-bare : {job work : List ℕ} {kept : Kept} {ms : List Motif} {b : Busy} (y : scope.Busy) (opened : Bool) (of_session : List ℕ)
      → numbers_in p OfSession ≡ of_session → BusyHolds job work p kept ms b y → may_come (phase_busy y) opened o.tag ≡ true
      → some_missing (numbers_in p OfPage) (numbers_in p OfSession) wants ≡ some_missing (page_patterns y) of_session wants
  unfolding phase_busy
  busy-bare scope.resting opened ns e h m = none _ _ _ _ (away set.high s o.tag o.attrs (may_come in_session opened) (session-away opened) m)
  busy-bare (scope.reading n j) opened ns e h m = none _ _ _ _ (away set.high s o.tag o.attrs (may_come in_stream opened) (stream_away opened) m)
  busy-bare (scope.drawing q l i) opened ns e h m = λ k. some_missing (of-page h k) (e k) wants

  -- a number that is not defined in the lists that are kept, where an operator may come, is not defined
  place-bare : {job work t : List ℕ} {place : Place} (q : scope.Place) → PlaceHolds set job work t p place q
      → may_come (phase_of q) (session_of q).opened o.tag ≡ true
      → some_missing (numbers_in p OfPage) (numbers_in p OfSession) wants ≡ some_missing (page_patterns (session_of q).busy) (session_of q).patterns wants
  unfolding phase_of
  place-bare (scope.outside b) h m = none _ _ _ _ (away set.high s o.tag o.attrs (may_come between_sessions false) (between-away false) m)
  place-bare (scope.inside x) (inside_holds a l k h b) m = busy-bare x.busy x.opened x.patterns h.session b m

  -- and so of what an operator selects that is no call
  pub bare-is : {job work t : List ℕ} {place : Place} {q : scope.Place} (st : State) (r : Bool) (a : arm.Act) → PlaceHolds set job work t p place q
      → may_come (phase_of q) (session_of q).opened o.tag ≡ true → eqb o.tag 0x5e ≡ false → a ≡ act_of set s o
      → r ≡ some_missing (numbers_in p OfPage) (numbers_in p OfSession) (wanted a.select []) → r ≡ pattern_missing (case_of set s st (session_of q) o)
  bare-is {q = q} st r a h m y k e =
      e ∙ ap (λ (x : arm.Act). some_missing (numbers_in p OfPage) (numbers_in p OfSession) (wanted x.select [])) k ∙ place-bare q h m
      ∙ missing-is set s st (session_of q) o y
