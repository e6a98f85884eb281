-- What a session at rest or in a page is at after an operator, in the code and in the definitions.
-- Assumes nothing.
use Rattle.std.specs.Prelude.{ℕ, ◌≤◌, ◌≡◌, Bool, true, false, List, [], length, eqb}
use Rattle.items.specs.Rows.{rows_of, Sized}
use Rattle.scope.specs.Names.{OpenDataSource, CloseDataSource, BeginPage, EndPage, BeginStream, StreamName}
use Rattle.scope.specs.Choice.{pick}
use Rattle.scope.specs.Item.{Attribute}
use Rattle.scope.specs.Attributes.{bytes_in}
use Rattle.scope.specs.Order.{rows_fit}
use Rattle.scope.specs.Arm as arm
use Rattle.scope.specs.Arm.{blank}
use Rattle.scope.specs.Motif as motif
use Rattle.scope.specs.Session as scope
use Rattle.reader.specs.declared.reading.Operator.{Operator}
use Rattle.page.specs.Holds.{PageHolds}
use Rattle.page.specs.declared.page.Page.{Page}
use Rattle.order.specs.Pictures.{picture_as, picture_for, image_in}
use Rattle.order.specs.declared.picture.Picture.{Picture}
use Rattle.motif.specs.Stored.{full}
use Rattle.motif.specs.declared.kept.Kept.{Kept}
use Rattle.pattern_rows.specs.Numbers.{OfPage, OfSession, numbers_in}
use Rattle.place.specs.Places.{HasPlace, BusyHolds}
use Rattle.place.specs.declared.place.Busy.{Busy}

-- the source after an operator in a session at rest
unfoldable pub opened_after : ℕ → Bool → Bool
opened_after tag opened = pick (eqb tag OpenDataSource) true (pick (eqb tag CloseDataSource) false opened)

-- what a session at rest is at after an operator
unfoldable pub resting_after : Bool → List ℕ → ℕ → List Attribute → scope.Busy
resting_after gray s tag l =
    pick (eqb tag BeginPage) (scope.drawing (blank gray) [] motif.Picture.none)
    (pick (eqb tag BeginStream) (scope.reading (bytes_in s l StreamName) []) scope.resting)

-- r is what a session at rest is at after the operator, with these patterns; a name that it gives is short, and there is a row for it
abbrev pub Begins : (job attrs : List ℕ) (gray : Bool) (o : Operator) (p : List ℕ) → Busy → Type 0
Begins job attrs gray o p r =
    (work : List ℕ) (kept : Kept) (ms : List motif.Motif) → Sized attrs o.count → kept.used ≤ 16384
    → (o.tag ≡ BeginStream → (length (bytes_in job (rows_of attrs o.count) StreamName) ≤ 16)
    × (full ms (bytes_in job (rows_of attrs o.count) StreamName) ≡ false))
    → BusyHolds job work p kept ms r (resting_after gray job o.tag (rows_of attrs o.count))

-- r is what a session in a page, perhaps with an image or a pattern open, is at after the operator, which leaves the page and its patterns so
abbrev pub Draws : (job attrs : List ℕ) (high : Bool) (o : Operator) → Page → Picture → Busy → Type 0
Draws job attrs high o page picture r =
    (work p : List ℕ) (kept : Kept) (ms : List motif.Motif) (q : arm.Page) → Sized attrs o.count → PageHolds page q
    → rows_fit high job (image_in (picture_as picture)) o.tag (rows_of attrs o.count) ≡ true
    → length (numbers_in p OfPage) ≤ 32
    → HasPlace (numbers_in p OfPage) (numbers_in p OfSession) (picture_for high job o.tag (rows_of attrs o.count) (picture_as picture))
    → BusyHolds job work p kept ms r
    (pick (eqb o.tag EndPage) scope.resting
    (scope.drawing q (numbers_in p OfPage) (picture_for high job o.tag (rows_of attrs o.count) (picture_as picture))))
