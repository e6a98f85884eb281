-- Operators that are their tag alone: CloseSubPath, NewPath, PaintPath, PushGS and PopGS have neither attributes nor data.
-- Assumes nothing.
use Rattle.std.specs.Prelude.{ℕ, ◌<◌, ◌≤◌, ◌≡◌, false, length, Option, Some, None}
use Rattle.scope.specs.Names.{PopGS, PushGS, CloseSubPath, NewPath, PaintPath}
use Rattle.scope.specs.Arm.{Page, done, push, pop, put, kept, to}
use Rattle.page.specs.Views.{page_as}
use Rattle.page.specs.Holds.{PageHolds}
use Rattle.page.specs.declared.page.Page as Code

-- PushGS hands back the page with one state more, or refuses with 24 saved
abbrev pub Pushed : Code.Page → Option Code.Page → Type 0
Pushed p (Some r) = (p.depth < 24) × (page_as r ≡ done push (page_as p))
Pushed p None = 24 ≤ p.depth

-- PopGS hands back the page with the last state saved, or refuses with nothing saved
abbrev pub Popped : Code.Page → Option Code.Page → Type 0
Popped p (Some r) = (0 < p.depth) × (page_as r ≡ done pop (page_as p))
Popped p None = p.depth ≡ 0

-- one of them, by its tag, may come in a page, breaks no rule of the page there, and leaves the page so
pub data Alone : (tag : ℕ) → (before after : Page) → Type 0 where
  alone_close : {q : Page} → Alone CloseSubPath q (done (put kept kept) q)
  alone_new : {q : Page} → Alone NewPath q (done (put (to false) kept) q)
  alone_paint : {q : Page} → Alone PaintPath q (done (put kept kept) q)
  alone_push : {q : Page} → length q.saved < 24 → Alone PushGS q (done push q)
  alone_pop : {q : Page} → 0 < length q.saved → Alone PopGS q (done pop q)

-- the answer of the code: the page after one of them; or it is none of them that may come and breaks no rule
pub data Leaves (tag : ℕ) (q : Page) : Option Code.Page → Type 0 where
  leaves_to : {p : Code.Page} {q₁ : Page} → Alone tag q q₁ → PageHolds p q₁ → Leaves tag q (Some p)
  leaves_no : ((q₁ : Page) → Alone tag q q₁ → ⊥) → Leaves tag q None
