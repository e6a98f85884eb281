-- Operators of a motif that leave the page as it is, with no image open, one after the other with nothing between them, and where they lead to.
-- Assumes nothing.
use Rattle.std.specs.Prelude.{ℕ, ◌+◌, ◌≤◌, ◌<◌, ◌≡◌, Bool, true, false, List, length, get_or, Option, IfSome}
use Rattle.scope.specs.Names.{CloseSubPath, PaintPath}
use Rattle.end_point.specs.EndPoint.{Line}
use Rattle.scope.specs.Setting.{Setting}
use Rattle.scope.specs.Motif as scope
use Rattle.patterns.specs.Selects.{selects_in}
use Rattle.within.specs.Judging.{Follows}
use Rattle.within.specs.declared.inside.Inside.{Inside}
use Rattle.stream.specs.declared.lines.Run.{Run}

-- CloseSubPath or PaintPath
pub data Quiet : ℕ → Type 0 where
  quiet_close : Quiet CloseSubPath
  quiet_paint : Quiet PaintPath

-- a run of lines by their end point, CloseSubPath and PaintPath that starts at a place
pub data Strip (high : Bool) (s : List ℕ) (start : ℕ) : Run → Type 0 where
  strip_none : Strip high s start (record { at = start; count = 0; drawn = false })
  strip_line : {run : Run} {op : ℕ} → Strip high s start run → Line high s run.at op → Strip high s start (record { at = op + 1; count = run.count + 1; drawn = true })
  strip_quiet : {run : Run} → Strip high s start run → run.at < length s → Quiet (get_or s run.at 0)
      → Strip high s start (record { at = run.at + 1; count = run.count + 1; drawn = run.drawn })

-- one operator more of such a run
abbrev pub Stripped : (high : Bool) (s : List ℕ) (start : ℕ) → Option Run → Type 0
Stripped high s start more = IfSome more (λ run. Strip high s start run)

-- a run goes on further on and within the bytes, by one operator
abbrev pub Beyond : (len : ℕ) → Run → Option Run → Type 0
Beyond len run more = IfSome more (λ on. (run.at < on.at) × (on.at ≤ len) × (on.count ≡ run.count + 1))

-- the code stands where the definition comes to from w on
pub record Comes (t : List ℕ) (ms : List scope.Motif) (set : Setting) (s : List ℕ) (w : scope.Inside) (i : Inside) : Type 0 where
  pub stands : scope.Inside
  pub follows : Follows t ms i stands
  pub judged : scope.judged_inside set s stands ≡ scope.judged_inside set s w
  pub selects : selects_in stands.ops ≡ selects_in w.ops
