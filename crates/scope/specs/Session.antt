-- 01, "Order of operators" and "Motifs", and 02, items 8 and 10: a job's sessions, what each holds, and where the job stands after an operator. No rule of a job stands
-- here; a motif that ends is kept if `motif_of` finds it valid.
-- Motifs, source and page stand inside a session: between sessions there is no place for one.
-- Assumes nothing.
use Rattle.std.specs.Prelude.{ℕ, suc, ◌+◌, Bool, true, false, not, ◌&&◌, List, [], ◌∷◌, ◌++◌, length, take, drop, eqb}
use Rattle.scope.specs.Choice.{pick, same, among}
use Rattle.scope.specs.Setting.{Setting}
use Rattle.scope.specs.Attributes.{bytes_in}
use Rattle.scope.specs.Order.{Phase, between_sessions, in_session, in_stream, in_page, in_image, in_pattern}
use Rattle.scope.specs.Reading.{Operator}
use Rattle.scope.specs.Arm.{Page, blank, idle, act_of, Stroke}
use Rattle.scope.specs.Motif.{Own, Motif, held_as, is_held, Picture, picture_after, Judged, valid, faulty, motif_of}
use Rattle.scope.specs.Calls.{unfolded}
use Rattle.scope.specs.Names.{ExecStream, StreamName, OpenDataSource, CloseDataSource, BeginPage, BeginStream, ReadStream, EndPage, EndSession, EndRastPattern}

-- in a session: at rest, reading a motif of a name (the bytes joined so far), in a page, for which some patterns are defined, perhaps with an image or a pattern
-- open
pub data Busy : Type 0 where
  resting : Busy
  reading : (name joined : List ℕ) → Busy
  drawing : Page → (patterns : List ℕ) → Picture → Busy

-- a session: the motifs held, the last one first; the data source open or not; the numbers of the patterns defined for it; what it is at
pub record Session : Type 0 where
  pub held : List Motif
  pub opened : Bool
  pub patterns : List ℕ
  pub busy : Busy

-- outside a session, after one or before the first; or inside one
pub data Place : Type 0 where
  outside : (after_one : Bool) → Place
  inside : Session → Place

-- BeginSession: no motif held, the source closed, no pattern defined
abbrev pub opening : Session
opening = record { held = []; opened = false; patterns = []; busy = resting }

abbrev pub session_of : Place → Session
session_of (outside b) = opening
session_of (inside x) = x

unfoldable pub phase_drawing : Page → Picture → Phase
phase_drawing p Picture.none = in_page (length p.saved)
phase_drawing p (Picture.being i) = in_image i
phase_drawing p (Picture.hatching h i) = in_pattern i

unfoldable pub phase_busy : Busy → Phase
phase_busy resting = in_session
phase_busy (reading n j) = in_stream
phase_busy (drawing p ns i) = phase_drawing p i

unfoldable pub phase_of : Place → Phase
phase_of (outside b) = between_sessions
phase_of (inside x) = phase_busy x.busy

-- the page that is being drawn; outside a page one on which nothing was done
abbrev pub page_of : Busy → Page
page_of resting = blank false
page_of (reading n j) = blank false
page_of (drawing p ns i) = p

-- the bytes of the motif that is being read
abbrev pub joined_of : Busy → List ℕ
joined_of resting = []
joined_of (reading n j) = j
joined_of (drawing p ns i) = []

-- the patterns defined for the page; none outside one
abbrev pub page_patterns : Busy → List ℕ
page_patterns resting = []
page_patterns (reading n j) = []
page_patterns (drawing p ns i) = ns

-- a number defined: again, or as one more
unfoldable pub defined : ℕ → List ℕ → List ℕ
defined n ns = pick (among ns n) ns (n ∷ ns)

-- EndRastPattern defines the number of the pattern that is open, for the session or for the page; no other operator defines one
unfoldable pub defined_after : (session : Bool) → (tag : ℕ) → Picture → List ℕ → List ℕ
defined_after session tag Picture.none ns = ns
defined_after session tag (Picture.being i) ns = ns
defined_after session tag (Picture.hatching h i) ns = pick (eqb tag EndRastPattern && pick session h.session (not h.session)) (defined h.number ns) ns

-- the row of operators performed for an operator of the job: itself, and behind a call all that its motif unfolds to
unfoldable pub row_for : Setting → List ℕ → List Motif → Operator → List Stroke
row_for set s held o =
    pick (eqb o.tag ExecStream)
    (record { motif = 0; op = o; act = idle } ∷ unfolded held 32 [] (bytes_in s o.attrs StreamName))
    (record { motif = 0; op = o; act = act_of set s o } ∷ [])

-- the motif of a name replaced in its place: the new one keeps its number
unfoldable pub replaced : (name bytes : List ℕ) → List Own → List Motif → List Motif
replaced n j ops [] = []
replaced n j ops (m ∷ ms) =
    elim (same m.name n) [ true ↦ record { name = n; bytes = j; number = m.number; ops = ops } ∷ ms | false ↦ m ∷ replaced n j ops ms ]

-- EndStream: a motif that is not faulty replaces the one that its name holds, or becomes held as the last one
unfoldable pub kept_as : (name bytes : List ℕ) → Judged → List Motif → List Motif
kept_as n j (valid ops) held =
    pick (is_held (held_as n held)) (replaced n j ops held) (record { name = n; bytes = j; number = suc (length held); ops = ops } ∷ held)
kept_as n j (faulty code inner) held = held

-- the session after an operator, which has left the page so; EndPage drops the page's patterns
unfoldable pub session_after : Setting → List ℕ → Operator → Page → Busy → Session → Session
session_after set s o p resting x =
    record {
      held = x.held;
      opened = pick (eqb o.tag OpenDataSource) true (pick (eqb o.tag CloseDataSource) false x.opened);
      patterns = x.patterns;
      busy = pick (eqb o.tag BeginPage) (drawing (blank set.gray) [] Picture.none)
          (pick (eqb o.tag BeginStream) (reading (bytes_in s o.attrs StreamName) []) resting);
    }
session_after set s o p (reading n j) x =
    pick (eqb o.tag ReadStream)
    (record { held = x.held; opened = x.opened; patterns = x.patterns; busy = reading n (j ++ take o.length (drop o.first s)) })
    (record { held = kept_as n j (motif_of set j) x.held; opened = x.opened; patterns = x.patterns; busy = resting })
session_after set s o p (drawing q ns i) x =
    pick (eqb o.tag EndPage)
    (record { held = x.held; opened = x.opened; patterns = x.patterns; busy = resting })
    (record {
      held = x.held;
      opened = x.opened;
      patterns = defined_after true o.tag i x.patterns;
      busy = drawing p (defined_after false o.tag i ns) (picture_after set.high s o i);
    })

-- BeginSession begins one, EndSession drops all
unfoldable pub place_after : Setting → List ℕ → Operator → Page → Place → Place
place_after set s o p (outside b) = inside opening
place_after set s o p (inside x) = pick (eqb o.tag EndSession) (outside true) (inside (session_after set s o p x.busy x))
