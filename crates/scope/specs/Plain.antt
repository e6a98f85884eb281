-- Demand 3: the plain arm over a whole job. It performs each call and then the motif's own operators, and the calls in those likewise. It shares with the judge
-- how operators are read and what an operator needs and does, and nothing else: it knows motifs by name and bytes, and reads the bytes of a motif, operator by
-- operator, whenever that motif is called. A call means the motif that its name holds then: `known_as` and `known_after` alone say which.
-- Assumes nothing.
use Rattle.std.specs.Prelude.{ℕ, zero, suc, ◌+◌, ◌-◌, Bool, true, false, not, ◌&&◌, ◌||◌, List, [], ◌∷◌, ◌++◌, length, take, drop, leb, eqb}
use Rattle.scope.specs.Choice.{pick, same, among}
use Rattle.scope.specs.Iterate.{Next, go, stop, iterate}
use Rattle.scope.specs.Header.{Header, header_of}
use Rattle.scope.specs.Attributes.{bytes_in}
use Rattle.scope.specs.Order.{Phase, between_sessions, in_session, in_stream, in_page, in_image, in_pattern}
use Rattle.scope.specs.Reading.{Context, Operator, Read, operator_at}
use Rattle.scope.specs.Arm.{Effect, push, pop, put, Select, no_pattern, pattern, Page, blank, done, clash, idle, act_of, Stroke}
use Rattle.scope.specs.Motif.{Hatch, Picture, picture_after, saved_after, phase_in}
use Rattle.scope.specs.Setting.{Setting, of_motif}
use Rattle.scope.specs.Names.{OpenDataSource, CloseDataSource, BeginPage, EndPage, EndSession, BeginStream, ReadStream, ExecStream, StreamName, EndRastPattern}

-- what an operator performed does besides: it opens or closes the source, begins or ends a page, ends a session, defines a pattern
pub data Turn : Type 0 where
  stays : Turn
  opens : Turn
  closes : Turn
  begins : (gray : Bool) → Turn
  ends : Turn
  leaves : Turn
  defines : Hatch → Turn

-- an operator as the plain arm performs it
pub record Deed : Type 0 where
  pub turn : Turn
  pub stroke : Stroke

-- the plain arm: source open or not, page, the patterns of the session and of the page, operators performed
pub record PlainArm : Type 0 where
  pub opened : Bool
  pub page : Page
  pub of_session : List ℕ
  pub of_page : List ℕ
  pub count : ℕ

-- before the job: the source is closed, and there is no page and no pattern
abbrev pub at_start : PlainArm
at_start = record { opened = false; page = blank false; of_session = []; of_page = []; count = 0 }

-- one more state would be saved than 24
abbrev pub over_saved : Effect → Page → Bool
over_saved push p = leb 24 (length p.saved)
over_saved pop p = false
over_saved (put c g) p = false

-- a pattern is selected that is defined neither for the page nor for the session
abbrev pub selects_none : Select → PlainArm → Bool
selects_none no_pattern w = false
selects_none (pattern n) w = not (among w.of_page n || among w.of_session n)

-- the operator breaks a rule where it is performed: a closed data source, a 25th saved state, an unset cursor, a wrong colour space, a pattern not defined, a
-- 1,000,001st operator
unfoldable pub breaks : Deed → PlainArm → Bool
breaks d w =
    (d.stroke.act.source && not w.opened)
    || (over_saved d.stroke.act.effect w.page
    || ((d.stroke.act.cursor && not w.page.cursor) || (clash d.stroke.act.space w.page.gray || (selects_none d.stroke.act.select w || leb 1_000_000 w.count))))

-- the source after a turn
abbrev pub opened_by : Turn → Bool → Bool
opened_by stays b = b
opened_by opens b = true
opened_by closes b = false
opened_by (begins gray) b = b
opened_by ends b = b
opened_by leaves b = b
opened_by (defines h) b = b

-- the page after a turn: BeginPage begins a blank one
abbrev pub page_by : Turn → Page → Page
page_by stays p = p
page_by opens p = p
page_by closes p = p
page_by (begins gray) p = blank gray
page_by ends p = blank false
page_by leaves p = p
page_by (defines h) p = p

-- the patterns after a turn: those of a page go at its end, those of a session at its end; a number is defined again, or as one more
abbrev pub of_session_by : Turn → List ℕ → List ℕ
of_session_by stays ns = ns
of_session_by opens ns = ns
of_session_by closes ns = ns
of_session_by (begins gray) ns = ns
of_session_by ends ns = ns
of_session_by leaves ns = []
of_session_by (defines h) ns = pick h.session (pick (among ns h.number) ns (h.number ∷ ns)) ns

abbrev pub of_page_by : Turn → List ℕ → List ℕ
of_page_by stays ns = ns
of_page_by opens ns = ns
of_page_by closes ns = ns
of_page_by (begins gray) ns = []
of_page_by ends ns = []
of_page_by leaves ns = ns
of_page_by (defines h) ns = pick h.session ns (pick (among ns h.number) ns (h.number ∷ ns))

-- the arm after one operator
unfoldable pub performs : Deed → PlainArm → PlainArm
performs d w =
    record {
      opened = opened_by d.turn w.opened;
      page = page_by d.turn (done d.stroke.act.effect w.page);
      of_session = of_session_by d.turn w.of_session;
      of_page = of_page_by d.turn w.of_page;
      count = suc w.count;
    }

-- the arm comes to the end of the row, and no operator breaks a rule
unfoldable pub comes : List Deed → PlainArm → Bool
comes [] w = true
comes (d ∷ ds) w = pick (breaks d w) false (comes ds (performs d w))

-- where it stands after a row
unfoldable pub performed : List Deed → PlainArm → PlainArm
performed [] w = w
performed (d ∷ ds) w = performed ds (performs d w)

-- the operators of a row, the first of which turns something
unfoldable pub deeds : Turn → List Stroke → List Deed
deeds t [] = []
deeds t (x ∷ l) = record { turn = t; stroke = x } ∷ deeds stays l

-- a motif that the arm knows: its name and its bytes
pub record Known : Type 0 where
  pub name : List ℕ
  pub bytes : List ℕ

-- the motif of a name: its number (1 for the first of the session) and its bytes; or none
pub data Found : Type 0 where
  is : (number : ℕ) → (bytes : List ℕ) → Found
  none : Found

-- known motifs stand last one first
unfoldable pub known_as : List ℕ → List Known → Found
known_as n [] = none
known_as n (m ∷ ms) = elim (same m.name n) [ true ↦ is (suc (length ms)) m.bytes | false ↦ known_as n ms ]

-- what is performed for one operator of motif k (0 is the job): a call and then what its name has performed, or the operator alone
unfoldable pub strokes_of : (List ℕ → List Stroke) → (k : ℕ) → Setting → List ℕ → Operator → List Stroke
strokes_of call k set s o =
    pick (eqb o.tag ExecStream)
    (record { motif = k; op = o; act = idle } ∷ call (bytes_in s o.attrs StreamName))
    (record { motif = k; op = o; act = act_of set s o } ∷ [])

-- where the arm stands in a motif: the place of the next item, the states that the motif has saved, its open image, the operators so far
pub record Going : Type 0 where
  pub at : ℕ
  pub saved : ℕ
  pub picture : Picture
  pub row : List Stroke

-- an operator of a motif that was read is performed; where reading ends, the motif's operators end
unfoldable pub on_own : (List ℕ → List Stroke) → ℕ → Setting → List ℕ → Going → Read → Next Going (List Stroke)
on_own call k set s g (Read.operator o) =
    go
    (record { at = o.next; saved = saved_after o.tag g.saved; picture = picture_after set.high s o g.picture; row = g.row ++ strokes_of call k set s o })
on_own call k set s g Read.ended = stop g.row
on_own call k set s g (Read.no code place) = stop g.row

-- the next operator of a motif is read as inside a motif: no operator asks for an open source
unfoldable pub own_step : (List ℕ → List Stroke) → ℕ → Setting → List ℕ → Going → Next Going (List Stroke)
own_step call k set s g =
    on_own call k set s g
    (operator_at (record { set = set; phase = phase_in g.saved g.picture; opened = true; asked = false }) s g.at)

-- from where the arm stands in a motif to the motif's end
unfoldable pub own_from : (List ℕ → List Stroke) → ℕ → Setting → List ℕ → Going → List Stroke
own_from call k set s = iterate (own_step call k set s) [] (λ g. length s - g.at)

-- from behind the motif's header
unfoldable pub own_after : (List ℕ → List Stroke) → ℕ → Setting → List ℕ → Header → List Stroke
own_after call k set s (Header.no code place) = []
own_after call k set s (Header.is class high next) = own_from call k (of_motif set high) s (record { at = next; saved = 0; picture = Picture.none; row = [] })

-- the operators of a motif, read from its bytes by its own header, where a call of a name performs `call` of it besides
unfoldable pub own_of : (List ℕ → List Stroke) → Setting → Found → List Stroke
own_of call set (is k s) = own_after call k set s (header_of s)
own_of call set none = []

-- what a call of a name performs behind itself, where these motifs are known and calls may nest so much deeper (32 at a call of the job)
unfoldable pub called : Setting → List Known → (nesting : ℕ) → List ℕ → List Stroke
called set known zero n = []
called set known (suc d) n = own_of (called set known d) set (known_as n known)

-- what the arm is at: between sessions; in a session at rest, reading a motif of a name (the bytes joined so far), or in a page, perhaps with an image or a pattern
-- open
pub data Doing : Type 0 where
  outside : Doing
  resting : Doing
  reading : (name joined : List ℕ) → Doing
  drawing : Picture → Doing

-- the pattern that is open, if an operator ends it
unfoldable pub ends_pattern : Doing → Turn
ends_pattern outside = stays
ends_pattern resting = stays
ends_pattern (reading n j) = stays
ends_pattern (drawing Picture.none) = stays
ends_pattern (drawing (Picture.being i)) = stays
ends_pattern (drawing (Picture.hatching h i)) = defines h

-- which operator turns what
unfoldable pub turn_of : (gray : Bool) → Doing → ℕ → Turn
turn_of gray doing tag =
    pick (eqb tag OpenDataSource) opens
    (pick (eqb tag CloseDataSource) closes
    (pick (eqb tag BeginPage) (begins gray)
    (pick (eqb tag EndPage) ends (pick (eqb tag EndSession) leaves (pick (eqb tag EndRastPattern) (ends_pattern doing) stays)))))

-- what the arm is at after an operator of the job
unfoldable pub doing_after : Bool → List ℕ → Operator → Doing → Doing
doing_after high s o outside = resting
doing_after high s o resting =
    pick (eqb o.tag EndSession) outside
    (pick (eqb o.tag BeginPage) (drawing Picture.none)
    (pick (eqb o.tag BeginStream) (reading (bytes_in s o.attrs StreamName) []) resting))
doing_after high s o (reading n j) = pick (eqb o.tag ReadStream) (reading n (j ++ take o.length (drop o.first s))) resting
doing_after high s o (drawing i) = pick (eqb o.tag EndPage) resting (drawing (picture_after high s o i))

unfoldable pub is_known : Found → Bool
is_known (is number bytes) = true
is_known none = false

-- the bytes of a name's motif replaced, in its place
unfoldable pub relearnt : (name bytes : List ℕ) → List Known → List Known
relearnt n j [] = []
relearnt n j (m ∷ ms) = elim (same m.name n) [ true ↦ record { name = n; bytes = j } ∷ ms | false ↦ m ∷ relearnt n j ms ]

-- a motif that was read replaces the one of its name, or is the last one
unfoldable pub learnt : (name bytes : List ℕ) → List Known → List Known
learnt n j l = pick (is_known (known_as n l)) (relearnt n j l) (record { name = n; bytes = j } ∷ l)

-- BeginSession begins with none and EndSession drops all; EndStream adds the motif that was read, or puts it in the place of the one of its name
unfoldable pub known_after : Operator → Doing → List Known → List Known
known_after o outside l = []
known_after o resting l = pick (eqb o.tag EndSession) [] l
known_after o (reading n j) l = pick (eqb o.tag ReadStream) l (learnt n j l)
known_after o (drawing i) l = l

-- where the unfolding of a job stands: the place of the next item, what the arm is at, the motifs that it knows, the arm, and the operators so far
pub record Unrolled : Type 0 where
  pub at : ℕ
  pub doing : Doing
  pub known : List Known
  pub arm : PlainArm
  pub row : List Deed

-- what is performed for an operator of the job
unfoldable pub deeds_for : Setting → List ℕ → Doing → List Known → Operator → List Deed
deeds_for set s doing known o = deeds (turn_of set.gray doing o.tag) (strokes_of (called set known 32) 0 set s o)

-- an operator of the job, performed
unfoldable pub on_operator : Setting → List ℕ → Unrolled → Operator → Unrolled
on_operator set s u o =
    record {
      at = o.next;
      doing = doing_after set.high s o u.doing;
      known = known_after o u.doing u.known;
      arm = performed (deeds_for set s u.doing u.known o) u.arm;
      row = u.row ++ deeds_for set s u.doing u.known o;
    }

-- what was read is performed; where reading ends, the row ends
unfoldable pub on_next : Setting → List ℕ → Unrolled → Read → Next Unrolled (List Deed)
on_next set s u (Read.operator o) = go (on_operator set s u o)
on_next set s u Read.ended = stop u.row
on_next set s u (Read.no code place) = stop u.row

-- what reading has to know of where the arm stands
unfoldable pub phase_at : Doing → Page → Phase
phase_at outside p = between_sessions
phase_at resting p = in_session
phase_at (reading n j) p = in_stream
phase_at (drawing Picture.none) p = in_page (length p.saved)
phase_at (drawing (Picture.being i)) p = in_image i
phase_at (drawing (Picture.hatching h i)) p = in_pattern i

-- reading as it is, but that no operator asks for an open source
unfoldable pub context_at : Setting → Unrolled → Context
context_at set u = record { set = set; phase = phase_at u.doing u.arm.page; opened = u.arm.opened; asked = false }

-- the next operator of the job
unfoldable pub unroll_step : Setting → List ℕ → Unrolled → Next Unrolled (List Deed)
unroll_step set s u = on_next set s u (operator_at (context_at set u) s u.at)

-- from behind the job's header, where the arm is outside a session and knows no motif
unfoldable pub unfolded_after : (gray : Bool) → List ℕ → Header → List Deed
unfolded_after gray s (Header.no code place) = []
unfolded_after gray s (Header.is class high next) =
    iterate (unroll_step (record { class = class; high = high; gray = gray }) s) [] (λ u. length s - u.at)
    (record { at = next; doing = outside; known = []; arm = at_start; row = [] })

-- the row of operators that the plain arm performs for a job whose pages start gray or not, up to its end or to the first item that reading refuses
unfoldable pub unfolding_of : (gray : Bool) → List ℕ → List Deed
unfolding_of gray job = unfolded_after gray job (header_of job)
