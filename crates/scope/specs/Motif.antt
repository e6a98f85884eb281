-- 01, "Motifs", and 02, item 8: what is held, and how a motif is judged at EndStream. It is judged from its bytes alone: it may name a motif that is not held.
-- Assumes nothing.
use Rattle.std.specs.Prelude.{ℕ, suc, ◌+◌, ◌-◌, Bool, true, false, ◌||◌, List, [], ◌∷◌, ◌++◌, length, eqb}
use Rattle.scope.specs.Choice.{pick, same}
use Rattle.scope.specs.Iterate.{Next, go, stop, iterate}
use Rattle.scope.specs.Header.{Header, header_of}
use Rattle.scope.specs.Setting.{Setting, of_motif, same_class}
use Rattle.scope.specs.Item.{Attribute}
use Rattle.scope.specs.Attributes.{value_in, bytes_in}
use Rattle.scope.specs.Data.{Image, reads_rows}
use Rattle.scope.specs.Order.{Phase, in_motif, in_image, in_pattern}
use Rattle.scope.specs.Reading.{Context, Operator, Read, operator_at}
use Rattle.scope.specs.Arm.{Act, act_of}
use Rattle.scope.specs.Names.{SourceWidth, ColorDepth, SourceHeight, BeginImage, BlockHeight, EndImage, BeginRastPattern, EndRastPattern, PatternPersistence, PatternDefineID, PushGS, PopGS, ExecStream, StreamName}

-- an operator of a motif, as it is read there: it does something, or calls by a name
pub data Own : Type 0 where
  does : Operator → Act → Own
  calls : Operator → (name : List ℕ) → Own

-- a held motif: its name, its bytes, its number (1 for the first of the session), the operators in it
pub record Motif : Type 0 where
  pub name : List ℕ
  pub bytes : List ℕ
  pub number : ℕ
  pub ops : List Own

-- the motif of a name, or none
pub data Held : Type 0 where
  is : Motif → Held
  none : Held

-- held motifs stand last one first
unfoldable pub held_as : List ℕ → List Motif → Held
held_as n [] = none
held_as n (m ∷ ms) = elim (same m.name n) [ true ↦ is m | false ↦ held_as n ms ]

unfoldable pub is_held : Held → Bool
is_held (is m) = true
is_held none = false

-- the bytes that the held motifs take
unfoldable pub bytes_held : List Motif → ℕ
bytes_held [] = 0
bytes_held (m ∷ ms) = length m.bytes + bytes_held ms

-- a pattern that is defined: for the session or for the page, and its number
pub record Hatch : Type 0 where
  pub session : Bool
  pub number : ℕ

-- PatternPersistence 2 is for the session, 1 for the page
unfoldable pub hatch_of : Bool → List ℕ → List Attribute → Hatch
hatch_of high s l = record { session = eqb (value_in high s l PatternPersistence) 2; number = value_in high s l PatternDefineID }

-- an image that is open, a pattern that is being defined, or none
pub data Picture : Type 0 where
  none : Picture
  being : Image → Picture
  hatching : Hatch → Image → Picture

-- BeginImage opens an image, BeginRastPattern a pattern; ReadImage and ReadRastPattern read rows of it, EndImage and EndRastPattern end it
unfoldable pub begun : Bool → List ℕ → List Attribute → Image
begun high s l = record { width = value_in high s l SourceWidth; depth = value_in high s l ColorDepth; height = value_in high s l SourceHeight; rows = 0 }

abbrev pub with_rows : ℕ → Image → Image
with_rows n i = record { width = i.width; depth = i.depth; height = i.height; rows = i.rows + n }

unfoldable pub read_on : ℕ → Picture → Picture
read_on n none = none
read_on n (being i) = being (with_rows n i)
read_on n (hatching h i) = hatching h (with_rows n i)

unfoldable pub picture_after : Bool → List ℕ → Operator → Picture → Picture
picture_after high s o p =
    pick (eqb o.tag BeginImage) (being (begun high s o.attrs))
    (pick (eqb o.tag BeginRastPattern) (hatching (hatch_of high s o.attrs) (begun high s o.attrs))
    (pick (reads_rows o.tag) (read_on (value_in high s o.attrs BlockHeight) p)
    (pick (eqb o.tag EndImage || eqb o.tag EndRastPattern) none p)))

-- how many states are saved after an operator
unfoldable pub saved_after : ℕ → ℕ → ℕ
saved_after tag n = pick (eqb tag PushGS) (suc n) (pick (eqb tag PopGS) (n - 1) n)

-- a motif's judgement: valid, with its operators; or a code and a place inside it
pub data Judged : Type 0 where
  valid : List Own → Judged
  faulty : (code : ℕ) → (inner : ℕ) → Judged

-- where the judging of a motif stands
pub record Inside : Type 0 where
  pub at : ℕ
  pub saved : ℕ
  pub picture : Picture
  pub ops : List Own

unfoldable pub phase_in : ℕ → Picture → Phase
phase_in saved none = in_motif saved
phase_in saved (being i) = in_image i
phase_in saved (hatching h i) = in_pattern i

-- 17 is not judged inside a motif
unfoldable pub context_in : Setting → Inside → Context
context_in set w = record { set = set; phase = phase_in w.saved w.picture; opened = true; asked = false }

-- an operator of a motif that was read
unfoldable pub own_by : Setting → List ℕ → Operator → Own
own_by set s o = pick (eqb o.tag ExecStream) (calls o (bytes_in s o.attrs StreamName)) (does o (act_of set s o))

-- the end: no image open and as many PopGS as PushGS, else 27
unfoldable pub on_end : List ℕ → Inside → Picture → Judged
on_end s w (being i) = faulty 27 (length s)
on_end s w (hatching h i) = faulty 27 (length s)
on_end s w none = pick (eqb w.saved 0) (valid w.ops) (faulty 27 (length s))

unfoldable pub on_read : Setting → List ℕ → Inside → Read → Next Inside Judged
on_read set s w (Read.no code place) = stop (faulty code place)
on_read set s w Read.ended = stop (on_end s w w.picture)
on_read set s w (Read.operator o) =
    go
    (record {
      at = o.next;
      saved = saved_after o.tag w.saved;
      picture = picture_after set.high s o w.picture;
      ops = w.ops ++ (own_by set s o ∷ []);
    })

unfoldable pub motif_step : Setting → List ℕ → Inside → Next Inside Judged
motif_step set s w = on_read set s w (operator_at (context_in set w) s w.at)

-- the judging of a motif from where it stands (the answer that `iterate` is given is never used: proofs/Falls)
unfoldable pub judged_inside : Setting → List ℕ → Inside → Judged
judged_inside set s = iterate (motif_step set s) (faulty 5 0) (λ w. length s - w.at)

-- a motif has the job's class, else 4
unfoldable pub motif_from : Setting → List ℕ → Header → Judged
motif_from set s (Header.no code place) = faulty code place
motif_from set s (Header.is class high next) =
    pick (same_class class set.class) (judged_inside (of_motif set high) s (record { at = next; saved = 0; picture = none; ops = [] })) (faulty 4 12)

-- a motif judged at EndStream of a job with this setting
unfoldable pub motif_of : Setting → List ℕ → Judged
motif_of set s = motif_from set s (header_of s)
