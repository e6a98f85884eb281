-- The parts that the proved jobs are written in: H is a header, S BeginSession, P BeginPage, O OpenDataSource, M a motif, X its call, and so on.
-- Assumes nothing.
use Prim.Native.Nat.{ℕ, zero, suc}
use mathlib.Core.Bool.{Bool, true, false}
use mathlib.Core.List.{List, [], ◌∷◌, ◌++◌}
use lib.ListN.{length, set}
use Rattle.scope.specs.Names.{EndSession, EndPage, CloseDataSource}
use Rattle.scope.specs.Judge.{outer}
use Rattle.scope.specs.Verdict.{Verdict}

-- joined parts
unfoldable pub all : List (List ℕ) → List ℕ
all [] = []
all (x ∷ xs) = x ++ all xs

-- so many times the same
unfoldable pub times : ℕ → List ℕ → List ℕ
times zero x = []
times (suc n) x = x ++ times n x

-- an operator that is its tag alone
abbrev pub op : ℕ → List ℕ
op tag = tag ∷ []

-- the same bytes with another at a place: J with 0xc6 at 16
infix 80 ◌with◌at◌
abbrev pub ◌with◌at◌ : List ℕ → (byte place : ℕ) → List ℕ
s with b at i = set s i b

-- a header
abbrev pub H : List ℕ
H = 0x29 ∷ 0x20 ∷ 0x48 ∷ 0x50 ∷ 0x2d ∷ 0x50 ∷ 0x43 ∷ 0x4c ∷ 0x20 ∷ 0x58 ∷ 0x4c ∷ 0x3b ∷ 0x31 ∷ 0x3b ∷ 0x31 ∷ 0x0a ∷ []

-- a header, high byte first
abbrev pub HB : List ℕ
HB = 0x28 ∷ 0x20 ∷ 0x48 ∷ 0x50 ∷ 0x2d ∷ 0x50 ∷ 0x43 ∷ 0x4c ∷ 0x20 ∷ 0x58 ∷ 0x4c ∷ 0x3b ∷ 0x31 ∷ 0x3b ∷ 0x31 ∷ 0x0a ∷ []

-- BeginSession
abbrev pub S : List ℕ
S = 0xc0 ∷ 0x00 ∷ 0xf8 ∷ 0x86 ∷ 0xd1 ∷ 0x58 ∷ 0x02 ∷ 0x58 ∷ 0x02 ∷ 0xf8 ∷ 0x89 ∷ 0x41 ∷ []

-- EndSession
abbrev pub E : List ℕ
E = op EndSession

-- J of 01
abbrev pub J : List ℕ
J = H ++ (S ++ E)

-- BeginSession, high byte first
abbrev pub SB : List ℕ
SB = 0xc0 ∷ 0x00 ∷ 0xf8 ∷ 0x86 ∷ 0xd1 ∷ 0x02 ∷ 0x58 ∷ 0x02 ∷ 0x58 ∷ 0xf8 ∷ 0x89 ∷ 0x41 ∷ []

-- BeginPage
abbrev pub P : List ℕ
P = 0xc0 ∷ 0x00 ∷ 0xf8 ∷ 0x28 ∷ 0xc0 ∷ 0x00 ∷ 0xf8 ∷ 0x25 ∷ 0x43 ∷ []

-- OpenDataSource
abbrev pub O : List ℕ
O = 0xc0 ∷ 0x00 ∷ 0xf8 ∷ 0x88 ∷ 0xc0 ∷ 0x01 ∷ 0xf8 ∷ 0x82 ∷ 0x48 ∷ []

-- the page, the source and the session end
abbrev pub Z : List ℕ
Z = EndPage ∷ CloseDataSource ∷ EndSession ∷ []

-- SetCursor 0 0
abbrev pub CUR : List ℕ
CUR = 0xd0 ∷ 0x00 ∷ 0x00 ∷ 0xf8 ∷ 0x4c ∷ 0x6b ∷ []

-- LinePath to 0 0
abbrev pub LN : List ℕ
LN = 0xd0 ∷ 0x00 ∷ 0x00 ∷ 0xf8 ∷ 0x45 ∷ 0x9b ∷ []

-- LinePath of one point of type 0
abbrev pub LD : List ℕ
LD = 0xc0 ∷ 0x01 ∷ 0xf8 ∷ 0x4d ∷ 0xc0 ∷ 0x00 ∷ 0xf8 ∷ 0x50 ∷ 0x9b ∷ []

-- SetPenWidth 1
abbrev pub PW : List ℕ
PW = 0xc0 ∷ 0x01 ∷ 0xf8 ∷ 0x4b ∷ 0x7a ∷ []

-- under 256 bytes of data
abbrev pub D : List ℕ → List ℕ
D bytes = 0xfb ∷ length bytes ∷ bytes

-- SetColorSpace gray
abbrev pub GR : List ℕ
GR = 0xc0 ∷ 0x01 ∷ 0xf8 ∷ 0x03 ∷ 0x6a ∷ []

-- a gray brush
abbrev pub GL : List ℕ
GL = 0xc0 ∷ 0x00 ∷ 0xf8 ∷ 0x09 ∷ 0x63 ∷ []

-- an RGB brush
abbrev pub RGB : List ℕ
RGB = 0xc8 ∷ 0xc0 ∷ 0x03 ∷ 0x01 ∷ 0x02 ∷ 0x03 ∷ 0xf8 ∷ 0x0b ∷ 0x63 ∷ []

-- BeginImage 32 by 2, 1 bit
abbrev pub IM : List ℕ
IM = 0xc0 ∷ 0x00 ∷ 0xf8 ∷ 0x64 ∷ 0xc0 ∷ 0x00 ∷ 0xf8 ∷ 0x62 ∷ 0xc0 ∷ 0x20 ∷ 0xf8 ∷ 0x6c ∷ 0xc0 ∷ 0x02 ∷ 0xf8 ∷ 0x6b ∷ 0xd1 ∷ 0x01 ∷ 0x00 ∷ 0x01 ∷ 0x00 ∷ 0xf8 ∷ 0x67 ∷ 0xb0 ∷ []

-- ReadImage from line s, n rows
abbrev pub RI : ℕ → ℕ → List ℕ
RI s n = 0xc0 ∷ s ∷ 0xf8 ∷ 0x6d ∷ 0xc0 ∷ n ∷ 0xf8 ∷ 0x63 ∷ 0xc0 ∷ 0x00 ∷ 0xf8 ∷ 0x65 ∷ 0xb1 ∷ []

-- BeginStream with a name of one byte
abbrev pub N : ℕ → List ℕ
N n = 0xc8 ∷ 0xc0 ∷ 1 ∷ n ∷ 0xf8 ∷ 0x8b ∷ 0x5b ∷ []

-- a motif of a name of one byte, under 256 bytes
abbrev pub M : ℕ → List ℕ → List ℕ
M n body =
    0xc8 ∷ 0xc0 ∷ 1 ∷ n ∷ 0xf8 ∷ 0x8b ∷ 0x5b ∷ 0xc1 ∷ length (H ++ body) ∷ 0 ∷ 0xf8 ∷ 0x8c ∷ 0x5c ∷ 0xfb ∷ length (H ++ body)
    ∷ ((H ++ body) ++ (0x5d ∷ []))

-- its call
abbrev pub X : ℕ → List ℕ
X n = 0xc8 ∷ 0xc0 ∷ 1 ∷ n ∷ 0xf8 ∷ 0x8b ∷ 0x5e ∷ []

-- a job, whether its pages start in gray, the lengths of both buffers, the verdict expected
pub record Tried : Type 0 where
  pub gray : Bool
  pub parts : List (List ℕ)
  pub work : ℕ
  pub room : ℕ
  pub expected : Verdict

abbrev pub try : List (List ℕ) → (work room code position inner records performed : ℕ) → Tried
try ps w r c p i n k =
    record { gray = false; parts = ps; work = w; room = r; expected = record { code = c; position = p; inner = i; records = n; performed = k } }

infix 68 ◌gets◌at◌listed◌performed◌
-- the verdict of a job, with buffers that are long enough and no motif at fault
abbrev pub ◌gets◌at◌listed◌performed◌ : List (List ℕ) → (code position records performed : ℕ) → Tried
ps gets c at p listed n performed k = try ps 16384 65536 c p outer n k

infix 68 ◌gets◌at◌inside◌listed◌performed◌
-- the verdict where a motif is at fault, at a place inside it
abbrev pub ◌gets◌at◌inside◌listed◌performed◌ : List (List ℕ) → (code position inner records count : ℕ) → Tried
ps gets c at p inside i listed n performed k = try ps 16384 65536 c p i n k

-- the same job with buffers of other lengths
abbrev pub lending : (work room : ℕ) → Tried → Tried
lending w r x = record { gray = x.gray; parts = x.parts; work = w; room = r; expected = x.expected }

-- the same job with pages that start in gray; all others ask for RGB
abbrev pub in_gray : Tried → Tried
in_gray x = record { gray = true; parts = x.parts; work = x.work; room = x.room; expected = x.expected }
