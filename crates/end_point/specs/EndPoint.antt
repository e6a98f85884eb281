-- A line by its end point with nothing between its items: a point, 0xf8 and EndPoint's number, then LinePath or LineRelPath.
-- Assumes nothing.
use Rattle.std.specs.Prelude.{ℕ, suc, ◌+◌, ◌<◌, ◌≡◌, Bool, true, false, ◌&&◌, ◌||◌, List, [], ◌∷◌, length, get_or, eqb, ltb, Option, Some, None, IfSome}
use Rattle.scope.specs.Choice.{pick}
use Rattle.scope.specs.Names.{EndPoint, LinePath, LineRelPath}
use Rattle.scope.specs.Attributes.{two_at, point_in}
use Rattle.scope.specs.Reading.{Operator}

-- the bytes of a point's whole numbers by its tag, if it has any
unfoldable pub point_length : ℕ → Option ℕ
point_length tag = pick (eqb tag 0xd0) (Some 2) (pick (eqb tag 0xd1 || eqb tag 0xd3) (Some 4) None)

-- at p stand 0xf8, EndPoint's number, and LinePath or LineRelPath
unfoldable pub ends_at : List ℕ → ℕ → Bool
ends_at s p =
    ltb (p + 2) (length s)
    && (eqb (get_or s p 0) 0xf8 && (eqb (get_or s (p + 1) 0) EndPoint && (eqb (get_or s (p + 2) 0) LinePath || eqb (get_or s (p + 2) 0) LineRelPath)))

-- where such a line by two finite reals, whose tag stands at `at`, has its operator
unfoldable pub real_line_to : Bool → List ℕ → ℕ → Option ℕ
real_line_to high s at =
    pick (ltb (at + 11) (length s) && (eqb (get_or s at 0) 0xd5 && (point_in (two_at high s 0xd5 (at + 1)) && ends_at s (at + 9)))) (Some (at + 11)) None

-- the same of a point with so many bytes of whole numbers, or with none
abbrev pub line_by : Bool → List ℕ → ℕ → Option ℕ → Option ℕ
line_by high s at None = real_line_to high s at
line_by high s at (Some w) = pick (ends_at s (at + 1 + w)) (Some (at + 3 + w)) None

-- where such a line, whose point's tag stands at `at`, has its operator
unfoldable pub line_to : Bool → List ℕ → ℕ → Option ℕ
line_to high s at = line_by high s at (point_length (get_or s at 0))

-- the operator of such a line
abbrev pub line_of : (point tag at op : ℕ) → Operator
line_of point tag at op =
    record {
      tag = tag;
      at = op;
      attrs = record { number = EndPoint; tag = point; at = at; count = 2; first = at + 1 } ∷ [];
      reads = false;
      length = 0;
      first = 0;
      next = suc op;
    }

-- a point by its tag, with so many bytes of numbers
pub data Point : (tag bytes : ℕ) → Type 0 where
  point_ubyte : Point 0xd0 2
  point_uint16 : Point 0xd1 4
  point_sint16 : Point 0xd3 4
  point_real : Point 0xd5 8

-- LinePath or LineRelPath
pub data Drawn : ℕ → Type 0 where
  drawn_path : Drawn LinePath
  drawn_rel : Drawn LineRelPath

-- what stands at p where a line ends
pub record Ends (s : List ℕ) (p : ℕ) : Type 0 where
  pub within : p + 2 < length s
  pub mark : get_or s p 0 ≡ 0xf8
  pub number : get_or s (p + 1) 0 ≡ EndPoint
  pub drawn : Drawn (get_or s (p + 2) 0)

-- such a line from `at` to its operator at `op`; its numbers are whole, or finite reals
pub record Line (high : Bool) (s : List ℕ) (at op : ℕ) : Type 0 where
  pub bytes : ℕ
  pub point : Point (get_or s at 0) bytes
  pub numbers : point_in (two_at high s (get_or s at 0) (at + 1)) ≡ true
  pub ends : Ends s (at + 1 + bytes)
  pub is : op ≡ at + 3 + bytes

-- where the code finds the operator, there is such a line
abbrev pub Lined : (high : Bool) (s : List ℕ) (at : ℕ) → Option ℕ → Type 0
Lined high s at found = IfSome found (λ op. Line high s at op)
