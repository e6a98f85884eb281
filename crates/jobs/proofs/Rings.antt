-- Proved calls of request 8, judged from sessions that no short job comes to: chains and rings of 32 motifs and more, 64 motifs held, 16,380 bytes of them. They
-- stand beside the table in Jobs.
-- Assumes nothing.
use Prim.Native.Nat.{ℕ, zero, suc}
use mathlib.Core.Bool.{Bool, true, false}
use mathlib.Core.List.{List, [], ◌∷◌}
use lib.ListN.{length}
use Rattle.scope.specs.Reading.{Operator}
use Rattle.scope.specs.Arm.{blank, any, no_pattern, put, kept}
use Rattle.scope.specs.Motif.{Own, does, calls, Motif, Picture}
use Rattle.scope.specs.Session.{Busy, resting, reading, drawing}
use Rattle.scope.specs.Names.{ExecStream, LinePath}
use Rattle.scope.specs.Verdict.{zeros}
use Rattle.jobs.proofs.Parts.{D, N, X}

-- judging that begins in a session: the source open or not, these motifs held, these patterns defined, at this, before these items; and how it ends
pub record Begun : Type 0 where
  pub opened : Bool
  pub held : List Motif
  pub patterns : List ℕ
  pub busy : Busy
  pub items : List ℕ
  pub code : ℕ
  pub position : ℕ

-- an operator of a motif that was read at its place 0: a call of a name of one byte, a line that reads data
abbrev operator : (tag : ℕ) → (reads : Bool) → Operator
operator tag reads = record { tag = tag; at = 0; attrs = []; reads = reads; length = 0; first = 0; next = 0 }

abbrev calling : ℕ → Own
calling n = calls (operator ExecStream false) (n ∷ [])

abbrev line : Own
line = does (operator LinePath true) (record { source = true; cursor = false; space = any; select = no_pattern; effect = put kept kept })

-- a motif of a name of one byte, which is its number too
abbrev motif : ℕ → List Own → Motif
motif n ops = record { name = n ∷ []; bytes = []; number = n; ops = ops }

-- motif i and so many more, each of which calls the next; the last has these operators
unfoldable pub chain : ℕ → ℕ → List Own → List Motif
chain i zero ops = motif i ops ∷ []
chain i (suc k) ops = motif i (calling (suc i) ∷ []) ∷ chain (suc i) k ops

-- a page calls motif n, with the source closed; a call that is performed is followed by 27 at 7, as the items end in the page
abbrev called : List Motif → (n code position : ℕ) → Begun
called held n code position =
    record { opened = false; held = held; patterns = []; busy = drawing (blank false) [] Picture.none; items = X n; code = code; position = position }

-- a motif is begun, where 64 are held
abbrev among64 : (n code position : ℕ) → Begun
among64 n code position = record { opened = true; held = chain 1 63 []; patterns = []; busy = resting; items = N n; code = code; position = position }

-- a motif of 16,380 bytes is being replaced, and a ReadStream reads so many of the new one
abbrev replacing : (bytes : List ℕ) → (code position : ℕ) → Begun
replacing bytes code position =
    record {
      opened = true;
      held = record { name = 0x61 ∷ []; bytes = zeros 16380; number = 1; ops = [] } ∷ [];
      patterns = [];
      busy = reading (0x61 ∷ []) [];
      items = 0xc0 ∷ length bytes ∷ 0xf8 ∷ 0x8c ∷ 0x5c ∷ D bytes;
      code = code;
      position = position;
    }

-- 17, 19, 21, 22, 32 and what is performed
abbrev pub rings : List Begun
rings =
    -- a chain of 32
    called (chain 1 31 []) 1 27 7
    ∷  -- 22: a chain of 33
    called (chain 1 32 []) 1 22 6
    ∷  -- 32: a ring of 32
    called (chain 1 31 (calling 1 ∷ [])) 1 32 6
    ∷  -- 22: a ring of 33, called at its first
    called (chain 1 32 (calling 1 ∷ [])) 1 22 6
    ∷  -- 32: a ring of one, reached at the 32nd level
    called (chain 1 31 (calling 32 ∷ [])) 1 32 6
    ∷  -- 21: a name not held, in the 32nd of a chain
    called (chain 1 31 (calling 99 ∷ [])) 1 21 6
    ∷  -- 22, not 21: in the 33rd
    called (chain 1 32 (calling 99 ∷ [])) 1 22 6
    ∷  -- 21 before 22
    called (motif 97 (calling 1 ∷ calling 99 ∷ []) ∷ chain 1 32 []) 97 21 6
    ∷  -- 32 before 22
    called (motif 97 (calling 1 ∷ calling 97 ∷ []) ∷ chain 1 32 []) 97 32 6
    ∷  -- 22 before 17
    called (motif 97 (line ∷ calling 1 ∷ []) ∷ chain 1 31 []) 97 22 6
    ∷  -- 17, where nothing is met
    called (motif 97 (line ∷ calling 1 ∷ []) ∷ chain 1 30 []) 97 17 6
    ∷  -- 19: 64 held, and a new name
    among64 65 19 6
    ∷  -- a held one may begin: 27, the items end in it
    among64 64 27 7
    ∷  -- 19: the old one counts while the new one is read
    replacing (0 ∷ 0 ∷ 0 ∷ 0 ∷ 0 ∷ []) 19 4
    ∷  -- to the byte
    replacing (0 ∷ 0 ∷ 0 ∷ 0 ∷ []) 27 11
    ∷ []
