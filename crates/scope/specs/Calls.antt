-- 02, item 8: what a call unfolds to, and what it meets on the way. A call means what its name holds when it is performed. A name not held, a motif already
-- running, and a call that would go below 32 unfold to nothing; the tests at one call come in this order.
-- Assumes nothing.
use Rattle.std.specs.Prelude.{ℕ, zero, suc, Bool, true, false, ◌||◌, List, [], ◌∷◌, ◌++◌}
use Rattle.scope.specs.Choice.{pick, same}
use Rattle.scope.specs.Arm.{idle, Stroke}
use Rattle.scope.specs.Motif.{Own, does, calls, Motif, Held, held_as}

-- the row of operators performed for the own operators of motif k, where a call of n performs f n besides
unfoldable pub flat : (List ℕ → List Stroke) → ℕ → List Own → List Stroke
flat f k [] = []
flat f k (does o a ∷ os) = record { motif = k; op = o; act = a } ∷ flat f k os
flat f k (calls o n ∷ os) = record { motif = k; op = o; act = idle } ∷ (f n ++ flat f k os)

-- a name is one of these
unfoldable pub is_one : List ℕ → List (List ℕ) → Bool
is_one n [] = false
is_one n (r ∷ rs) = pick (same n r) true (is_one n rs)

-- a call of a name: the name is not held, its motif is already running, or the call enters the motif
pub data Call : Type 0 where
  missing : Call
  again : Call
  enters : Motif → Call

unfoldable pub call_by : (runs : Bool) → Held → Call
call_by runs Held.none = missing
call_by true (Held.is m) = again
call_by false (Held.is m) = enters m

-- a call of a name, where these are held and the motifs of these names are running
unfoldable pub call_of : List Motif → (running : List (List ℕ)) → List ℕ → Call
call_of held running n = call_by (is_one n running) (held_as n held)

-- the row that a call performs behind itself, where a call of n in the motif that it enters performs f n
unfoldable pub through : (List ℕ → List Stroke) → Call → List Stroke
through f missing = []
through f again = []
through f (enters m) = flat f m.number m.ops

-- the row that a call of a name unfolds to, where calls may nest so much deeper (32 at a call of the job)
unfoldable pub unfolded : List Motif → (nesting : ℕ) → (running : List (List ℕ)) → List ℕ → List Stroke
unfolded held zero running n = []
unfolded held (suc d) running n = through (unfolded held d (n ∷ running)) (call_of held running n)

-- what a call meets, it or one that it unfolds to: a name not held (21), a motif already running (32), a call that would go below 32 (22)
pub record Met : Type 0 where
  pub missing : Bool
  pub again : Bool
  pub deep : Bool

abbrev pub nothing : Met
nothing = record { missing = false; again = false; deep = false }

abbrev pub both : Met → Met → Met
both a b = record { missing = a.missing || b.missing; again = a.again || b.again; deep = a.deep || b.deep }

-- what the calls among the own operators of a motif meet, where a call of n meets f n
unfoldable pub met_in : (List ℕ → Met) → List Own → Met
met_in f [] = nothing
met_in f (does o a ∷ os) = met_in f os
met_in f (calls o n ∷ os) = both (f n) (met_in f os)

-- what a call meets, where one that enters m meets f m
unfoldable pub met_by : (Motif → Met) → Call → Met
met_by f missing = record { missing = true; again = false; deep = false }
met_by f again = record { missing = false; again = true; deep = false }
met_by f (enters m) = f m

-- what a call of a name meets, where calls may nest so much deeper
unfoldable pub met : List Motif → (nesting : ℕ) → (running : List (List ℕ)) → List ℕ → Met
met held zero running n = met_by (λ m. record { missing = false; again = false; deep = true }) (call_of held running n)
met held (suc d) running n = met_by (λ m. met_in (met held d (n ∷ running)) m.ops) (call_of held running n)
