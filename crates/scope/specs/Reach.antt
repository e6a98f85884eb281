-- What calls reach, in words of rounds over names: a motif nests within so many levels, reaches a name that is not held, or comes back to itself. Claims says how
-- the walk of Calls goes by these words.
-- Assumes nothing.
use Rattle.std.specs.Prelude.{ℕ, zero, suc, ◌+◌, ◌≤◌, ◌≡◌, Bool, true, false, not, List, [], ◌∷◌}
use Rattle.scope.specs.Choice.{pick, same}
use Rattle.scope.specs.Motif.{Own, does, calls, Motif, Held, held_as, is_held}

abbrev pub Name : Type 0
Name = List ℕ

-- of all these names, of one of them
unfoldable pub all : (Name → Bool) → List Name → Bool
all f [] = true
all f (n ∷ ns) = pick (f n) (all f ns) false

unfoldable pub any : (Name → Bool) → List Name → Bool
any f [] = false
any f (n ∷ ns) = pick (f n) true (any f ns)

-- n is held and nests at most d deep, and all that it calls are held
unfoldable pub fits : (holds : Name → Bool) → (called_by : Name → List Name) → (d : ℕ) → Name → Bool
fits holds called_by zero n = false
fits holds called_by (suc d) n = pick (holds n) (all (fits holds called_by d) (called_by n)) false

-- by d calls or fewer from a call of n a name is reached that is not held
unfoldable pub lost : (holds : Name → Bool) → (called_by : Name → List Name) → (d : ℕ) → Name → Bool
lost holds called_by zero n = not (holds n)
lost holds called_by (suc d) n = pick (holds n) (any (lost holds called_by d) (called_by n)) true

-- v is reached from n by exactly t calls
unfoldable pub steps : (called_by : Name → List Name) → (t : ℕ) → (v : Name) → Name → Bool
steps called_by zero v n = same n v
steps called_by (suc t) v n = any (steps called_by t v) (called_by n)

-- the names that the operators of a motif call
unfoldable pub names_in : List Own → List Name
names_in [] = []
names_in (does o a ∷ os) = names_in os
names_in (calls o n ∷ os) = n ∷ names_in os

unfoldable pub names_of : Held → List Name
names_of (Held.is m) = names_in m.ops
names_of Held.none = []

-- of what is held: which names are, and whom each calls
abbrev pub holds : List Motif → Name → Bool
holds held n = is_held (held_as n held)

abbrev pub called_by : List Motif → Name → List Name
called_by held n = names_of (held_as n held)

-- a ring that n reaches: a motif that is reached by some calls and reaches itself by some more, by at most d together
pub record Ring (held : List Motif) (d : ℕ) (n : Name) : Type 0 where
  pub which : Name
  pub way : ℕ
  pub round : ℕ
  pub reached : steps (called_by held) way which n ≡ true
  pub closed : steps (called_by held) (suc round) which which ≡ true
  pub short : way + suc round ≤ d
