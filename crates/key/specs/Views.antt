-- A key of the code as the three numbers of the definition.
-- Assumes nothing.
use Rattle.std.specs.Prelude.{ℕ, List, [], ◌∷◌}
use Rattle.key.specs.declared.key.Key.{Key}

abbrev pub key_as : Key → List ℕ
key_as k = k.first ∷ k.next ∷ k.long ∷ []
