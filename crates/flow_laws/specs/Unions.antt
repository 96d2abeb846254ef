-- Several sets of margins as one.
use Rattle.std.specs.Prelude.{ℤ, List, [], ◌∷◌, ◌++◌}

-- the margins of all sets
abbrev pub union_of : List (List ℤ) → List ℤ
union_of [] = []
union_of (set ∷ sets) = set ++ union_of sets
