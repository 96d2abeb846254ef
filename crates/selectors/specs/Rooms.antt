-- The pairs of a match, and the room for them.
use Rattle.std.specs.Prelude.{ℕ, ◌≤◌, List, [], ◌∷◌, ◌++◌, length}
use Rattle.selectors_model.specs.declared.spec.Spec.{Spec}

-- what is seen of a `Matched`: the numbers and specificities, and how many there is room for
pub record Room : Type 0 where
  pub pairs : List (ℕ × Spec)
  pub room : ℕ

-- the pairs fit the room, and the room the capacity
pub record IsRoom (pairs : List (ℕ × Spec)) (room capacity : ℕ) : Type 0 where
  pub within : length pairs ≤ room
  pub taken : room ≤ capacity

-- room for so many, and no pair
abbrev pub empty_room : ℕ → Room
empty_room n = record { pairs = []; room = n }

-- one pair more
abbrev pub with_pair : Room → ℕ → Spec → Room
with_pair r number spec = record r { pairs = r.pairs ++ (number, spec) ∷ [] }
