-- What holds of the declaration that wins.
use Rattle.std.specs.Prelude.{ℕ, ◌≡◌, ◌≢◌, ◌⊎◌, List, Some, None, true, false}
use Rattle.std.specs.List.{slice_get}
use Rattle.cascade_model.specs.Applied.{Applied}
use Rattle.cascade_model.specs.Kept.{Target}
use Rattle.cascade_model.specs.Order.{outranks, IsWinner, winner}

-- the first outranks the second, and not the other way round
pub record Beats (d : Applied) (m : ℕ) (e : Applied) (n : ℕ) : Type 0 where
  pub first : outranks d m e n ≡ true
  pub second : outranks e n d m ≡ false

-- of two declarations in different places one outranks the other
abbrev pub AreComparable : Type 0
AreComparable = (d e : Applied) (m n : ℕ) → m ≢ n → Beats d m e n ⊎ Beats e n d m

-- two winners stand in the same place
abbrev pub AreAgreed : Type 0
AreAgreed = (ds : List Applied) (t : Target) (m n : ℕ) (d e : Applied)
    → IsWinner ds t m d → IsWinner ds t n e → m ≡ n

-- the declaration that is found is the winner
abbrev pub AreRight : Type 0
AreRight = (ds : List Applied) (t : Target) (d : Applied) → winner t ds ≡ Some d → (n : ℕ) × IsWinner ds t n d

-- where none is found, no declaration is of the property
abbrev pub ArePlaced : Type 0
ArePlaced = (ds : List Applied) (t : Target) (n : ℕ) (e : Applied)
    → winner t ds ≡ None → slice_get ds n ≡ Some e → e.target ≢ t
