-- Tables by names.
use Rattle.std.proofs.Common.{◌≡◌, refl, ℕ, List, [], ◌∷◌, map, Bool, option_map, inl, inr}
use Rattle.std.proofs.lemmas.Bool.{cases_Bool}
use Rattle.std.specs.Map.{lookup}

-- what is found of rows, and then seen in another way
pub lookup-map : {R X Y : Type 0} (test : List ℕ → Bool) (name : R → List ℕ) (value : R → X) (f : X → Y) (rows : List R)
    → option_map f (lookup test (map (λ row. (name row, value row)) rows))
    ≡ lookup test (map (λ row. (name row, f (value row))) rows)
lookup-map test name value f [] = refl
lookup-map test name value f (row ∷ rows) = elim (cases_Bool (test (name row))) [
  | inl t ↦ rw t refl
  | inr n ↦ rw n (lookup-map test name value f rows)
]
