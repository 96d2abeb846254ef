-- One calculation more in front of others, and no more of them.
use Rattle.std.proofs.Common.{◌≡◌, ap, refl, List, [], ◌∷◌, ◌++◌, map}
use Rattle.value_model.specs.Calculations.{Calculations, ComputedLeaf, no_calculations, calculation}
use Rattle.query_units.specs.Views.{all_computed_view, computed_view}
use Rattle.query_units.specs.declared.computed.Computed.{Computed}
use Rattle.query_units.specs.inner.Fronts.{in_front}

pub in_front_push : (front : List Computed) (c : Computed) (cs : Calculations ComputedLeaf)
    → in_front (map computed_view (front ++ c ∷ [])) cs
    ≡ in_front (map computed_view front) (calculation (computed_view c) cs)
in_front_push [] c cs = refl
in_front_push (d ∷ front) c cs = ap (calculation (computed_view d)) (in_front_push front c cs)

pub in_front_all : (front : List Computed)
    → in_front (map computed_view front) no_calculations ≡ all_computed_view front
in_front_all [] = refl
in_front_all (c ∷ front) = ap (calculation (computed_view c)) (in_front_all front)
