-- Calculations in front of others.
use Rattle.std.specs.Prelude.{List, [], ◌∷◌}
use Rattle.value_model.specs.Calculations.{Calculation, Calculations, calculation}

abbrev pub in_front : {L : Type 0} → List (Calculation L) → Calculations L → Calculations L
in_front [] cs = cs
in_front (c ∷ front) cs = calculation c (in_front front cs)
