-- Which lengths of the definitions these are.
use Rattle.std.specs.Prelude.{List, [], ◌∷◌, map}
use Rattle.value_model.specs.Calculations as model
use Rattle.value_model.specs.Lengths as lengths
use Rattle.value_parts.specs.Views.{literal_view}
use Rattle.query_units.specs.declared.length.Length.{Length, fold-Length}
use Rattle.query_units.specs.declared.length.Length.TheOpen.{Length-F}
use Rattle.query_units.specs.declared.computed.Computed.{Computed, fold-Computed}
use Rattle.query_units.specs.declared.computed.Computed.TheOpen.{Computed-F}

-- calculations of the definition, as it lists them
abbrev pub listed : {L : Type 0} → List (model.Calculation L) → model.Calculations L
listed [] = model.no_calculations
listed (c ∷ cs) = model.calculation c (listed cs)

-- one level, with each calculation in it already seen as one of the definition
abbrev pub length_step : Length-F (model.Calculation lengths.Length) → model.Calculation lengths.Length
length_step (Length-F.Literal l) = model.leaf (literal_view l)
length_step (Length-F.Sum a b) = model.sum a b
length_step (Length-F.Scaled a n) = model.scaled a n
length_step (Length-F.Divided a n) = model.divided a n
length_step (Length-F.Smallest a others) = model.smallest a (listed others)
length_step (Length-F.Largest a others) = model.largest a (listed others)

abbrev pub length_view : Length → model.Calculation lengths.Length
length_view = fold-Length (model.Calculation lengths.Length) length_step

abbrev pub lengths_view : List Length → model.Calculations lengths.Length
lengths_view cs = listed (map length_view cs)

abbrev pub computed_step : Computed-F model.ComputedLength → model.ComputedLength
computed_step (Computed-F.Units n) = model.leaf (model.in_units n)
computed_step (Computed-F.Px n) = model.leaf (model.in_pixels n)
computed_step (Computed-F.Pct n) = model.leaf (model.in_percent n)
computed_step (Computed-F.Add a b) = model.sum a b
computed_step (Computed-F.Scale a n) = model.scaled a n
computed_step (Computed-F.Over a n) = model.divided a n
computed_step (Computed-F.Min a others) = model.smallest a (listed others)
computed_step (Computed-F.Max a others) = model.largest a (listed others)

abbrev pub computed_view : Computed → model.ComputedLength
computed_view = fold-Computed model.ComputedLength computed_step

abbrev pub all_computed_view : List Computed → model.Calculations model.ComputedLeaf
all_computed_view cs = listed (map computed_view cs)
