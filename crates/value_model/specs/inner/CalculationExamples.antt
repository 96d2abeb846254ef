-- Words of the examples: calculations of texts.
use Rattle.std.specs.Prelude.{ℤ, pos, Option, None, option_map, Bool, true, false}
use Rattle.css_model.specs.Classes.{Text}
use Rattle.css_model.specs.Components.{Component, Components, component}
use Rattle.rules_model.specs.Sheets.{components_of}
use Rattle.value_model.specs.declared.length_unit.Bases.{Bases}
use Rattle.value_model.specs.declared.unit_set.UnitSet.{UnitSet}
use Rattle.value_model.specs.Lengths.{Length}
use Rattle.value_model.specs.CalculationGrammar.{calculation_of, length_from_zero_of, length_in}
use Rattle.value_model.specs.Calculations.{Calculation, calculation_value, ComputedLength, computed_leaf, computed_length, used_length, units_from_zero, with_leaves, length_text, mentioned_in}

-- what a reader finds in the first component value of a text
abbrev pub first : {X : Type 0} → (Component → Option X) → Components → Option X
first read (component c cs) = read c
first read other = None

-- a container of 300 by 400
abbrev pub bases : Bases
bases = record { em = pos 640; rem = pos 1280; vw = pos 64000; vh = pos 32000; cqw = pos 19200; cqh = pos 25600 }

-- a calculation, with percentages or without
abbrev pub calculation_in : Bool → Text → Option (Calculation Length)
calculation_in with_percentages css = first (calculation_of with_percentages) (components_of css)

-- its value in millionths of a pixel, without percentages
abbrev pub calculated : Text → Option ℤ
calculated css = option_map (calculation_value bases (pos 0)) (calculation_in false css)

-- its value in millionths of a pixel, where percentages refer to 300 pixels
abbrev pub calculated_of_300 : Text → Option ℤ
calculated_of_300 css = option_map (calculation_value bases (pos 19200)) (calculation_in true css)

-- its text, each length in pixels
abbrev pub tree_in : Text → Option Text
tree_in css = option_map (λ c. length_text (with_leaves (computed_leaf bases) c)) (calculation_in true css)

-- as it is computed
abbrev pub computed_of : Text → Option ComputedLength
computed_of css = option_map (computed_length bases) (calculation_in true css)

-- in units and not below 0, where percentages refer to 300 pixels
abbrev pub in_units_of_300 : Text → Option ℤ
in_units_of_300 css = option_map (units_from_zero bases (pos 19200)) (calculation_in true css)

-- the used value of what is computed, where percentages refer to 300 pixels
abbrev pub used_of_300 : Text → Option ℤ
used_of_300 css = option_map (λ c. used_length c (pos 19200)) (computed_of css)

-- what it depends on
abbrev pub bases_of : Text → Option UnitSet
bases_of css = option_map mentioned_in (calculation_in true css)

-- the font size 16 pixels, a viewport of 800 by 600, and a container of the same size
abbrev pub page_bases : Bases
page_bases =
    record { em = pos 1024; rem = pos 1024; vw = pos 51200; vh = pos 38400; cqw = pos 51200; cqh = pos 38400 }

abbrev pub computed_on_a_page : Text → Option ComputedLength
computed_on_a_page css = option_map (computed_length page_bases) (calculation_in true css)

-- ---- lengths, literal or calculated

-- as it is computed, where a literal may not be negative
abbrev pub length_from_zero : Bool → Text → Option ComputedLength
length_from_zero with_percentages css =
    option_map (computed_length bases) (first (length_from_zero_of with_percentages) (components_of css))

-- the length that is all there is
abbrev pub length_by_itself : Bool → Text → Option (Calculation Length)
length_by_itself with_percentages css = length_in with_percentages (components_of css)
