-- Words of the examples: values of texts.
use Rattle.std.specs.Prelude.{ℕ, ℤ, pos, List, filter, map, Option, None, option_map, option_and_then, Bool, true, is_some}
use Rattle.css_model.specs.Classes.{Text}
use Rattle.css_model.specs.Components.{Component, Components, component}
use Rattle.rules_model.specs.Sheets.{components_of}
use Rattle.value_model.specs.declared.color.Color.{Color}
use Rattle.value_model.specs.declared.length_unit.Bases.{Bases}
use Rattle.value_model.specs.declared.prop.Prop.{Prop}
use Rattle.value_model.specs.declared.unit_set.UnitSet.{UnitSet}
use Rattle.value_model.specs.Colors.{color_of}
use Rattle.value_model.specs.Computing.{computed}
use Rattle.value_model.specs.Grammar.{value_of}
use Rattle.value_model.specs.CalculationGrammar.{any_length_of}
use Rattle.value_model.specs.Calculations.{ComputedLength, computed_length, in_units, leaf}
use Rattle.value_model.specs.Lengths.{length_of, length_or_percentage_of, length_value, mentioned}
use Rattle.value_model.specs.Properties.{property, properties}
use Rattle.value_model.specs.Shorthands.{Longhand, expansion_of, shorthand_of_name}
use Rattle.value_model.specs.Values.{Value, Final, length}

-- bases that tell units apart: the font sizes 10 and 20 pixels, a viewport of 1,000 by 500 pixels, and
-- a container of 300 by 400
abbrev pub bases : Bases
bases = record { em = pos 640; rem = pos 1280; vw = pos 64000; vh = pos 32000; cqw = pos 19200; cqh = pos 25600 }

-- what a reader finds in the first component value of a text
abbrev pub first : {X : Type 0} → (Component → Option X) → Components → Option X
first read (component c cs) = read c
first read other = None

-- the value of a length in millionths of a pixel
abbrev pub millionths : Text → Option ℤ
millionths text = option_map (length_value bases) (first length_of (components_of text))

-- bases that divide unevenly, and of which the heights are more than the widths
abbrev pub uneven_bases : Bases
uneven_bases =
    record { em = pos 641; rem = pos 1283; vw = pos 32001; vh = pos 64003; cqw = pos 25603; cqh = pos 19201 }

abbrev pub uneven_millionths : Text → Option ℤ
uneven_millionths css = option_map (length_value uneven_bases) (first length_of (components_of css))

-- a length or percentage as it is computed
abbrev pub in_length : Text → Option ComputedLength
in_length text = option_map (computed_length bases) (first (any_length_of true) (components_of text))

-- what a length or percentage depends on
abbrev pub bases_in : Text → Option UnitSet
bases_in css = option_map mentioned (first length_or_percentage_of (components_of css))

abbrev pub color_in : Text → Option Color
color_in text = first color_of (components_of text)

-- the value of a property as it is declared
abbrev pub declared : Prop → Text → Option Value
declared p text = value_of p (components_of text)

-- and as it is computed, below a parent with a font size of 30 pixels
abbrev pub final : Prop → Text → Option Final
final p text = option_map (λ v. computed p v bases (pos 1920)) (declared p text)

abbrev pub is_right : Prop → Text → Bool
is_right p text = is_some (declared p text)

-- the declarations of a shorthand
abbrev pub declarations : Text → Text → Option (List Longhand)
declarations name text = option_and_then (λ s. expansion_of s (components_of text)) (shorthand_of_name name)

-- the computed values that a shorthand gives
abbrev pub finals_of : List Longhand → List (Prop × Final)
finals_of longhands = map (λ l. (l.0, computed l.0 l.1 bases (pos 1920))) longhands

abbrev pub finals : Text → Text → Option (List (Prop × Final))
finals name text = option_map finals_of (declarations name text)

-- a length in units
abbrev pub units : ℕ → Final
units n = length (leaf (in_units (pos n)))

abbrev pub initial_value : Prop → Final
initial_value p = (property p).initial

abbrev pub inherited_properties : List Prop
inherited_properties = filter (λ p. (property p).is_inherited) properties
