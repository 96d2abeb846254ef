-- Which names with values of the definitions these are.
use Rattle.std.specs.Prelude.{List, map, Option, Some, None}
use Rattle.css_model.specs.Classes.{Text}
use Rattle.css_model.specs.Components.{Components}
use Rattle.css_tokens.specs.Nested.{components_view}
use Rattle.custom_model.specs.NamedValues.{NamedValues}
use Rattle.custom_props.specs.declared.named_value.NamedValue.{NamedValue}
use Rattle.custom_props.specs.declared.substituted.Substituted.{Substituted}
use Rattle.custom_props.specs.declared.substituted.Substituted.TheVariants.{Value, Invalid}

abbrev pub value_view : NamedValue → Text × Components
value_view v = (v.name, components_view v.value.value)

abbrev pub values_view : List NamedValue → NamedValues
values_view values = map value_view values

-- the component values of a value after substitution; one that is invalid has none
abbrev pub substituted_view : Substituted → Option Components
substituted_view (Value cs) = Some (components_view cs)
substituted_view Invalid = None
