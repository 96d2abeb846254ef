-- Which values of the definitions these are.
use Rattle.std.specs.Prelude.{List, map}
use Rattle.value_model.specs.Shorthands as shorthands
use Rattle.value_model.specs.Values as values
use Rattle.query_units.specs.Views.{length_view, computed_view}
use Rattle.prop_table.specs.declared.longhand.Longhand.{Longhand}
use Rattle.prop_table.specs.declared.value.Value.{Value}
use Rattle.prop_table.specs.declared.value.Value.TheVariants as declared
use Rattle.prop_table.specs.declared.final_value.Final.{Final}
use Rattle.prop_table.specs.declared.final_value.Final.TheVariants as final

abbrev pub value_view : Value → values.Value
value_view (declared.Wide w) = values.wide_keyword w
value_view (declared.Keyword k) = values.keyword_value k
value_view (declared.Length l) = values.length_value (length_view l)
value_view (declared.Number n) = values.number_value n
value_view (declared.Integer n) = values.integer_value n
value_view (declared.Color c) = values.color_value c
value_view (declared.Containment c) = values.containment_value c
value_view (declared.Names names) = values.names_value names

abbrev pub final_view : Final → values.Final
final_view (final.Keyword k) = values.keyword k
final_view (final.Length l) = values.length (computed_view l)
final_view (final.Number n) = values.number n
final_view (final.Alpha n) = values.alpha n
final_view (final.Integer n) = values.integer n
final_view (final.Color c) = values.color c
final_view (final.Containment c) = values.containment c
final_view (final.Names names) = values.names names

abbrev pub longhand_view : Longhand → shorthands.Longhand
longhand_view l = (l.prop, value_view l.value)

abbrev pub pairs_view : List Longhand → List shorthands.Longhand
pairs_view ls = map longhand_view ls
