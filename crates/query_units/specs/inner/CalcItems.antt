-- Which items of the grammar these are.
use Rattle.std.specs.Prelude.{option_map, Bool, false}
use Rattle.value_model.specs.CalculationGrammar as grammar
use Rattle.query_units.specs.inner.CalcValues.{calc_value_view, operator_view}
use Rattle.query_units.specs.declared.item.Item.{Item}
use Rattle.query_units.specs.declared.item.Item.TheVariants.{White, Operator, Value}

abbrev pub item_view : Item → grammar.CalcItem
item_view White = grammar.white
item_view (Operator o) = grammar.operator (operator_view o)
item_view (Value v) = grammar.value (option_map calc_value_view v)

abbrev pub is_comma_item : grammar.CalcItem → Bool
is_comma_item (grammar.operator o) = grammar.is_comma o
is_comma_item item = false
