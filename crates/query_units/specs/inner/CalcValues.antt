-- Which values and operators of the grammar these are.
use Rattle.value_model.specs.CalculationGrammar as grammar
use Rattle.query_units.specs.Views.{length_view}
use Rattle.query_units.specs.declared.calc_value.CalcValue.{CalcValue}
use Rattle.query_units.specs.declared.calc_value.CalcValue.TheVariants.{Number, Length}
use Rattle.query_units.specs.declared.calc_value.Operator.{Operator}
use Rattle.query_units.specs.declared.calc_value.Operator.TheVariants.{Add, Subtract, Multiply, Divide, Separate}

abbrev pub calc_value_view : CalcValue → grammar.CalcValue
calc_value_view (Number n) = grammar.number n
calc_value_view (Length a) = grammar.length (length_view a)

abbrev pub operator_view : Operator → grammar.Operator
operator_view Add = grammar.add
operator_view Subtract = grammar.subtract
operator_view Multiply = grammar.multiply
operator_view Divide = grammar.divide
operator_view Separate = grammar.separate
