-- What was read of a call, and what the items after it make of it.
use Rattle.std.specs.Prelude.{◌≡◌, List, [], ◌∷◌, ◌++◌, map, Option, Some, None, option_map, option_and_then, length, Bool, true, false}
use Rattle.std.specs.Map.{lookup}
use Rattle.std.specs.Str.{str_eq_ignore_ascii_case}
use Rattle.css_model.specs.declared.token.Bracket.TheVariants.{Round}
use Rattle.css_model.specs.declared.token.TokenType.{TokenType}
use Rattle.css_model.specs.declared.token.TokenType.TheVariants.{Function, Opening}
use Rattle.value_model.specs.CalculationGrammar.{CalcValue, number, length as a_length, CalcItem, Pieces, pieces_at, is_comma, sums_of, min_value, max_value, clamp_value, math_functions}
use Rattle.value_model.specs.Words.{only_of}
use Rattle.query_units.specs.Views.{length_view}
use Rattle.query_units.specs.declared.length.Length.{Length as Written}
use Rattle.query_units.specs.declared.functions.MathFunction.{MathFunction}
use Rattle.query_units.specs.declared.functions.MathFunction.TheVariants.{Calc, Min, Max, Clamp}
use Rattle.query_units.specs.declared.functions.Arguments.{Arguments}
use Rattle.query_units.specs.declared.functions.Arguments.TheVariants.{Empty, Numbers, Lengths, Invalid}
use Rattle.query_units.specs.declared.calls.Call.{Call}
use Rattle.query_units.specs.declared.sums.Sum.{Sum}
use Rattle.query_units.specs.inner.Sums.{sum_after}

-- the function of the grammar
abbrev pub function_view : MathFunction → (List CalcValue → Option CalcValue)
function_view Calc = only_of
function_view Min = min_value
function_view Max = max_value
function_view Clamp = clamp_value

-- the function that a token begins, in any case
abbrev pub called_function : TokenType → Option (List CalcValue → Option CalcValue)
called_function (Function name) = lookup (str_eq_ignore_ascii_case name) math_functions
called_function other = None

abbrev pub is_round_type : TokenType → Bool
is_round_type (Opening Round) = true
is_round_type other = false

-- the value of the call of a function with the arguments that were read and these
abbrev pub call_with : Arguments → MathFunction → List CalcValue → Option CalcValue
call_with Empty f values = function_view f values
call_with (Numbers n ns) f values = function_view f (number n ∷ (map number ns ++ values))
call_with (Lengths a ls) f values =
    function_view f (a_length (length_view a) ∷ (map (λ l. a_length (length_view l)) ls ++ values))
call_with Invalid f values = None

-- the values of a sum with these pieces after it
abbrev pub sums_after : Sum → Pieces → Option (List CalcValue)
sums_after s p =
    option_and_then (λ v. option_map (λ values. v ∷ values) (sums_of (map (λ next. next.1) p.others)))
    (sum_after s p.first)

-- the value of the call of a function with these items after what was read
unfoldable pub call_after : Call → MathFunction → List CalcItem → Option CalcValue
call_after c f items =
    option_and_then (call_with c.arguments f) (sums_after c.sum (pieces_at is_comma items))

-- one more item was taken into the call
abbrev pub TakesArgument : Call → CalcItem → Call → Type 0
TakesArgument old item new =
    (f : MathFunction) (items : List CalcItem) → call_after new f items ≡ call_after old f (item ∷ items)

-- the two of a list of two
abbrev pub AreTwo : List Written → Option (Written × Written) → Type 0
AreTwo ls (Some two) = ls ≡ two.0 ∷ two.1 ∷ []
AreTwo ls None = length ls ≡ 2 → ⊥
