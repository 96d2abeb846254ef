-- What the type of a token tells.
use Rattle.std.specs.Prelude.{Option, Some, None, Bool, false}
use Rattle.css_model.specs.declared.token.Number.{Number as NumberValue}
use Rattle.css_model.specs.declared.token.TokenType.{TokenType}
use Rattle.css_model.specs.declared.token.TokenType.TheVariants.{Hash, Number, Percentage, Dimension}

-- the number of a number, percentage or dimension
abbrev pub number_of_type : TokenType → Option NumberValue
number_of_type (Number n) = Some n
number_of_type (Percentage n) = Some n
number_of_type (Dimension n unit) = Some n
number_of_type other = None

-- whether this is a hash that is an id
abbrev pub is_id_type : TokenType → Bool
is_id_type (Hash name is_id) = is_id
is_id_type other = false
