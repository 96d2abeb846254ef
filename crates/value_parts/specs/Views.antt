-- Which literals of the definitions these are.
use Rattle.std.specs.Prelude.{Bool, true, false}
use Rattle.value_model.specs.Lengths as lengths
use Rattle.value_parts.specs.declared.literal.Literal.{Literal}
use Rattle.value_parts.specs.declared.literal.Literal.TheVariants.{Dimension, Percentage}

abbrev pub literal_view : Literal → lengths.Length
literal_view (Dimension n unit) = lengths.dimension n unit
literal_view (Percentage n) = lengths.percentage n

-- it is a length, and not a percentage
abbrev pub is_dimension : lengths.Length → Bool
is_dimension (lengths.dimension n unit) = true
is_dimension (lengths.percentage n) = false
