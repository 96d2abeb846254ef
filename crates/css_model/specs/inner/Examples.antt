-- Words of the examples.
use Rattle.std.specs.Prelude.{ℤ, true, false}
use Rattle.css_model.specs.declared.token.Number.{Number as NumberValue}
use Rattle.css_model.specs.Classes.{Text}
use Rattle.css_model.specs.Components.{Components}
use Rattle.css_model.specs.inner.Nesting.{nesting}
use Rattle.css_model.specs.inner.Pieces.{tokens}

-- a number of these millionths, written without a point, an exponent and a sign
abbrev pub integer : ℤ → NumberValue
integer millionths = record { millionths = millionths; is_integer = true; is_signed = false }

-- the same, with a sign
abbrev pub signed_integer : ℤ → NumberValue
signed_integer millionths = record { millionths = millionths; is_integer = true; is_signed = true }

-- a number of these millionths, written with a point or an exponent, and without a sign
abbrev pub decimal : ℤ → NumberValue
decimal millionths = record { millionths = millionths; is_integer = false; is_signed = false }

-- the same, with a sign
abbrev pub signed_decimal : ℤ → NumberValue
signed_decimal millionths = record { millionths = millionths; is_integer = false; is_signed = true }

-- the component values of a text
abbrev pub nesting_of : Text → Components
nesting_of text = nesting (tokens text)
