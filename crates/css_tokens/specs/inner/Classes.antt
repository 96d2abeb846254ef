-- The test of each class of code points.
use Rattle.std.specs.Prelude.{ℕ, ◌==◌, Bool}
use Rattle.css_model.specs.Classes.{hyphen, open_round, is_close_round, is_digit, is_hex_digit, is_whitespace, is_quote, is_sign, is_e}
use Rattle.css_tokens.specs.declared.classes.Class.{Class}
use Rattle.css_tokens.specs.declared.classes.Class.TheVariants.{Digit, HexDigit, Whitespace, Sign, Hyphen, Mark, Quote, OpenRound, CloseRound}

abbrev pub test_of : Class → ℕ → Bool
test_of Digit = is_digit
test_of HexDigit = is_hex_digit
test_of Whitespace = is_whitespace
test_of Sign = is_sign
test_of Hyphen = λ c. c == hyphen
test_of Mark = is_e
test_of Quote = is_quote
test_of OpenRound = λ c. c == open_round
test_of CloseRound = is_close_round
