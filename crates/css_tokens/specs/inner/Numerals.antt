-- The number that the slices of a numeral write.
use Rattle.css_model.specs.Numerals as model
use Rattle.css_tokens.specs.declared.numerals.Numeral.{Numeral}

abbrev pub numeral_view : Numeral → model.Numeral
numeral_view n = record {
  sign = n.sign.now;
  integer = n.integer.now;
  fraction = n.fraction.now;
  mark = n.mark.now;
  exponent_sign = n.exponent_sign.now;
  exponent = n.exponent.now;
}
