-- Numbers as they are written, and their values (CSS Syntax 3, sections 4.3.12 and 4.3.13).
use Rattle.std.specs.Prelude.{◌≡◌, ℕ, ◌+◌, ◌*◌, ◌-◌, ◌/◌, ◌^◌, ◌==◌, ◌&&◌, ◌||◌, not, [], ◌∷◌, ◌++◌, length, ℤ, pos, neg_ℤ, Bool, true, false, if◌then◌else◌}
use Rattle.std.specs.List.{list_all}
use Rattle.units64.specs.Limits.{clamped_millionths}
use Rattle.css_model.specs.declared.token.Number.{Number}
use Rattle.css_model.specs.Classes.{Text, hyphen, full_stop, is_digit, is_sign, is_e, begins, is_empty, is_at_most_one}

-- what is written of a number: perhaps a sign, the integer part, the fraction after a point, `e` or
-- `E`, and the exponent with its sign; each may be empty
pub record Numeral : Type 0 where
  pub sign : Text
  pub integer : Text
  pub fraction : Text
  pub mark : Text
  pub exponent_sign : Text
  pub exponent : Text

-- the fraction, with its point
abbrev pub fraction_text : Text → Text
fraction_text [] = []
fraction_text (c ∷ cs) = full_stop ∷ c ∷ cs

-- the exponent, with its mark and sign
abbrev pub exponent_text : Numeral → Text
exponent_text w = w.mark ++ (w.exponent_sign ++ w.exponent)

-- how the number is written
abbrev pub numeral_text : Numeral → Text
numeral_text w = w.sign ++ (w.integer ++ (fraction_text w.fraction ++ exponent_text w))

-- ---- which of them are numbers

-- an exponent is `e` or `E`, perhaps a sign, and digits, or nothing at all
abbrev pub is_exponent : Text → Text → Text → Bool
is_exponent [] sign digits = is_empty sign && is_empty digits
is_exponent (c ∷ cs) sign digits =
    is_e c && (is_empty cs
    && (is_at_most_one is_sign sign && (list_all is_digit digits && not (is_empty digits))))

-- perhaps a sign, digits before the point or after it or both, and perhaps an exponent
pub record IsNumeral (w : Numeral) : Type 0 where
  pub sign : is_at_most_one is_sign w.sign ≡ true
  pub integer : list_all is_digit w.integer ≡ true
  pub fraction : list_all is_digit w.fraction ≡ true
  pub some_digit : is_empty w.integer && is_empty w.fraction ≡ false
  pub exponent : is_exponent w.mark w.exponent_sign w.exponent ≡ true

-- the text begins with a digit, or with a sign and a digit
abbrev pub begins_signed_digit : Text → Bool
begins_signed_digit [] = false
begins_signed_digit (c ∷ cs) = is_digit c || (is_sign c && begins is_digit cs)

-- the text begins with `e` or `E`, perhaps a sign, and a digit: after a number they would be its
-- exponent
abbrev pub begins_exponent : Text → Bool
begins_exponent [] = false
begins_exponent (c ∷ cs) = is_e c && begins_signed_digit cs

-- ---- values

-- the number that these digits write after others that write n
abbrev pub decimal_after : ℕ → Text → ℕ
decimal_after n [] = n
decimal_after n (c ∷ cs) = decimal_after (n * 10 + (c - 48)) cs

-- this sign is `-`
abbrev pub is_minus : Text → Bool
is_minus sign = begins (λ c. c == hyphen) sign

-- by how many places the exponent moves the point to the right
abbrev pub places_right : Numeral → ℕ
places_right w = if is_minus w.exponent_sign then 0 else decimal_after 0 w.exponent

-- by how many places it moves it to the left
abbrev pub places_left : Numeral → ℕ
places_left w = if is_minus w.exponent_sign then decimal_after 0 w.exponent else 0

-- the exact decimal value without its sign, in millionths, truncated to an integer number of them
abbrev pub magnitude : Numeral → ℕ
magnitude w =
    (decimal_after 0 (w.integer ++ w.fraction) * 10 ^ (6 + places_right w))
    / 10 ^ (length w.fraction + places_left w)

-- the value in millionths, clamped to what a number may be
abbrev pub value_of : Numeral → ℤ
value_of w =
    clamped_millionths (if is_minus w.sign then neg_ℤ (pos (magnitude w)) else pos (magnitude w))

-- the number that is written so
abbrev pub number_of : Numeral → Number
number_of w = record {
  millionths = value_of w;
  is_integer = is_empty w.fraction && is_empty w.exponent;
  is_signed = not (is_empty w.sign);
}
