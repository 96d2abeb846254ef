-- What stands at the front of a text, found by computing: escapes, parts, numbers.
use Rattle.std.specs.Prelude.{ℕ, zero, suc, pred, ◌==◌, ◌&&◌, ◌||◌, List, [], ◌∷◌, length, drop, Bool, false, if◌then◌else◌}
use Rattle.css_model.specs.declared.place.Place.{Place}
use Rattle.css_model.specs.Classes.{Text, backslash, full_stop, is_digit, is_hex_digit, is_newline, is_whitespace, is_sign, begins}
use Rattle.css_model.specs.Parts.{Part, itself, escaped, hex_escape, escaped_newline, escape_at_end, part_text, parts_text, may_stand}
use Rattle.css_model.specs.Numerals.{Numeral, fraction_text, begins_exponent}

-- the first code point, if it is of this class
abbrev pub one_in : (ℕ → Bool) → Text → Text
one_in test [] = []
one_in test (c ∷ cs) = if test c then c ∷ [] else []

-- the code points in front that are of this class
abbrev pub run_in : (ℕ → Bool) → Text → Text
run_in test [] = []
run_in test (c ∷ cs) = if test c then c ∷ run_in test cs else []

-- ---- parts

-- the hex digits in front, but no more than n
abbrev pub hex_digits_in : ℕ → Text → Text
hex_digits_in zero cs = []
hex_digits_in (suc n) [] = []
hex_digits_in (suc n) (c ∷ cs) = if is_hex_digit c then c ∷ hex_digits_in n cs else []

-- the hex escape after whose backslash the text begins
abbrev pub hex_escape_in : Text → Part
hex_escape_in cs =
    hex_escape (hex_digits_in 6 cs) (one_in is_whitespace (drop (length (hex_digits_in 6 cs)) cs))

-- the escape after whose backslash the text begins
abbrev pub escape_in : Text → Part
escape_in [] = escape_at_end
escape_in (c ∷ cs) =
    if is_newline c then escaped_newline else (if is_hex_digit c then hex_escape_in (c ∷ cs) else escaped c)

-- the part that a text begins with
abbrev pub part_in : ℕ → Text → Part
part_in c cs = if c == backslash then escape_in cs else itself c

-- the parts in front, as long as they may stand at this place, after n code points that belong to a
-- part before; so the recursion is over the text
unfoldable pub parts_after : Place → ℕ → Text → List Part
parts_after place n [] = []
parts_after place (suc n) (c ∷ cs) = parts_after place n cs
parts_after place zero (c ∷ cs) =
    if may_stand place (part_in c cs)
    then part_in c cs ∷ parts_after place (pred (length (part_text (part_in c cs)))) cs
    else []

-- the parts in front, as long as they may stand at this place
abbrev pub parts_in : Place → Text → List Part
parts_in place cs = parts_after place 0 cs

-- the text after these parts
abbrev pub after_parts : List Part → Text → Text
after_parts parts cs = drop (length (parts_text parts)) cs

-- ---- numbers

-- the text begins with a number without a sign
abbrev pub begins_unsigned : Text → Bool
begins_unsigned [] = false
begins_unsigned (c ∷ cs) = is_digit c || ((c == full_stop) && begins is_digit cs)

-- the text begins with a number (CSS Syntax 3, section 4.3.10)
abbrev pub would_start_number : Text → Bool
would_start_number [] = false
would_start_number (c ∷ cs) = begins_unsigned (if is_sign c then cs else c ∷ cs)

-- the digits after a point in front
abbrev pub fraction_in : Text → Text
fraction_in [] = []
fraction_in (c ∷ cs) = if c == full_stop then run_in is_digit cs else []

-- the number of this sign, integer part and fraction, with the exponent in front of the text
abbrev pub with_exponent : Text → Text → Text → Text → Numeral
with_exponent s i f [] =
    record { sign = s; integer = i; fraction = f; mark = []; exponent_sign = []; exponent = [] }
with_exponent s i f (c ∷ cs) =
    if begins_exponent (c ∷ cs)
    then record {
      sign = s;
      integer = i;
      fraction = f;
      mark = c ∷ [];
      exponent_sign = one_in is_sign cs;
      exponent = run_in is_digit (drop (length (one_in is_sign cs)) cs);
    }
    else record { sign = s; integer = i; fraction = f; mark = []; exponent_sign = []; exponent = [] }

-- the number of this sign and integer part, with the fraction and exponent in front of the text
abbrev pub with_fraction : Text → Text → Text → Numeral
with_fraction s i cs = with_exponent s i (fraction_in cs) (drop (length (fraction_text (fraction_in cs))) cs)

-- the number of this sign, with the rest of it in front of the text
abbrev pub with_integer : Text → Text → Numeral
with_integer s cs = with_fraction s (run_in is_digit cs) (drop (length (run_in is_digit cs)) cs)

-- the number that the text begins with (CSS Syntax 3, section 4.3.12)
abbrev pub numeral_in : Text → Numeral
numeral_in cs = with_integer (one_in is_sign cs) (drop (length (one_in is_sign cs)) cs)
