-- How computed values are printed: in ASCII, but for the names of containers.
use Rattle.std.specs.Prelude.{ℕ, ◌/◌, ◌%◌, List, [], ◌∷◌, ◌++◌, codes, flat_map, map, if◌then◌else◌, Bool}
use Rattle.std.specs.Fmt.{signed_decimal}
use Rattle.reply_model.specs.Spelling.{field, hex_digit, quoted}
use Rattle.value_model.specs.declared.color.Color.{Color}
use Rattle.value_model.specs.declared.color.Color.TheVariants.{CurrentColor, Rgba as AnRgba}
use Rattle.value_model.specs.declared.containment.Containment.{Containment}
use Rattle.value_model.specs.Keywords.{keyword_text}
use Rattle.value_model.specs.Calculations.{length_text}
use Rattle.value_model.specs.Values.{Final, keyword, length, number, alpha, integer, color, containment, names}

-- ---- colours

-- the two digits of a component, which is from 0 to 255
abbrev pub component_text : ℕ → List ℕ
component_text n = hex_digit (n / 16) ∷ hex_digit (n % 16) ∷ []

-- the hexadecimal notation, always with alpha (CSS Color 4, section 5.2)
abbrev pub color_text : Color → List ℕ
color_text CurrentColor = codes "currentcolor"
color_text (AnRgba c) = codes "#" ++ (component_text c.red ++ (component_text c.green
    ++ (component_text c.blue ++ component_text c.alpha)))

-- ---- words

-- words with a space between them; without a word `none`
abbrev pub words_text : List (List ℕ) → List ℕ
words_text [] = codes "none"
words_text (word ∷ words) = word ++ flat_map field words

abbrev pub word_if : Bool → List ℕ → List (List ℕ)
word_if holds word = if holds then word ∷ [] else []

-- the kinds of containment in the order of their names in CSS Containment 3, section 3
abbrev pub containment_words : Containment → List (List ℕ)
containment_words c = word_if c.size (codes "size") ++ (word_if c.inline_size (codes "inline-size")
    ++ (word_if c.layout (codes "layout") ++ (word_if c.style (codes "style")
    ++ word_if c.paint (codes "paint"))))

-- ---- values

abbrev pub final_text : Final → List ℕ
final_text (keyword k) = keyword_text k
final_text (length l) = length_text l
final_text (number n) = codes "num:" ++ signed_decimal n
final_text (alpha n) = signed_decimal n
final_text (integer n) = signed_decimal n
final_text (color c) = color_text c
final_text (containment c) = words_text (containment_words c)
final_text (names ns) = words_text (map quoted ns)
