-- Colours, and how they are written (CSS Color 4, sections 5.2, 6.1, 6.3 and 6.4).
use Rattle.std.specs.Prelude.{ℕ, ◌+◌, ◌*◌, if◌then◌else◌, List, [], ◌∷◌, codes, Option, Some, None, option_map, option_and_then}
use Rattle.std.specs.List.{list_all}
use Rattle.std.specs.Map.{lookup}
use Rattle.std.specs.Str.{str_eq_ignore_ascii_case}
use Rattle.css_model.specs.declared.token.TokenType.{TokenType}
use Rattle.css_model.specs.declared.token.TokenType.TheVariants.{Ident, Hash}
use Rattle.css_model.specs.Classes.{Text, is_hex_digit}
use Rattle.css_model.specs.Components.{Component, preserved}
use Rattle.css_model.specs.Parts.{hex_digit_value}
use Rattle.value_model.specs.declared.color.Color.{Color}
use Rattle.value_model.specs.declared.color.Color.TheVariants.{CurrentColor, Rgba as AnRgba}
use Rattle.value_model.specs.declared.color.Rgba.{Rgba}

abbrev pub rgba : ℕ → ℕ → ℕ → ℕ → Rgba
rgba red green blue alpha = record { red = red; green = green; blue = blue; alpha = alpha }

-- ---- the hexadecimal notations (section 5.2)

-- the number of two digits
abbrev pub of_two : ℕ → ℕ → ℕ
of_two high low = 16 * hex_digit_value high + hex_digit_value low

-- the number of one digit, which stands for two
abbrev pub of_one : ℕ → ℕ
of_one digit = of_two digit digit

-- three, four, six or eight digits; without alpha a colour is opaque
abbrev pub rgba_of_digits : Text → Option Rgba
rgba_of_digits (r ∷ g ∷ b ∷ []) = Some (rgba (of_one r) (of_one g) (of_one b) 255)
rgba_of_digits (r ∷ g ∷ b ∷ a ∷ []) = Some (rgba (of_one r) (of_one g) (of_one b) (of_one a))
rgba_of_digits (r ∷ r2 ∷ g ∷ g2 ∷ b ∷ b2 ∷ []) =
    Some (rgba (of_two r r2) (of_two g g2) (of_two b b2) 255)
rgba_of_digits (r ∷ r2 ∷ g ∷ g2 ∷ b ∷ b2 ∷ a ∷ a2 ∷ []) =
    Some (rgba (of_two r r2) (of_two g g2) (of_two b b2) (of_two a a2))
rgba_of_digits other = None

abbrev pub rgba_of_hex : Text → Option Rgba
rgba_of_hex name = if list_all is_hex_digit name then rgba_of_digits name else None

-- ---- names (sections 6.1 and 6.3)

-- the named colours, and their hexadecimal notation
abbrev pub color_names : List (Text × Text)
color_names =
    (codes "black", codes "000000") ∷ (codes "silver", codes "c0c0c0")
    ∷ (codes "gray", codes "808080") ∷ (codes "white", codes "ffffff")
    ∷ (codes "maroon", codes "800000") ∷ (codes "red", codes "ff0000")
    ∷ (codes "purple", codes "800080") ∷ (codes "fuchsia", codes "ff00ff")
    ∷ (codes "green", codes "008000") ∷ (codes "lime", codes "00ff00")
    ∷ (codes "olive", codes "808000") ∷ (codes "yellow", codes "ffff00")
    ∷ (codes "navy", codes "000080") ∷ (codes "blue", codes "0000ff")
    ∷ (codes "teal", codes "008080") ∷ (codes "aqua", codes "00ffff")
    ∷ (codes "orange", codes "ffa500") ∷ (codes "transparent", codes "00000000") ∷ []

-- the named colour of this name, in any case
abbrev pub rgba_of_name : Text → Option Rgba
rgba_of_name name = option_and_then rgba_of_hex (lookup (str_eq_ignore_ascii_case name) color_names)

-- ---- colours

abbrev pub color_of_type : TokenType → Option Color
color_of_type (Hash name is_id) = option_map (λ c. AnRgba c) (rgba_of_hex name)
color_of_type (Ident name) =
    if str_eq_ignore_ascii_case name (codes "currentcolor") then Some CurrentColor
    else option_map (λ c. AnRgba c) (rgba_of_name name)
color_of_type other = None

-- the colour that a component value is, if it is one
abbrev pub color_of : Component → Option Color
color_of (preserved t) = color_of_type t.token_type
color_of other = None
