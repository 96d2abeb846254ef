-- The parts of a colour are from 0 to 255.
use Rattle.std.proofs.Common.{◌≡◌, refl, ℕ, ◌+◌, ◌*◌, ◌≤◌, ◌&&◌, nat_le, [], ◌∷◌, Bool, true, false, arith}
use Rattle.std.specs.Prelude.{Option, Some, None, IfSome, option_map}
use Rattle.std.specs.List.{list_all}
use Rattle.std.specs.Map.{lookup}
use Rattle.std.specs.Str.{str_eq_ignore_ascii_case}
use Rattle.std.proofs.lemmas.Bool.Decides.{nat_tests}
use Rattle.css_model.specs.declared.token.TokenType.{TokenType}
use Rattle.css_model.specs.declared.token.TokenType.TheVariants.{Ident, Hash}
use Rattle.css_model.specs.Classes.{Text, is_hex_digit}
use Rattle.css_model.specs.Components.{Component, preserved}
use Rattle.css_model.specs.Parts.{hex_digit_value}
use Rattle.value_model.specs.declared.color.Color.{Color}
use Rattle.value_model.specs.declared.color.Color.TheVariants.{CurrentColor, Rgba as AnRgba}
use Rattle.value_model.specs.declared.color.Rgba.{Rgba}
use Rattle.value_model.specs.Colors.{rgba, of_one, of_two, rgba_of_digits, rgba_of_hex, rgba_of_name, color_names, color_of_type, color_of}
use Rattle.value_laws.specs.ComputedForms.{is_rgba}
use Rattle.value_laws.proofs.Found.{if-all, if-then, if-either}
use Rattle.std.specs.Prelude.{codes}

digit-at_most : (d : ℕ) → is_hex_digit d ≡ true → hex_digit_value d ≤ 15
digit-at_most d h = grind (arith, nat_tests, h)

-- two digits write at most 255
two-at_most : (x y : ℕ) → x ≤ 15 → y ≤ 15 → nat_le (16 * x + y) 255 ≡ true
two-at_most x y h k = grind (arith, nat_tests)

two-byte : (d e : ℕ) → is_hex_digit d ≡ true → is_hex_digit e ≡ true
    → nat_le (of_two d e) 255 ≡ true
two-byte d e h k = two-at_most (hex_digit_value d) (hex_digit_value e) (digit-at_most d h)
    (digit-at_most e k)

pub four-bytes : (r g b a : ℕ) → nat_le r 255 ≡ true → nat_le g 255 ≡ true → nat_le b 255 ≡ true
    → nat_le a 255 ≡ true
    → is_rgba (rgba r g b a) ≡ true
four-bytes r g b a hr hg hb ha = rw (hr, hg, hb, ha) refl

abbrev pub IsRgba : Rgba → Type 0
IsRgba c = is_rgba c ≡ true

-- digits, one by one
abbrev Digits : Text → Type 0
Digits [] = Unit {0}
Digits (d ∷ ds) = (is_hex_digit d ≡ true) × Digits ds

left-of : (a b : Bool) → (a && b) ≡ true → a ≡ true
left-of true b h = refl
left-of false b h = h

right-of : (a b : Bool) → (a && b) ≡ true → b ≡ true
right-of true b h = h
right-of false b h = (cc)

each-digit : (ds : Text) → list_all is_hex_digit ds ≡ true → Digits ds
each-digit [] h = tt
each-digit (d ∷ ds) h = (
  left-of (is_hex_digit d) (list_all is_hex_digit ds) h,
  each-digit ds
      (right-of (is_hex_digit d) (list_all is_hex_digit ds) h),
)

of-digits : (ds : Text) → Digits ds → IfSome (rgba_of_digits ds) IsRgba
of-digits [] h = tt
of-digits (r ∷ []) h = tt
of-digits (r ∷ r2 ∷ []) h = tt
of-digits (r ∷ g ∷ b ∷ []) h =
    four-bytes (of_one r) (of_one g) (of_one b) 255
    (two-byte r r h.0 h.0) (two-byte g g h.1.0 h.1.0)
    (two-byte b b h.1.1.0 h.1.1.0) refl
of-digits (r ∷ g ∷ b ∷ a ∷ []) h =
    four-bytes (of_one r) (of_one g) (of_one b) (of_one a)
    (two-byte r r h.0 h.0) (two-byte g g h.1.0 h.1.0)
    (two-byte b b h.1.1.0 h.1.1.0) (two-byte a a h.1.1.1.0 h.1.1.1.0)
of-digits (r ∷ r2 ∷ g ∷ g2 ∷ b ∷ []) h = tt
of-digits (r ∷ r2 ∷ g ∷ g2 ∷ b ∷ b2 ∷ []) h =
    four-bytes (of_two r r2) (of_two g g2) (of_two b b2) 255
    (two-byte r r2 h.0 h.1.0) (two-byte g g2 h.1.1.0 h.1.1.1.0)
    (two-byte b b2 h.1.1.1.1.0 h.1.1.1.1.1.0) refl
of-digits (r ∷ r2 ∷ g ∷ g2 ∷ b ∷ b2 ∷ a ∷ []) h = tt
of-digits (r ∷ r2 ∷ g ∷ g2 ∷ b ∷ b2 ∷ a ∷ a2 ∷ []) h =
    four-bytes (of_two r r2) (of_two g g2) (of_two b b2) (of_two a a2)
    (two-byte r r2 h.0 h.1.0) (two-byte g g2 h.1.1.0 h.1.1.1.0)
    (two-byte b b2 h.1.1.1.1.0 h.1.1.1.1.1.0) (two-byte a a2 h.1.1.1.1.1.1.0 h.1.1.1.1.1.1.1.0)
of-digits (r ∷ r2 ∷ g ∷ g2 ∷ b ∷ b2 ∷ a ∷ a2 ∷ c ∷ ds) h = tt

pub of-hex : (name : Text) → IfSome (rgba_of_hex name) IsRgba
of-hex name = if-either (list_all is_hex_digit name) IsRgba (rgba_of_digits name) None
    (λ all. of-digits name (each-digit name all)) (λ _. tt)

pub of-name : (name : Text) → IfSome (rgba_of_name name) IsRgba
of-name name =
    if-then rgba_of_hex IsRgba (lookup (str_eq_ignore_ascii_case name) color_names)
    (if-all (λ hex. IfSome (rgba_of_hex hex) IsRgba)
    (lookup (str_eq_ignore_ascii_case name) color_names) of-hex)

-- what holds of `currentcolor` and of each colour with such parts holds of each colour that is written
abbrev pub AllColors : (Color → Type 0) → Type 0
AllColors P = P CurrentColor × ((c : Rgba) → is_rgba c ≡ true → P (AnRgba c))

rgba-found : (P : Color → Type 0) → AllColors P → (o : Option Rgba) → IfSome o IsRgba
    → IfSome (option_map (λ c. AnRgba c) o) P
rgba-found P h None k = tt
rgba-found P h (Some c) k = h.1 c k

of-type : (P : Color → Type 0) → AllColors P → (t : TokenType) → IfSome (color_of_type t) P
of-type P h (Hash name is_id) = rgba-found P h (rgba_of_hex name) (of-hex name)
of-type P h (Ident name) =
    if-either (str_eq_ignore_ascii_case name (codes "currentcolor")) P (Some CurrentColor)
    (option_map (λ c. AnRgba c) (rgba_of_name name))
    (λ _. h.0) (λ _. rgba-found P h (rgba_of_name name) (of-name name))
of-type P h other = tt

pub if-color : (P : Color → Type 0) → AllColors P → (c : Component) → IfSome (color_of c) P
if-color P h (preserved t) = of-type P h t.token_type
if-color P h other = tt
