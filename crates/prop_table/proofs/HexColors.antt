-- Colours of hex digits.
use Rattle.std.proofs.Common.{◌≡◌, ◌∙◌, ap, sym, refl, ℕ, ◌<◌, ◌≤◌, List, [], ◌∷◌, length, get_or, Bool, true, false, ◌&&◌, if◌then◌else◌, Some, None, encode_utf8_all, arith, inl, inr}
use Rattle.std.proofs.lemmas.Bool.{cases_Bool}
use Rattle.std.proofs.lemmas.Bool.Decides.{nat_tests}
use Rattle.std.proofs.lemmas.Str.{chars-IsAscii, encodes-IsAscii}
use Rattle.std.proofs.lemmas.Str.Ascii.{IsAscii-cons}
use Rattle.std.specs.List.{list_all}
use Rattle.std.specs.Str.{chars, IsAscii}
use Rattle.css_model.proofs.Tests.{and-left, and-right}
use Rattle.css_model.specs.Classes.{is_hex_digit}
use Rattle.value_model.specs.Colors.{of_one, of_two, rgba, rgba_of_hex}
use Rattle.prop_table.specs.inner.HexDigits.{component, whole}

three-bits : (R G B : Bool) (r g b : ℕ)
    → whole (if R && R then Some r else None) (if G && G then Some g else None) (if B && B then Some b else None) (Some 255)
    ≡ (if R && (G && (B && true)) then Some (rgba r g b 255) else None)
three-bits false G B r g b = refl
three-bits true false B r g b = refl
three-bits true true false r g b = refl
three-bits true true true r g b = refl

-- three digits
pub three-digits : (xs : List ℕ) → 3 ≤ length xs → length xs < 4
    → whole (component (get_or xs 0 0) (get_or xs 0 0)) (component (get_or xs 1 0) (get_or xs 1 0))
    (component (get_or xs 2 0) (get_or xs 2 0)) (Some 255) ≡ rgba_of_hex xs
three-digits ([]) low high = absurd (omega (arith, low))
three-digits (r ∷ []) low high = absurd (omega (arith, low))
three-digits (r ∷ g ∷ []) low high = absurd (omega (arith, low))
three-digits (r ∷ g ∷ b ∷ []) low high =
    three-bits (is_hex_digit r) (is_hex_digit g) (is_hex_digit b)
    (of_one r) (of_one g) (of_one b)
three-digits (r ∷ g ∷ b ∷ more ∷ xs) low high = absurd (omega (arith, high))

four-bits : (R G B A : Bool) (r g b a : ℕ)
    → whole (if R && R then Some r else None) (if G && G then Some g else None) (if B && B then Some b else None) (if A && A then Some a else None)
    ≡ (if R && (G && (B && (A && true))) then Some (rgba r g b a) else None)
four-bits false G B A r g b a = refl
four-bits true false B A r g b a = refl
four-bits true true false A r g b a = refl
four-bits true true true false r g b a = refl
four-bits true true true true r g b a = refl

-- four digits
pub four-digits : (xs : List ℕ) → 4 ≤ length xs → length xs < 5
    → whole (component (get_or xs 0 0) (get_or xs 0 0)) (component (get_or xs 1 0) (get_or xs 1 0))
    (component (get_or xs 2 0) (get_or xs 2 0)) (component (get_or xs 3 0) (get_or xs 3 0)) ≡ rgba_of_hex xs
four-digits ([]) low high = absurd (omega (arith, low))
four-digits (r ∷ []) low high = absurd (omega (arith, low))
four-digits (r ∷ g ∷ []) low high = absurd (omega (arith, low))
four-digits (r ∷ g ∷ b ∷ []) low high = absurd (omega (arith, low))
four-digits (r ∷ g ∷ b ∷ a ∷ []) low high =
    four-bits (is_hex_digit r) (is_hex_digit g) (is_hex_digit b) (is_hex_digit a)
    (of_one r) (of_one g) (of_one b) (of_one a)
four-digits (r ∷ g ∷ b ∷ a ∷ more ∷ xs) low high = absurd (omega (arith, high))

six-bits : (R R2 G G2 B B2 : Bool) (r g b : ℕ)
    → whole (if R && R2 then Some r else None) (if G && G2 then Some g else None) (if B && B2 then Some b else None) (Some 255)
    ≡ (if R && (R2 && (G && (G2 && (B && (B2 && true))))) then Some (rgba r g b 255) else None)
six-bits false R2 G G2 B B2 r g b = refl
six-bits true false G G2 B B2 r g b = refl
six-bits true true false G2 B B2 r g b = refl
six-bits true true true false B B2 r g b = refl
six-bits true true true true false B2 r g b = refl
six-bits true true true true true false r g b = refl
six-bits true true true true true true r g b = refl

-- six digits
pub six-digits : (xs : List ℕ) → 6 ≤ length xs → length xs < 7
    → whole (component (get_or xs 0 0) (get_or xs 1 0)) (component (get_or xs 2 0) (get_or xs 3 0))
    (component (get_or xs 4 0) (get_or xs 5 0)) (Some 255) ≡ rgba_of_hex xs
six-digits ([]) low high = absurd (omega (arith, low))
six-digits (r ∷ []) low high = absurd (omega (arith, low))
six-digits (r ∷ r2 ∷ []) low high = absurd (omega (arith, low))
six-digits (r ∷ r2 ∷ g ∷ []) low high = absurd (omega (arith, low))
six-digits (r ∷ r2 ∷ g ∷ g2 ∷ []) low high = absurd (omega (arith, low))
six-digits (r ∷ r2 ∷ g ∷ g2 ∷ b ∷ []) low high = absurd (omega (arith, low))
six-digits (r ∷ r2 ∷ g ∷ g2 ∷ b ∷ b2 ∷ []) low high =
    six-bits (is_hex_digit r) (is_hex_digit r2) (is_hex_digit g) (is_hex_digit g2) (is_hex_digit b) (is_hex_digit b2)
    (of_two r r2) (of_two g g2) (of_two b b2)
six-digits (r ∷ r2 ∷ g ∷ g2 ∷ b ∷ b2 ∷ more ∷ xs) low high = absurd (omega (arith, high))

eight-bits : (R R2 G G2 B B2 A A2 : Bool) (r g b a : ℕ)
    → whole (if R && R2 then Some r else None) (if G && G2 then Some g else None) (if B && B2 then Some b else None) (if A && A2 then Some a else None)
    ≡ (if R && (R2 && (G && (G2 && (B && (B2 && (A && (A2 && true))))))) then Some (rgba r g b a) else None)
eight-bits false R2 G G2 B B2 A A2 r g b a = refl
eight-bits true false G G2 B B2 A A2 r g b a = refl
eight-bits true true false G2 B B2 A A2 r g b a = refl
eight-bits true true true false B B2 A A2 r g b a = refl
eight-bits true true true true false B2 A A2 r g b a = refl
eight-bits true true true true true false A A2 r g b a = refl
eight-bits true true true true true true false A2 r g b a = refl
eight-bits true true true true true true true false r g b a = refl
eight-bits true true true true true true true true r g b a = refl

-- eight digits
pub eight-digits : (xs : List ℕ) → 8 ≤ length xs → length xs < 9
    → whole (component (get_or xs 0 0) (get_or xs 1 0)) (component (get_or xs 2 0) (get_or xs 3 0))
    (component (get_or xs 4 0) (get_or xs 5 0)) (component (get_or xs 6 0) (get_or xs 7 0)) ≡ rgba_of_hex xs
eight-digits ([]) low high = absurd (omega (arith, low))
eight-digits (r ∷ []) low high = absurd (omega (arith, low))
eight-digits (r ∷ r2 ∷ []) low high = absurd (omega (arith, low))
eight-digits (r ∷ r2 ∷ g ∷ []) low high = absurd (omega (arith, low))
eight-digits (r ∷ r2 ∷ g ∷ g2 ∷ []) low high = absurd (omega (arith, low))
eight-digits (r ∷ r2 ∷ g ∷ g2 ∷ b ∷ []) low high = absurd (omega (arith, low))
eight-digits (r ∷ r2 ∷ g ∷ g2 ∷ b ∷ b2 ∷ []) low high = absurd (omega (arith, low))
eight-digits (r ∷ r2 ∷ g ∷ g2 ∷ b ∷ b2 ∷ a ∷ []) low high = absurd (omega (arith, low))
eight-digits (r ∷ r2 ∷ g ∷ g2 ∷ b ∷ b2 ∷ a ∷ a2 ∷ []) low high =
    eight-bits (is_hex_digit r) (is_hex_digit r2) (is_hex_digit g) (is_hex_digit g2) (is_hex_digit b) (is_hex_digit b2) (is_hex_digit a) (is_hex_digit a2)
    (of_two r r2) (of_two g g2) (of_two b b2) (of_two a a2)
eight-digits (r ∷ r2 ∷ g ∷ g2 ∷ b ∷ b2 ∷ a ∷ a2 ∷ more ∷ xs) low high = absurd (omega (arith, high))

-- ---- bytes and characters

hex-low : (c : ℕ) → is_hex_digit c ≡ true → c < 128
hex-low c e = grind (arith, nat_tests, e)

hex-ascii : (cs : List ℕ) → list_all is_hex_digit cs ≡ true → IsAscii cs
hex-ascii [] e = λ i. omega arith
hex-ascii (c ∷ cs) e =
    IsAscii-cons c cs (hex-low c (and-left (is_hex_digit c) (list_all is_hex_digit cs) e))
    (hex-ascii cs (and-right (is_hex_digit c) (list_all is_hex_digit cs) e))

-- the bytes of a text write what its characters do
pub hex-text : (bytes name : List ℕ) → chars bytes ≡ name → bytes ≡ encode_utf8_all name
    → rgba_of_hex bytes ≡ rgba_of_hex name
hex-text bytes name characters encoded = elim (cases_Bool (list_all is_hex_digit bytes)) [
  | inl t ↦ ap rgba_of_hex (sym (chars-IsAscii bytes (hex-ascii bytes t)) ∙ characters)
  | inr f ↦ elim (cases_Bool (list_all is_hex_digit name)) [
    | inl t ↦ ap rgba_of_hex (encoded ∙ encodes-IsAscii name (hex-ascii name t))
    | inr g ↦ rw (f, g) refl
  ]
]
