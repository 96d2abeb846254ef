-- Hex digits in front of a text, by its bytes and by its code points.
use Rattle.std.proofs.Common.{◌≡◌, ◌∙◌, sym, ap, refl, ℕ, zero, suc, ◌<◌, min, List, [], ◌∷◌, ◌++◌, length, take, get_or, false, arith, inl, inr}
use Rattle.std.proofs.Math.Utf8.{encodes, encode}
use Rattle.std.proofs.lemmas.Bool.{cases_Bool, cases_lt}
use Rattle.std.proofs.lemmas.Str.{encodes-chars}
use Rattle.std.proofs.lemmas.Str.Ascii.{IsAscii-cons, IsAscii-nil}
use Rattle.std.specs.List.{prefix_len}
use Rattle.std.specs.Str.{chars, IsUtf8, IsAscii}
use Rattle.css_model.specs.Classes.{Text, is_hex_digit}
use Rattle.css_model.specs.inner.Fronts.{hex_digits_in}
use Rattle.css_tokens.specs.declared.classes.Class.TheVariants.{HexDigit}
use Rattle.css_tokens.proofs.Utf8Fronts.{AsciiFront, ascii-front, class-low, low-bytes, high-byte, some-byte, low-passes}

-- six are the most, also where fewer bytes are left
pub hex-within : (n : ℕ) (bs : Text) → prefix_len is_hex_digit (take (min (length bs) n) bs) ≡ length (hex_digits_in n bs)
hex-within zero [] = refl
hex-within zero (b ∷ bs) = let none : min (length (b ∷ bs)) 0 ≡ 0 = omega arith in rw none refl
hex-within (suc n) [] = let none : min 0 (suc n) ≡ 0 = omega arith in rw none refl
hex-within (suc n) (b ∷ bs) =
    let size : min (length (b ∷ bs)) (suc n) ≡ suc (min (length bs) n) = omega arith in
    let more : prefix_len is_hex_digit (take (min (length bs) n) bs) ≡ length (hex_digits_in n bs) = hex-within n bs in
    elim (cases_Bool (is_hex_digit b)) [
      | inl t ↦ rw (size, t) (omega (arith, more))
      | inr f ↦ rw (size, f) refl
    ]

hex-take : (n : ℕ) (cs : Text) → take (length (hex_digits_in n cs)) cs ≡ hex_digits_in n cs
hex-take zero cs = refl
hex-take (suc n) [] = refl
hex-take (suc n) (c ∷ cs) = elim (cases_Bool (is_hex_digit c)) [
  | inl t ↦ rw t (ap (λ l. c ∷ l) (hex-take n cs))
  | inr f ↦ rw f refl
]

hex-ascii : (n : ℕ) (cs : Text) → IsAscii (hex_digits_in n cs)
hex-ascii zero cs = IsAscii-nil
hex-ascii (suc n) [] = IsAscii-nil
hex-ascii (suc n) (c ∷ cs) = elim (cases_Bool (is_hex_digit c)) [
  | inl t ↦ rw t (IsAscii-cons c (hex_digits_in n cs) (low-passes is_hex_digit (class-low HexDigit) c t) (hex-ascii n cs))
  | inr f ↦ rw f IsAscii-nil
]

hex-none : (n : ℕ) (xs ys : Text) → 0 < length xs → is_hex_digit (get_or xs 0 0) ≡ false → hex_digits_in n (xs ++ ys) ≡ []
hex-none zero xs ys l f = refl
hex-none (suc n) [] ys l f = absurd (omega (arith, l))
hex-none (suc n) (x ∷ xs) ys l f = let none : is_hex_digit x ≡ false = f in rw none refl

hex-bytes : (n : ℕ) (cs : Text) → hex_digits_in n (encodes cs) ≡ hex_digits_in n cs
hex-bytes zero cs = refl
hex-bytes (suc n) [] = refl
hex-bytes (suc n) (c ∷ cs) = elim (cases_lt c 128) [
  | inl h ↦
      let more : hex_digits_in n (encodes cs) ≡ hex_digits_in n cs = hex-bytes n cs in
      let same : hex_digits_in (suc n) (c ∷ encodes cs) ≡ hex_digits_in (suc n) (c ∷ cs) = elim (cases_Bool (is_hex_digit c)) [
        | inl t ↦ rw t (ap (λ l. c ∷ l) more)
        | inr f ↦ rw f refl
      ] in
      ap (hex_digits_in (suc n)) (low-bytes c cs h) ∙ same
  | inr h ↦
      let none : is_hex_digit c ≡ false = class-low HexDigit c h in
      let empty : hex_digits_in (suc n) (c ∷ cs) ≡ [] = rw none refl in
      hex-none (suc n) (encode c) (encodes cs) (some-byte c) (class-low HexDigit (get_or (encode c) 0 0) (high-byte c 0 h (some-byte c))) ∙ sym empty
]

pub hex-front : (bs : List ℕ) (n : ℕ) → IsUtf8 bs → n ≡ length (hex_digits_in 6 bs) → AsciiFront bs n (hex_digits_in 6 (chars bs))
hex-front bs n u e =
    ascii-front bs n (hex_digits_in 6 bs) (hex_digits_in 6 (chars bs)) e (hex-take 6 bs)
    (ap (hex_digits_in 6) (sym (encodes-chars bs u)) ∙ hex-bytes 6 (chars bs)) (hex-take 6 (chars bs)) (hex-ascii 6 bs)
