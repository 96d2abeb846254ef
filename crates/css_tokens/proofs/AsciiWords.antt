-- Words in ASCII, in any case, as characters and in UTF-8.
use Rattle.std.proofs.Common.{◌≡◌, ◌∙◌, ap, refl, sym, ℕ, ◌<◌, ◌≤◌, List, [], ◌∷◌, get_or, drop, map, encode_utf8_all, Bool, true, false, arith}
use Rattle.std.specs.Prelude.{◌↔◌, IsTrue}
use Rattle.std.specs.Char.{to_ascii_lowercase}
use Rattle.std.specs.Str.{chars, IsAscii, str_to_ascii_lowercase, str_eq_ignore_ascii_case}
use Rattle.std.proofs.lemmas.Bool.Decides.{nat_tests}
use Rattle.std.proofs.lemmas.Slice.Eq.{bytes_eq-Decides}
use Rattle.std.proofs.lemmas.Str.{chars-IsAscii, encodes-IsAscii}
use Rattle.std.proofs.lemmas.Str.Ascii.{IsAscii-cons}

lower-more : (c : ℕ) → c ≤ to_ascii_lowercase c
lower-more c = grind (arith, nat_tests)

-- each of these is below 128
abbrev pub AreAscii : List ℕ → Type 0
AreAscii [] = Unit {0}
AreAscii (b ∷ bs) = (b < 128) × AreAscii bs

ascii-from : (xs ys : List ℕ) → map to_ascii_lowercase xs ≡ ys → AreAscii ys → IsAscii xs
ascii-from [] ys e a = λ i. omega arith
ascii-from (x ∷ xs) [] e a = cc
ascii-from (x ∷ xs) (y ∷ ys) e a =
    let head : to_ascii_lowercase x ≡ y = ap (λ l. get_or l 0 0) e in
    let tail : map to_ascii_lowercase xs ≡ ys = ap (drop 1) e in
    IsAscii-cons x xs (omega (arith, lower-more x, head, a.0)) (ascii-from xs ys tail a.1)

both-ways : (a b : Bool) → (a ≡ true → b ≡ true) → (b ≡ true → a ≡ true) → a ≡ b
both-ways true b f g = sym (f refl)
both-ways false true f g = g refl
both-ways false false f g = refl

-- bytes compare with a word as their characters do
pub word-is : (word : List ℕ) (result : Bool) (bytes name : List ℕ) → AreAscii (map to_ascii_lowercase word)
    → (IsTrue result ↔ (map to_ascii_lowercase bytes ≡ map to_ascii_lowercase word))
    → chars bytes ≡ name → bytes ≡ encode_utf8_all name → result ≡ str_eq_ignore_ascii_case name word
word-is word result bytes name ascii test characters encoded =
    let decides = bytes_eq-Decides (str_to_ascii_lowercase name) (str_to_ascii_lowercase word) in
    both-ways result (str_eq_ignore_ascii_case name word)
    (λ t.
    let lower : map to_ascii_lowercase bytes ≡ map to_ascii_lowercase word = test.0 t in
    let same : name ≡ bytes = sym characters ∙ chars-IsAscii bytes (ascii-from bytes (map to_ascii_lowercase word) lower ascii) in
    decides.1 (ap (map to_ascii_lowercase) same ∙ lower))
    (λ t.
    let lower : map to_ascii_lowercase name ≡ map to_ascii_lowercase word = decides.0 t in
    let same : bytes ≡ name = encoded ∙ encodes-IsAscii name (ascii-from name (map to_ascii_lowercase word) lower ascii) in
    test.1 (ap (map to_ascii_lowercase) same ∙ lower))
