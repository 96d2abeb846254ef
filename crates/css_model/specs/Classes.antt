-- The classes of code points (CSS Syntax 3, section 4.2), and what is at the front of a text.
use Rattle.std.specs.Prelude.{ℕ, ◌==◌, ◌||◌, ◌&&◌, nat_le, List, [], ◌∷◌, Bool, true, false}

-- a text: its code points, each as its number
abbrev pub Text : Type 0
Text = List ℕ

-- ---- code points with a name

abbrev pub tab : ℕ
tab = 9

abbrev pub newline : ℕ
newline = 10

abbrev pub space : ℕ
space = 32

abbrev pub double_quote : ℕ
double_quote = 34

-- `#`
abbrev pub number_sign : ℕ
number_sign = 35

abbrev pub single_quote : ℕ
single_quote = 39

abbrev pub open_round : ℕ
open_round = 40

abbrev pub close_round : ℕ
close_round = 41

abbrev pub plus : ℕ
plus = 43

abbrev pub comma : ℕ
comma = 44

abbrev pub hyphen : ℕ
hyphen = 45

abbrev pub full_stop : ℕ
full_stop = 46

-- `/`
abbrev pub solidus : ℕ
solidus = 47

abbrev pub colon : ℕ
colon = 58

abbrev pub semicolon : ℕ
semicolon = 59

abbrev pub less_than : ℕ
less_than = 60

-- `@`
abbrev pub commercial_at : ℕ
commercial_at = 64

abbrev pub open_square : ℕ
open_square = 91

abbrev pub backslash : ℕ
backslash = 92

abbrev pub close_square : ℕ
close_square = 93

abbrev pub underscore : ℕ
underscore = 95

abbrev pub open_curly : ℕ
open_curly = 123

abbrev pub close_curly : ℕ
close_curly = 125

-- U+FFFD, which replaces what is not a code point
abbrev pub replacement : ℕ
replacement = 65533

-- U+10FFFF
abbrev pub last_code_point : ℕ
last_code_point = 1114111

-- ---- classes

-- from the lowest to the highest of a range
abbrev pub is_between : ℕ → ℕ → ℕ → Bool
is_between low high c = nat_le low c && nat_le c high

-- a digit: 0 to 9
abbrev pub is_digit : ℕ → Bool
is_digit c = is_between 48 57 c

-- a hex digit: a digit, A to F or a to f
abbrev pub is_hex_digit : ℕ → Bool
is_hex_digit c = is_digit c || (is_between 65 70 c || is_between 97 102 c)

-- a letter: A to Z or a to z
abbrev pub is_letter : ℕ → Bool
is_letter c = is_between 65 90 c || is_between 97 122 c

-- an ident-start code point: a letter, a non-ASCII code point, or `_`
abbrev pub is_ident_start : ℕ → Bool
is_ident_start c = is_letter c || (nat_le 128 c || (c == underscore))

-- an ident code point: an ident-start code point, a digit or `-`
abbrev pub is_ident_char : ℕ → Bool
is_ident_char c = is_ident_start c || (is_digit c || (c == hyphen))

-- a non-printable code point: U+0000 to U+0008, U+000B, U+000E to U+001F, or U+007F
abbrev pub is_non_printable : ℕ → Bool
is_non_printable c = nat_le c 8 || ((c == 11) || (is_between 14 31 c || (c == 127)))

-- a surrogate: U+D800 to U+DFFF
abbrev pub is_surrogate : ℕ → Bool
is_surrogate c = is_between 55296 57343 c

-- a newline: U+000A, after preprocessing
abbrev pub is_newline : ℕ → Bool
is_newline c = c == newline

-- whitespace: a newline, a tab or a space
abbrev pub is_whitespace : ℕ → Bool
is_whitespace c = is_newline c || ((c == tab) || (c == space))

-- `"` or `'`
abbrev pub is_quote : ℕ → Bool
is_quote c = (c == double_quote) || (c == single_quote)

-- a sign: `+` or `-`
abbrev pub is_sign : ℕ → Bool
is_sign c = (c == plus) || (c == hyphen)

-- `E` or `e`, before an exponent
abbrev pub is_e : ℕ → Bool
is_e c = (c == 69) || (c == 101)

abbrev pub is_close_round : ℕ → Bool
is_close_round c = c == close_round

-- ---- texts

abbrev pub is_empty : Text → Bool
is_empty [] = true
is_empty (c ∷ cs) = false

-- at most one code point, which is of this class
abbrev pub is_at_most_one : (ℕ → Bool) → Text → Bool
is_at_most_one test [] = true
is_at_most_one test (c ∷ cs) = test c && is_empty cs

-- the first code point is of this class
abbrev pub begins : (ℕ → Bool) → Text → Bool
begins test [] = false
begins test (c ∷ cs) = test c

-- the second text begins with the first one
abbrev pub has_front : Text → Text → Bool
has_front [] cs = true
has_front (d ∷ ds) [] = false
has_front (d ∷ ds) (c ∷ cs) = (c == d) && has_front ds cs
