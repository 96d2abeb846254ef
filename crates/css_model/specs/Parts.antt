-- What names, strings and urls are made of: code points and escapes (CSS Syntax 3, sections 4.3.7
-- and 4.3.8).
use Rattle.std.specs.Prelude.{◌≡◌, ℕ, ◌+◌, ◌*◌, ◌-◌, ◌≤◌, nat_lt, nat_le, ◌==◌, ◌||◌, ◌&&◌, not, List, [], ◌∷◌, ◌++◌, length, flat_map, Bool, true, false, if◌then◌else◌}
use Rattle.std.specs.List.{list_all}
use Rattle.css_model.specs.declared.place.Place.{Place}
use Rattle.css_model.specs.declared.place.Place.TheVariants.{InName, InString, InUrl, InBadUrl}
use Rattle.css_model.specs.Classes.{Text, newline, backslash, hyphen, open_round, close_round, replacement, last_code_point, is_digit, is_hex_digit, is_ident_start, is_ident_char, is_non_printable, is_surrogate, is_newline, is_whitespace, is_quote, begins, is_at_most_one}

-- a code point that stands for itself, or an escape
pub data Part : Type 0 where
  -- a code point that is not a backslash
  itself : (c : ℕ) → Part
  -- a backslash and the code point that it stands for
  escaped : (c : ℕ) → Part
  -- a backslash, hex digits that write a code point, and perhaps one whitespace code point
  hex_escape : (digits blank : Text) → Part
  -- a backslash and a newline
  escaped_newline : Part
  -- a backslash that is the last code point of the text
  escape_at_end : Part

-- how a part is spelled
abbrev pub part_text : Part → Text
part_text (itself c) = c ∷ []
part_text (escaped c) = backslash ∷ c ∷ []
part_text (hex_escape digits blank) = backslash ∷ (digits ++ blank)
part_text escaped_newline = backslash ∷ newline ∷ []
part_text escape_at_end = backslash ∷ []

-- how parts are spelled, one after another
abbrev pub parts_text : List Part → Text
parts_text parts = flat_map part_text parts

-- ---- which parts there are

-- a hex escape is as long as it can be: nothing after it could belong to it
abbrev pub is_hex_escape_over : Text → Text → Text → Bool
is_hex_escape_over digits (c ∷ cs) rest = true
is_hex_escape_over digits [] rest =
    not (begins is_whitespace rest) && ((length digits == 6) || not (begins is_hex_digit rest))

-- one to six hex digits and at most one whitespace code point, as long as it can be
pub record IsHexEscape (digits blank rest : Text) : Type 0 where
  pub are_digits : list_all is_hex_digit digits ≡ true
  pub some : 1 ≤ length digits
  pub few : length digits ≤ 6
  pub is_blank : is_at_most_one is_whitespace blank ≡ true
  pub over : is_hex_escape_over digits blank rest ≡ true

-- this is a part, before this text: a backslash is never itself; any code point may be escaped but
-- a newline and a hex digit, which begins a hex escape
abbrev pub IsPart : Part → Text → Type 0
IsPart (itself c) rest = c == backslash ≡ false
IsPart (escaped c) rest = (is_hex_digit c ≡ false) × (is_newline c ≡ false)
IsPart (hex_escape digits blank) rest = IsHexEscape digits blank rest
IsPart escaped_newline rest = Unit {0}
IsPart escape_at_end rest = rest ≡ []

-- ---- where they stand

-- the code points that stand for themselves at a place
abbrev pub is_allowed : Place → ℕ → Bool
is_allowed InName c = is_ident_char c
is_allowed (InString quote) c = not ((c == quote) || is_newline c)
is_allowed InUrl c =
    not (is_quote c || ((c == open_round) || ((c == close_round) || (is_whitespace c || is_non_printable c))))
is_allowed InBadUrl c = not (c == close_round)

-- an escaped newline may stand in a string, and in the remnants of a bad url
abbrev pub allows_escaped_newline : Place → Bool
allows_escaped_newline InName = false
allows_escaped_newline (InString quote) = true
allows_escaped_newline InUrl = false
allows_escaped_newline InBadUrl = true

-- any other escape may stand anywhere
abbrev pub may_stand : Place → Part → Bool
may_stand place (itself c) = is_allowed place c
may_stand place escaped_newline = allows_escaped_newline place
may_stand place escape = true

-- each of these is a part, and may stand at this place
abbrev pub AreParts : Place → List Part → Text → Type 0
AreParts place [] rest = Unit {0}
AreParts place (p ∷ parts) rest =
    (may_stand place p ≡ true) × IsPart p (parts_text parts ++ rest) × AreParts place parts rest

-- ---- what they stand for

-- the value of a hex digit, of either case
abbrev pub hex_digit_value : ℕ → ℕ
hex_digit_value c = if is_digit c then c - 48 else (if nat_le c 70 then c - 55 else c - 87)

-- the number that these hex digits write after others that write n
abbrev pub hex_value_after : ℕ → Text → ℕ
hex_value_after n [] = n
hex_value_after n (c ∷ cs) = hex_value_after (n * 16 + hex_digit_value c) cs

-- the code point of this number; zero, a surrogate and a number past U+10FFFF give U+FFFD
abbrev pub code_point_of : ℕ → ℕ
code_point_of n = if (n == 0) || (is_surrogate n || nat_lt last_code_point n) then replacement else n

-- a backslash at the end of the text stands for nothing in a string, and for U+FFFD elsewhere
abbrev pub meaning_at_end : Place → Text
meaning_at_end (InString quote) = []
meaning_at_end place = replacement ∷ []

-- the code points that a part stands for
abbrev pub meaning : Place → Part → Text
meaning place (itself c) = c ∷ []
meaning place (escaped c) = c ∷ []
meaning place (hex_escape digits blank) = code_point_of (hex_value_after 0 digits) ∷ []
meaning place escaped_newline = []
meaning place escape_at_end = meaning_at_end place

-- the code points that parts stand for
abbrev pub meanings : Place → List Part → Text
meanings place parts = flat_map (meaning place) parts

-- ---- identifiers (4.3.9)

-- a name may start with it: an ident-start code point or an escape
abbrev pub starts_name : Part → Bool
starts_name (itself c) = is_ident_start c
starts_name escaped_newline = false
starts_name escape = true

-- it is a `-` that is not escaped
abbrev pub is_hyphen : Part → Bool
is_hyphen (itself c) = c == hyphen
is_hyphen escape = false

-- what may stand after a leading `-`: what starts a name, or another `-`
abbrev pub follows_hyphen : List Part → Bool
follows_hyphen [] = false
follows_hyphen (p ∷ parts) = starts_name p || is_hyphen p

-- these parts of a name would start an identifier
abbrev pub would_start_ident : List Part → Bool
would_start_ident [] = false
would_start_ident (p ∷ parts) = starts_name p || (is_hyphen p && follows_hyphen parts)
