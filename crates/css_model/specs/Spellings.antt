-- How each type of token is spelled (CSS Syntax 3, section 4.3).
use Rattle.std.specs.Prelude.{◌≡◌, ◌⊎◌, ℕ, ◌==◌, ◌||◌, ◌&&◌, not, List, [], ◌∷◌, ◌++◌, codes, Option, Some, Bool, true, false}
use Rattle.std.specs.List.{list_all}
use Rattle.std.specs.Map.{lookup}
use Rattle.std.specs.Option.{is_some}
use Rattle.std.specs.Str.{str_eq_ignore_ascii_case}
use Rattle.css_model.specs.declared.place.Place.TheVariants.{InName, InString, InUrl, InBadUrl}
use Rattle.css_model.specs.declared.token.Bracket.TheVariants.{Round, Square, Curly}
use Rattle.css_model.specs.declared.token.Number.{Number as NumberValue}
use Rattle.css_model.specs.declared.token.TokenType.{TokenType}
use Rattle.css_model.specs.declared.token.TokenType.TheVariants.{Ident, Function, AtKeyword, Hash, String, BadString, Url, BadUrl, Delim, Number, Percentage, Dimension, Whitespace, Cdo, Cdc, Colon, Semicolon, Comma, Opening, Closing}
use Rattle.css_model.specs.Classes.{Text, colon, semicolon, comma, open_round, close_round, open_square, close_square, open_curly, close_curly, backslash, is_digit, is_ident_start, is_newline, is_whitespace, is_quote, begins, is_empty}
use Rattle.css_model.specs.Parts.{Part, parts_text, AreParts, meanings, would_start_ident}
use Rattle.css_model.specs.Numerals.{Numeral, numeral_text, IsNumeral, begins_exponent, number_of}

-- ---- names (4.3.11)

-- `s` spells this name, which is an identifier or not, before `rest`
pub record IsName (name : Text) (is_id : Bool) (s rest : Text) : Type 0 where
  pub parts : List Part
  pub spelling : s ≡ parts_text parts
  pub are_parts : AreParts InName parts rest
  pub means : meanings InName parts ≡ name
  pub identifier : would_start_ident parts ≡ is_id

-- ---- what ends with the text if it is not closed

-- the mark that closes a comment, string or url; one that is open ends with the text
abbrev pub IsEnd : Text → Text → Text → Type 0
IsEnd mark end rest = (end ≡ mark) ⊎ ((end ≡ []) × (rest ≡ []))

-- ---- strings (4.3.5)

-- a quote, code points and escapes, and the quote again or the end of the text
pub record IsString (value s rest : Text) : Type 0 where
  pub quote : ℕ
  pub parts : List Part
  pub end : Text
  pub spelling : s ≡ quote ∷ (parts_text parts ++ end)
  pub is_quoted : is_quote quote ≡ true
  pub are_parts : AreParts (InString quote) parts (end ++ rest)
  pub means : meanings (InString quote) parts ≡ value
  pub ends : IsEnd (quote ∷ []) end rest

-- a quote, code points and escapes, before a newline
pub record IsBadString (s rest : Text) : Type 0 where
  pub quote : ℕ
  pub parts : List Part
  pub spelling : s ≡ quote ∷ parts_text parts
  pub is_quoted : is_quote quote ≡ true
  pub are_parts : AreParts (InString quote) parts rest
  pub before_newline : begins is_newline rest ≡ true

-- ---- functions and urls (4.3.4, 4.3.6, 4.3.14)

-- a quote follows, with or without whitespace before it
abbrev pub quote_follows : Text → Bool
quote_follows [] = false
quote_follows (c ∷ cs) = is_quote c || (is_whitespace c && quote_follows cs)

-- the name of urls, in any case
abbrev pub is_url_name : Text → Bool
is_url_name name = str_eq_ignore_ascii_case name (codes "url")

-- an identifier and `(`; if it is the name of urls, a quote follows
pub record IsFunction (name s rest : Text) : Type 0 where
  pub head : Text
  pub spelling : s ≡ head ++ codes "("
  pub is_name : IsName name true head (codes "(" ++ rest)
  pub no_url : is_url_name name && not (quote_follows rest) ≡ false

-- the name of urls and `(`, and no quote follows
pub record IsUrlHead (s rest : Text) : Type 0 where
  pub name : Text
  pub head : Text
  pub spelling : s ≡ head ++ codes "("
  pub is_name : IsName name true head (codes "(" ++ rest)
  pub url_name : is_url_name name ≡ true
  pub no_quote : quote_follows rest ≡ false

-- the head, code points and escapes with whitespace around them, and `)` or the end of the text
pub record IsUrl (value s rest : Text) : Type 0 where
  pub head : Text
  pub before : Text
  pub parts : List Part
  pub after : Text
  pub end : Text
  pub spelling : s ≡ head ++ (before ++ (parts_text parts ++ (after ++ end)))
  pub is_head : IsUrlHead head (before ++ (parts_text parts ++ (after ++ (end ++ rest))))
  pub whitespace_before : list_all is_whitespace before ≡ true
  pub are_parts : AreParts InUrl parts (after ++ (end ++ rest))
  pub whitespace_after : list_all is_whitespace after ≡ true
  pub means : meanings InUrl parts ≡ value
  pub ends : IsEnd (codes ")") end rest

-- the head, anything up to the first `)` that is not escaped, and not a url
pub record IsBadUrl (s rest : Text) : Type 0 where
  pub head : Text
  pub parts : List Part
  pub end : Text
  pub spelling : s ≡ head ++ (parts_text parts ++ end)
  pub is_head : IsUrlHead head (parts_text parts ++ (end ++ rest))
  pub are_parts : AreParts InBadUrl parts (end ++ rest)
  pub ends : IsEnd (codes ")") end rest
  pub no_url : (value : Text) → IsUrl value s rest → ⊥

-- ---- numbers (4.3.3)

-- a number, and this mark after it
pub record IsNumber (n : NumberValue) (mark s : Text) : Type 0 where
  pub numeral : Numeral
  pub spelling : s ≡ numeral_text numeral ++ mark
  pub is_numeral : IsNumeral numeral
  pub value : n ≡ number_of numeral

-- a number and an identifier; the number is as long as it can be, so the unit does not begin with
-- what could be its exponent
pub record IsDimension (n : NumberValue) (unit s rest : Text) : Type 0 where
  pub numeral : Numeral
  pub tail : Text
  pub spelling : s ≡ numeral_text numeral ++ tail
  pub is_numeral : IsNumeral numeral
  pub value : n ≡ number_of numeral
  pub is_unit : IsName unit true tail rest
  pub longest_number : is_empty numeral.exponent && begins_exponent tail ≡ false

-- ---- single code points (4.3.1)

-- the tokens that one code point is wherever it stands
abbrev pub singles : List (ℕ × TokenType)
singles =
    (colon, Colon) ∷ (semicolon, Semicolon) ∷ (comma, Comma)
    ∷ (open_round, Opening Round) ∷ (close_round, Closing Round)
    ∷ (open_square, Opening Square) ∷ (close_square, Closing Square)
    ∷ (open_curly, Opening Curly) ∷ (close_curly, Closing Curly) ∷ []

-- the type of a code point of that table
abbrev pub single_of : ℕ → Option TokenType
single_of c = lookup (λ d. c == d) singles

-- one code point, which is this token
pub record IsSingle (token_type : TokenType) (s : Text) : Type 0 where
  pub c : ℕ
  pub spelling : s ≡ c ∷ []
  pub is : single_of c ≡ Some token_type

-- a token of another type begins with this code point wherever it stands
abbrev pub begins_other : ℕ → Bool
begins_other c =
    is_whitespace c || (is_quote c || (is_digit c || (is_ident_start c || is_some (single_of c))))

-- any other code point; a backslash at the end of the text is an identifier
pub record IsDelim (c : ℕ) (s rest : Text) : Type 0 where
  pub spelling : s ≡ c ∷ []
  pub other : begins_other c ≡ false
  pub no_escape : (c == backslash) && is_empty rest ≡ false

-- ---- all types

-- `s` spells a token of this type and value, before `rest`
abbrev pub Spells : TokenType → Text → Text → Type 0
Spells (Ident name) s rest = IsName name true s rest
Spells (Function name) s rest = IsFunction name s rest
Spells (AtKeyword name) s rest = (tail : Text) × (s ≡ codes "@" ++ tail) × IsName name true tail rest
Spells (Hash name is_id) s rest =
    (tail : Text) × (s ≡ codes "#" ++ tail) × (is_empty tail ≡ false) × IsName name is_id tail rest
Spells (String value) s rest = IsString value s rest
Spells BadString s rest = IsBadString s rest
Spells (Url value) s rest = IsUrl value s rest
Spells BadUrl s rest = IsBadUrl s rest
Spells (Delim c) s rest = IsDelim c s rest
Spells (Number n) s rest = IsNumber n [] s
Spells (Percentage n) s rest = IsNumber n (codes "%") s
Spells (Dimension n unit) s rest = IsDimension n unit s rest
Spells Whitespace s rest = (list_all is_whitespace s ≡ true) × (is_empty s ≡ false)
Spells Cdo s rest = s ≡ codes "<!--"
Spells Cdc s rest = s ≡ codes "-->"
Spells Colon s rest = IsSingle Colon s
Spells Semicolon s rest = IsSingle Semicolon s
Spells Comma s rest = IsSingle Comma s
Spells (Opening b) s rest = IsSingle (Opening b) s
Spells (Closing b) s rest = IsSingle (Closing b) s
